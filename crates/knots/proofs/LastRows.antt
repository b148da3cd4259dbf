-- The rows 8 to 10 by what three passes tell: over the first four knots, over the last four, and over those that may repeat. Assumes nothing.
use mathlib.Core.Path.{◌≡◌}
use mathlib.Core.Bool.{true, false, cond}
use mathlib.Core.List.{List}
use Prim.Native.Nat.{ℕ, ◌+◌, ◌≤◌}
use lib.ListN.{length}
use lib.Ieee.{Float}
use Rattle.refusal.specs.Refusals.{refusal, none, first_of}
use Rattle.knots.specs.declared.Form.TheVariants.{Control}
use Rattle.meaning.specs.Search.{some}
use Rattle.knots.specs.Rules.{unlike, some_unfit, no_interval, knot_rules}
use Rattle.knots.specs.Repeat.{repeats}
use Rattle.knots.proofs.Repeats.{one_pass}
use Rattle.knots.proofs.Refused.{none-unfit}
use Rattle.knots.proofs.Accepted.{sound}

module _ (n : ℕ) (ks : List Float) (room : (4 ≤ n) × (n ≤ 66)) (long : length ks ≡ n + 4) (fit : some_unfit ks ≡ false) where
  pub first_differ : some 0 4 (unlike ks 0) ≡ true → refusal 8 ≡ first_of (knot_rules Control n true ks)
  first_differ h = rw (none-unfit n room ks long fit, h)

  module _ (first : some 0 4 (unlike ks 0) ≡ false) where
    pub last_differ : some n (n + 4) (unlike ks (n + 3)) ≡ true → refusal 8 ≡ first_of (knot_rules Control n true ks)
    last_differ h = rw (none-unfit n room ks long fit, first, h)

    module _ (last : some n (n + 4) (unlike ks (n + 3)) ≡ false) where
      pub no_interval_lem : no_interval n ks ≡ true → refusal 9 ≡ first_of (knot_rules Control n true ks)
      no_interval_lem i = rw (none-unfit n room ks long fit, first, last, i)

      module _ (i : no_interval n ks ≡ false) where
        last_row : first_of (knot_rules Control n true ks) ≡ cond (some 1 n (repeats ks)) (refusal 10) none
        last_row = rw (none-unfit n room ks long fit, first, last, i, ← one_pass ks n (sound ks n long fit first last i) room.0)

        pub too_many_lem : some 1 n (repeats ks) ≡ true → refusal 10 ≡ first_of (knot_rules Control n true ks)
        too_many_lem h = rw (last_row, h)

        pub none-applies : some 1 n (repeats ks) ≡ false → none ≡ first_of (knot_rules Control n true ks)
        none-applies h = rw (last_row, h)
