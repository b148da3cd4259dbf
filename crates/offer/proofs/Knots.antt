-- The knots that an accepted curve gives: how many there are, and that they are those of its shape. Assumes nothing.
use mathlib.Core.Path.{◌≡◌, ap, ◌∙◌}
use mathlib.Core.List.{List}
use Prim.Native.Nat.{ℕ, ◌+◌, ◌<◌}
use lib.ListN.{length, take}
use lib.Seq.{get_or-take}
use lib.Ieee.{Float, nan}
use Rattle.meaning.specs.Scalar.{plain}
use Rattle.meaning.specs.Table.{at1}
use Rattle.refusal.proofs.Rows.{Passed}
use Rattle.shape.specs.Offered.{Offered}
use Rattle.shape.proofs.Sound.{Sound}

module _ (who : Offered) (s : Sound who) (p : Passed who.rules) {us : List Float} (e : us ≡ take (who.shape.n + 4) who.shape.knots) where
  pub many_knots : length us ≡ who.shape.n + 4
  many_knots = ap length e ∙ (s.knots p).sound.long

  pub knot_in : (i : ℕ) → i < who.shape.n + 4 → at1 plain us i ≡ at1 plain who.shape.knots i
  knot_in i h = ap (λ (l : List Float). at1 plain l i) e ∙ get_or-take (who.shape.n + 4) who.shape.knots i nan h
