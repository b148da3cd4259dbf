-- A value by its doubles: two that agree are one, what each partial reads as, and the value that a cell is written with. Assumes nothing.
use mathlib.Core.Path.{◌≡◌, ap, ◌∙◌}
use mathlib.Core.Bool.{cond}
use mathlib.Core.List.{List}
use Prim.Native.Nat.{ℕ, suc, ◌≤◌, ◌<◌}
use native.Mathlib.Nat.{min-eq_left}
use native.Mathlib.Omega.{arith}
use lib.ListN.{get_or}
use lib.Dec.{ltb}
use borrow.Author.Tests.{lt-ltb, ltb-true}
use lib.Ieee.{Float, nan}
use Rattle.meaning.specs.Scalar.{zero64}
use Rattle.meaning.proofs.Tests.{by_two}
use Rattle.meaning.proofs.Filling.{nth_listed, set_front}
use Rattle.partials.specs.Dual.{count_of, part_of, partials}
use Rattle.partials.proofs.Laid.{partials_same}
use Rattle.cells.specs.Cell.{value_of}

pub value_same : (n : ℕ) (d e : ℕ → Float) → ((j : ℕ) → j ≤ n → d j ≡ e j) → value_of d n ≡ value_of e n
unfolding value_of
value_same n d e h =
    λ i. record { v = h 0 (omega arith) i; g = partials_same n (λ j. d (suc j)) (λ j. e (suc j)) (λ j b. h (suc j) (omega arith)) i; n = n }

-- ---- a value of n partials
module _ (d : ℕ → Float) (n : ℕ) (h : n ≤ 27) where
  pub value-count : count_of (value_of d n) ≡ n
  unfolding value_of
  value-count = min-eq_left h

  -- what stands among the partials
  pub value-at : (j : ℕ) → j < n → get_or (value_of d n).g j nan ≡ d (suc j)
  unfolding value_of partials
  value-at j l =
      ap (λ (g : List Float). get_or g j nan) (set_front (λ i. d (suc i)) zero64 27 n h)
      ∙ nth_listed 27 j (λ i. cond (ltb i n) (d (suc i)) zero64) nan (omega arith)
      ∙ rw (lt-ltb j n l)

  pub value_part : (j : ℕ) → part_of (value_of d n) j ≡ cond (ltb j n) (d (suc j)) zero64
  unfolding value_of
  value_part j = rw (min-eq_left h) (by_two (ltb j n) (λ e. rw e (value-at j (ltb-true j n e))) (λ e. rw e))
