-- What stands in each column of a row that four numbers and the right sides make, over any scalar. Assumes nothing.
use mathlib.Core.Path.{◌≡◌, refl, ap}
use mathlib.Core.Bool.{cond}
use mathlib.Core.List.{List}
use Prim.Native.Nat.{ℕ, ◌+◌, ◌-◌, ◌≤◌, ◌<◌}
use native.Mathlib.Omega.{arith}
use borrow.Author.Tests.{ltb-true, ltb-false, lt-ltb, le-ltb, le-leb, lt-leb}
use lib.Dec.{ltb, eqb}
use Rattle.meaning.specs.Scalar.{Ops, zero64}
use Rattle.meaning.specs.Table.{at1}
use Rattle.meaning.proofs.Tests.{by_two}
use Rattle.plane.specs.Vector.{Vector}
use Rattle.fit.specs.System.{spread, with_sides}

-- the four stand in the columns a to a + 3
module _ {A : Type 0} (o : Ops A) (four : List A) (a m : ℕ) (b : Vector A) (high : a + 3 < m) where
  abbrev row : ℕ → A
  row = with_sides o m (spread o four (a + 3)) b

  -- column a + j
  pub column_is : (k j : ℕ) → j ≤ 3 → k ≡ a + j → row k ≡ at1 o four j
  unfolding with_sides spread
  column_is k j h e =
      rw (lt-ltb k m (omega arith), le-leb (a + 3) (k + 3) (omega arith), le-leb k (a + 3) (omega arith)) (ap (at1 o four) (omega arith))

  pub elsewhere : (k : ℕ) → k < m → ((j : ℕ) → j ≤ 3 → k ≡ a + j → ⊥) → row k ≡ o.cst zero64
  unfolding with_sides spread
  elsewhere k h other =
      by_two (ltb k a)
      (λ t. let l = ltb-true k a t in rw (lt-ltb k m h, lt-leb (a + 3) (k + 3) (omega arith)) refl)
      (λ t.
      let l = ltb-false k a t in
      let above : a + 3 < k = by_two (ltb (a + 3) k) (ltb-true (a + 3) k) (λ u. absurd (other (k - a) (omega (arith, ltb-false (a + 3) k u)) (omega arith))) in
      rw (lt-ltb k m h, le-leb (a + 3) (k + 3) (omega arith), lt-leb k (a + 3) above) refl)

  pub sides_are : (k : ℕ) → m ≤ k → row k ≡ cond (eqb k m) b.x b.y
  unfolding with_sides
  sides_are k h = rw (le-ltb k m h) refl
