-- Two numbers more, x and y, in a list that a loop fills. Assumes nothing.
use mathlib.Core.Path.{◌≡◌, subst}
use mathlib.Core.Bool.{cond}
use mathlib.Core.List.{List}
use Prim.Native.Nat.{ℕ, ◌+◌, ◌*◌, ◌/◌, ◌%◌, ◌≤◌, ◌<◌}
use native.Mathlib.Nat.{le_refl}
use native.Mathlib.Omega.{arith}
use borrow.Author.Tests.{eq-eqb, ne_eqb, le-leb}
use lib.Dec.{eqb}
use lib.ListN.{length, set, take}
use lib.Seq.{take-take, length-take-le}
use lib.Ieee.{Float, nan}
use Rattle.meaning.specs.Scalar.{plain}
use Rattle.meaning.specs.Table.{at1}
use Rattle.meaning.proofs.Filling.{Filled, filled}
use Rattle.buffer.specs.Pasted.{pasted}

-- number j of those that stand in turn
abbrev pub turned : List Float → List Float → ℕ → Float
turned xs ys j = at1 plain (cond (eqb (j % 2) 0) xs ys) (j / 2)

module _ (xs ys : List Float) where
  pub even : (i : ℕ) → at1 plain xs i ≡ turned xs ys (2 * i)
  even i =
      let e : 2 * i % 2 ≡ 0 = omega arith in
      let q : 2 * i / 2 ≡ i = omega arith in
      rw (eq-eqb (2 * i % 2) 0 e, q)

  pub odd : (i : ℕ) → at1 plain ys i ≡ turned xs ys (2 * i + 1)
  odd i =
      let e : (2 * i + 1) % 2 ≡ 1 = omega arith in
      let q : (2 * i + 1) / 2 ≡ i = omega arith in
      rw (ne_eqb ((2 * i + 1) % 2) 0 (λ z. omega arith), q)

  pub two_more : {i : ℕ} {a : List Float} → Filled (turned xs ys) nan 132 (2 * i) a → i < 66
      → Filled (turned xs ys) nan 132 (2 * (i + 1)) (set (set a (2 * i) (at1 plain xs i)) (2 * i + 1) (at1 plain ys i))
  two_more {i} {a} f h =
      let e : 2 * i + 1 + 1 ≡ 2 * (i + 1) = omega arith in
      subst (λ (k : ℕ). Filled (turned xs ys) nan 132 k (set (set a (2 * i) (at1 plain xs i)) (2 * i + 1) (at1 plain ys i))) e
      (filled (filled f (omega arith) (even i)) (omega arith) (odd i))

-- what is put of a list's front
pub put_front : (l : List Float) (k : ℕ) (out : List Float) → k ≤ length l → pasted l k out 0 ≡ pasted (take k l) k out 0
unfolding pasted
put_front l k out h = rw (le-leb k (length l) h, le-leb k (length (take k l)) (omega (arith, length-take-le k l h)), take-take k k l (le_refl k))
