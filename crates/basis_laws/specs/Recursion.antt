-- Inner: the basis functions by the recursion of Cox and de Boor, with their derivatives, and the laws of a field. No contract cites them:
-- `proofs/Meaning.antt` has the law that A2.3, which the contracts cite, is the recursion wherever the laws hold.
use Rattle.std.specs.Prelude.{◌≡◌, ◌≢◌, cond, List, [], ◌∷◌, ℕ, zero, suc, ◌+◌, ◌-◌, ◌≤◌, eqb, pos}
use Rattle.std.specs.Float.{binary64}
use Rattle.std.specs.Float.Ieee.{of_int}
use Rattle.meaning.specs.Scalar.{Ops, zero64, one64}
use Rattle.meaning.specs.Table.{at1}

-- a whole number as a scalar
abbrev pub whole : {A : Type 0} → Ops A → ℕ → A
whole o n = o.cst (of_int binary64 (pos n))

-- The laws of a field. What 1 over 0 is they leave open; of whole numbers they ask that 3 times 2 is 6.
pub record Field {A : Type 0} (o : Ops A) : Type 0 where
  pub plus_assoc : (a b c : A) → o.plus (o.plus a b) c ≡ o.plus a (o.plus b c)
  pub plus_comm : (a b : A) → o.plus a b ≡ o.plus b a
  pub plus_zero : (a : A) → o.plus a (o.cst zero64) ≡ a
  pub plus-opp : (a : A) → o.plus a (o.opp a) ≡ o.cst zero64
  pub minus_is : (a b : A) → o.minus a b ≡ o.plus a (o.opp b)
  pub times_assoc : (a b c : A) → o.times (o.times a b) c ≡ o.times a (o.times b c)
  pub times_comm : (a b : A) → o.times a b ≡ o.times b a
  pub times_one : (a : A) → o.times a (o.cst one64) ≡ a
  pub times-plus : (a b c : A) → o.times (o.plus a b) c ≡ o.plus (o.times a c) (o.times b c)
  pub over_is : (a b : A) → o.over a b ≡ o.times a (o.over (o.cst one64) b)
  pub inverse : (a : A) → a ≢ o.cst zero64 → o.times a (o.over (o.cst one64) a) ≡ o.cst one64
  pub six : o.times (whole o 2) (whole o 3) ≡ whole o 6

module _ {A : Type 0} (o : Ops A) where
  -- Basis function k of degree p of the knots u, at a t of span i. Of degree 0 it is 1 on its own span, and 0 elsewhere.
  unfoldable pub cox_de_boor : List A → ℕ → A → ℕ → ℕ → A
  cox_de_boor u i t k zero = cond (eqb k i) (o.cst one64) (o.cst zero64)
  cox_de_boor u i t k (suc p) =
      let rising = o.over (cox_de_boor u i t k p) (o.minus (at1 o u (k + p + 1)) (at1 o u k)) in
      let falling = o.over (cox_de_boor u i t (k + 1) p) (o.minus (at1 o u (k + p + 2)) (at1 o u (k + 1))) in
      o.plus (o.times (o.minus t (at1 o u k)) rising) (o.times (o.minus (at1 o u (k + p + 2)) t) falling)

  -- Its derivative of order d.
  unfoldable pub derived : List A → ℕ → A → ℕ → ℕ → ℕ → A
  derived u i t zero k p = cox_de_boor u i t k p
  derived u i t (suc d) k zero = o.cst zero64
  derived u i t (suc d) k (suc p) =
      let rising = o.over (derived u i t d k p) (o.minus (at1 o u (k + p + 1)) (at1 o u k)) in
      let falling = o.over (derived u i t d (k + 1) p) (o.minus (at1 o u (k + p + 2)) (at1 o u (k + 1))) in
      o.times (o.minus rising falling) (whole o (p + 1))

  -- the eight knots that the recursion asks for on span i, from knot i - 3 to knot i + 4: in this list the span is at index 3
  abbrev pub eight : List A → ℕ → List A
  eight u i =
      at1 o u (i - 3 + 0) ∷ at1 o u (i - 3 + 1) ∷ at1 o u (i - 3 + 2) ∷ at1 o u (i - 3 + 3)
      ∷ at1 o u (i - 3 + 4) ∷ at1 o u (i - 3 + 5) ∷ at1 o u (i - 3 + 6) ∷ at1 o u (i - 3 + 7) ∷ []

  -- the six differences that A2.3 divides by on span i are not 0
  abbrev pub Apart : List A → ℕ → Type 0
  Apart u i = (l r : ℕ) → l + r ≤ 2 → o.minus (at1 o u (i + 1 + r)) (at1 o u (i - l)) ≢ o.cst zero64
