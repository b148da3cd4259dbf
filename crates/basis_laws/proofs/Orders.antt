-- A2.3's orders 1 to 3 in exact arithmetic: its coefficients written out as the quotients of the recursion, over any table. Assumes nothing.
use mathlib.Core.Path.{◌≡◌, sym, ap, ◌∙◌}
use mathlib.Core.List.{List, [], ◌∷◌}
use Prim.Native.Nat.{ℕ}
use lib.ListN.{get_or}
use Rattle.meaning.specs.Scalar.{Ops, zero64, one64}
use Rattle.meaning.specs.Loops.{turns}
use Rattle.meaning.specs.Table.{at2}
use Rattle.basis.specs.Derivatives.{first_coef, mid_turn, mid_coefs, last_coef, order_of}
use Rattle.basis.specs.Basis.{values_of, order_turn, function_of, functions_of}
use Rattle.basis_laws.proofs.Field.{zero_plus, opp-opp, opp-minus, one_times, opp-times, minus-times, over-times}
use Rattle.basis_laws.specs.Recursion.{Field}

module _ {A : Type 0} (o : Ops A) (e : Field o) where
  -- the operations as these laws write them
  infixl 70 ◌⊕◌ ◌⊖◌
  infixl 80 ◌⊗◌ ◌⊘◌
  abbrev ◌⊕◌ : A → A → A
  a ⊕ b = o.plus a b

  abbrev ◌⊖◌ : A → A → A
  a ⊖ b = o.minus a b

  abbrev ◌⊗◌ : A → A → A
  a ⊗ b = o.times a b

  abbrev ◌⊘◌ : A → A → A
  a ⊘ b = o.over a b

  abbrev opp : A → A
  opp a = o.opp a

  abbrev nought : A
  nought = o.cst zero64

  abbrev one : A
  one = o.cst one64

  -- ---- sums of three terms

  last-two : (a b c : A) → a ⊕ b ⊕ c ≡ a ⊕ c ⊕ b
  last-two a b c = e.plus_assoc a b c ∙ ap (o.plus a) (e.plus_comm b c) ∙ sym (e.plus_assoc a c b)

  regroup_1 : (p q r : A) → opp p ⊖ q ⊕ r ≡ opp q ⊖ (p ⊖ r)
  regroup_1 p q r =
      rw (e.minus_is (opp p) q, e.minus_is (opp q) (p ⊖ r), opp-minus o e p r)
      (ap (λ (x : A). x ⊕ r) (e.plus_comm (opp p) (opp q)) ∙ e.plus_assoc (opp q) (opp p) r)

  regroup_2 : (p q r : A) → p ⊕ (opp r ⊖ q) ≡ p ⊖ q ⊖ r
  regroup_2 p q r =
      rw (e.minus_is (opp r) q, e.minus_is (p ⊖ q) r, e.minus_is p q)
      (sym (e.plus_assoc p (opp r) (opp q)) ∙ last-two p (opp r) (opp q))

  regroup_3 : (a b c : A) → a ⊖ (opp b ⊖ c) ≡ c ⊖ (opp b ⊖ a)
  regroup_3 a b c =
      rw (e.minus_is a (opp b ⊖ c), e.minus_is c (opp b ⊖ a), opp-minus o e (opp b) c, opp-minus o e (opp b) a, opp-opp o e b)
      (sym (e.plus_assoc a b c) ∙ e.plus_comm (a ⊕ b) c ∙ ap (o.plus c) (e.plus_comm a b))

  regroup_4 : (x y z : A) → opp x ⊖ y ⊖ z ≡ opp z ⊖ y ⊖ x
  regroup_4 x y z =
      rw (e.minus_is (opp x ⊖ y) z, e.minus_is (opp z ⊖ y) x, e.minus_is (opp x) y, e.minus_is (opp z) y)
      (e.plus_comm (opp x ⊕ opp y) (opp z) ∙ ap (o.plus (opp z)) (e.plus_comm (opp x) (opp y)) ∙ sym (e.plus_assoc (opp z) (opp y) (opp x)))

  -- ---- each order of each function, with x, y and z the values of degree 2, 1 and 0, and g, h and f the differences that they are divided by

  low_1 : (g x : A) → nought ⊕ opp one ⊘ g ⊗ x ≡ opp (x ⊘ g)
  low_1 g x = simp (zero_plus o e, over-times o e, opp-times o e, one_times o e)

  mid_1 : (g x h y : A) → one ⊘ g ⊗ x ⊕ opp one ⊘ h ⊗ y ≡ x ⊘ g ⊖ y ⊘ h
  mid_1 g x h y = simp (over-times o e, opp-times o e, one_times o e) (sym (e.minus_is _ _))

  high_1 : (g x : A) → one ⊘ g ⊗ x ≡ x ⊘ g
  high_1 g x = simp (over-times o e, one_times o e)

  low_2 : (g h y : A) → nought ⊕ opp (opp one ⊘ g) ⊘ h ⊗ y ≡ y ⊘ h ⊘ g
  low_2 g h y = simp (zero_plus o e, over-times o e, opp-times o e, one_times o e, opp-opp o e)

  mid_2 : (g k h y l z : A)
      → nought ⊕ (opp one ⊘ k ⊖ one ⊘ g) ⊘ h ⊗ y
      ⊕ opp (opp one ⊘ k) ⊘ l ⊗ z
      ≡ opp (y ⊘ h ⊘ g) ⊖ (y ⊘ h ⊘ k ⊖ z ⊘ l ⊘ k)
  mid_2 g k h y l z = simp (zero_plus o e, over-times o e, opp-times o e, minus-times o e, one_times o e, opp-opp o e) (regroup_1 _ _ _)

  next_2 : (g k h y l z : A)
      → one ⊘ g ⊘ h ⊗ y ⊕ (opp one ⊘ k ⊖ one ⊘ g) ⊘ l ⊗ z
      ≡ y ⊘ h ⊘ g ⊖ z ⊘ l ⊘ g ⊖ z ⊘ l ⊘ k
  next_2 g k h y l z = simp (over-times o e, opp-times o e, minus-times o e, one_times o e) (regroup_2 _ _ _)

  high_2 : (g h y : A) → one ⊘ g ⊘ h ⊗ y ≡ y ⊘ h ⊘ g
  high_2 g h y = simp (over-times o e, one_times o e)

  low_3 : (g h f z : A)
      → nought ⊕ opp (opp (opp one ⊘ g) ⊘ h) ⊘ f ⊗ z ≡ opp (z ⊘ f ⊘ h ⊘ g)
  low_3 g h f z = simp (zero_plus o e, over-times o e, opp-times o e, one_times o e, opp-opp o e)

  mid_3 : (g k h l f z : A)
      → nought
      ⊕ (opp (opp one ⊘ k) ⊘ l ⊖ (opp one ⊘ k ⊖ one ⊘ g) ⊘ h) ⊘ f ⊗ z
      ≡ z ⊘ f ⊘ h ⊘ g ⊖ (opp (z ⊘ f ⊘ h ⊘ k) ⊖ z ⊘ f ⊘ l ⊘ k)
  mid_3 g k h l f z = simp (zero_plus o e, over-times o e, opp-times o e, minus-times o e, one_times o e, opp-opp o e) (regroup_3 _ _ _)

  next_3 : (g k h l f z : A)
      → nought
      ⊕ ((opp one ⊘ k ⊖ one ⊘ g) ⊘ l ⊖ one ⊘ g ⊘ h) ⊘ f ⊗ z
      ≡ opp (z ⊘ f ⊘ h ⊘ g) ⊖ z ⊘ f ⊘ l ⊘ g ⊖ z ⊘ f ⊘ l ⊘ k
  next_3 g k h l f z = simp (zero_plus o e, over-times o e, opp-times o e, minus-times o e, one_times o e) (regroup_4 _ _ _)

  high_3 : (g h f z : A) → one ⊘ g ⊘ h ⊘ f ⊗ z ≡ z ⊘ f ⊘ h ⊘ g
  high_3 g h f z = simp (over-times o e, one_times o e)

  -- ---- the same, as A2.3 has them in its answer before the factors

  module _ (ndu : List (List A)) where
    -- the differences and the values of the table
    abbrev g : ℕ → A
    g c = at2 o ndu 3 c

    abbrev h : ℕ → A
    h c = at2 o ndu 2 c

    abbrev f : A
    f = at2 o ndu 1 0

    abbrev x : ℕ → A
    x c = at2 o ndu c 2

    abbrev y : ℕ → A
    y c = at2 o ndu c 1

    abbrev z : A
    z = at2 o ndu 0 0

    abbrev order : ℕ → List A
    order d = get_or (functions_of o ndu 3 (values_of o ndu)) d []

    pub order_1 : order 1
        ≡ opp (x 0 ⊘ g 0) ∷ x 0 ⊘ g 0 ⊖ x 1 ⊘ g 1 ∷ x 1 ⊘ g 1 ⊖ x 2 ⊘ g 2 ∷ x 2 ⊘ g 2 ∷ []
    unfolding functions_of function_of order_turn values_of order_of last_coef mid_coefs mid_turn first_coef turns
    order_1 i = low_1 (g 0) (x 0) i ∷ mid_1 (g 0) (x 0) (g 1) (x 1) i ∷ mid_1 (g 1) (x 1) (g 2) (x 2) i ∷ high_1 (g 2) (x 2) i ∷ []

    pub order_2 : order 2
        ≡ y 0 ⊘ h 0 ⊘ g 0
        ∷ opp (y 0 ⊘ h 0 ⊘ g 0) ⊖ (y 0 ⊘ h 0 ⊘ g 1 ⊖ y 1 ⊘ h 1 ⊘ g 1)
        ∷ y 0 ⊘ h 0 ⊘ g 1 ⊖ y 1 ⊘ h 1 ⊘ g 1 ⊖ y 1 ⊘ h 1 ⊘ g 2
        ∷ y 1 ⊘ h 1 ⊘ g 2 ∷ []
    unfolding functions_of function_of order_turn values_of order_of last_coef mid_coefs mid_turn first_coef turns
    order_2 i =
        low_2 (g 0) (h 0) (y 0) i ∷ mid_2 (g 0) (g 1) (h 0) (y 0) (h 1) (y 1) i ∷ next_2 (g 1) (g 2) (h 0) (y 0) (h 1) (y 1) i ∷ high_2 (g 2) (h 1) (y 1) i ∷ []

    pub order_3 : order 3
        ≡ opp (z ⊘ f ⊘ h 0 ⊘ g 0)
        ∷ z ⊘ f ⊘ h 0 ⊘ g 0 ⊖ (opp (z ⊘ f ⊘ h 0 ⊘ g 1) ⊖ z ⊘ f ⊘ h 1 ⊘ g 1)
        ∷ opp (z ⊘ f ⊘ h 0 ⊘ g 1) ⊖ z ⊘ f ⊘ h 1 ⊘ g 1 ⊖ z ⊘ f ⊘ h 1 ⊘ g 2
        ∷ z ⊘ f ⊘ h 1 ⊘ g 2 ∷ []
    unfolding functions_of function_of order_turn values_of order_of last_coef mid_coefs mid_turn first_coef turns
    order_3 i = low_3 (g 0) (h 0) f z i ∷ mid_3 (g 0) (g 1) (h 0) (h 1) f z i ∷ next_3 (g 1) (g 2) (h 0) (h 1) f z i ∷ high_3 (g 2) (h 1) f z i ∷ []
