-- A2.3's table in exact arithmetic: entry r, j is function i - j + r of degree j by the recursion of Cox and de Boor, and a column sums to 1.
-- Assumes nothing.
--
-- A2.3 leaves out the functions of lower degree that are 0 on the span, makes a difference of knots from its two sides of t, and hands a quotient that
-- two neighbours have in common from one to the next; the recursion has each function by itself.
use mathlib.Core.Path.{◌≡◌, refl, sym, ap, ◌∙◌}
use mathlib.Core.Logic.{◌≢◌}
use mathlib.Core.List.{List, [], ◌∷◌}
use Prim.Native.Nat.{ℕ}
use lib.ListN.{get_or}
use Rattle.meaning.specs.Scalar.{Ops, zero64, one64}
use Rattle.meaning.specs.Loops.{turns}
use Rattle.meaning.specs.Table.{at2}
use Rattle.basis.specs.Triangle.{column_turn, column_of, sides_turn, triangle_of}
use Rattle.basis.specs.Basis.{values_of}
use Rattle.basis_laws.proofs.Field.{zero_plus, through, times_zero, zero_over, times-over}
use Rattle.basis_laws.specs.Recursion.{Field, cox_de_boor}

module _ {A : Type 0} (o : Ops A) (e : Field o) where
  -- the operations as these laws write them
  infixl 70 ◌⊕◌ ◌⊖◌
  infixl 80 ◌⊗◌ ◌⊘◌
  abbrev ◌⊕◌ : A → A → A
  a ⊕ b = o.plus a b

  abbrev ◌⊖◌ : A → A → A
  a ⊖ b = o.minus a b

  abbrev ◌⊗◌ : A → A → A
  a ⊗ b = o.times a b

  abbrev ◌⊘◌ : A → A → A
  a ⊘ b = o.over a b

  abbrev nought : A
  nought = o.cst zero64

  abbrev one : A
  one = o.cst one64

  -- ---- a step of the recursion, beside A2.3's

  -- a side whose function is 0, and a function with two of them
  side_zero : (a b : A) {x : A} → x ≡ nought → a ⊗ (x ⊘ b) ≡ nought
  side_zero a b p = rw (p, zero_over o e b, times_zero o e a)

  sides_zero : (a b c d : A) {x y : A} → x ≡ nought → y ≡ nought → a ⊗ (x ⊘ b) ⊕ c ⊗ (y ⊘ d) ≡ nought
  sides_zero a b c d p q = rw (side_zero a b p, side_zero c d q, e.plus_zero nought)

  -- A2.3's cell in the first row of a column, between, and on the diagonal
  first_cell : (a b t u w : A) {x y z : A} → x ≡ nought → z ≡ y
      → nought ⊕ (u ⊖ t) ⊗ (z ⊘ (u ⊖ t ⊕ (t ⊖ w)))
      ≡ a ⊗ (x ⊘ b) ⊕ (u ⊖ t) ⊗ (y ⊘ (u ⊖ w))
  first_cell a b t u w p q = rw (side_zero a b p, q, through o e u t w)

  mid_cell : (t u w v r : A) {x y z q : A} → q ≡ x → z ≡ y
      → (t ⊖ w) ⊗ (q ⊘ (u ⊖ t ⊕ (t ⊖ w))) ⊕ (v ⊖ t) ⊗ (z ⊘ (v ⊖ t ⊕ (t ⊖ r)))
      ≡ (t ⊖ w) ⊗ (x ⊘ (u ⊖ w)) ⊕ (v ⊖ t) ⊗ (y ⊘ (v ⊖ r))
  mid_cell t u w v r p s = rw (p, s, through o e u t w, through o e v t r)

  last_cell : (c d t u w : A) {x y q : A} → q ≡ x → y ≡ nought
      → (t ⊖ w) ⊗ (q ⊘ (u ⊖ t ⊕ (t ⊖ w)))
      ≡ (t ⊖ w) ⊗ (x ⊘ (u ⊖ w)) ⊕ c ⊗ (y ⊘ d)
  last_cell c d t u w p q = rw (side_zero c d q, p, through o e u t w) (sym (e.plus_zero _))

  -- ---- sums: each quotient stands in two neighbours, and its two factors sum to what it was divided by

  both : (t u w : A) {x : A} → u ⊖ w ≢ nought
      → (u ⊖ t) ⊗ (x ⊘ (u ⊖ w)) ⊕ (t ⊖ w) ⊗ (x ⊘ (u ⊖ w)) ≡ x
  both t u w {x} h = sym (e.times-plus _ _ _) ∙ ap (λ (a : A). a ⊗ (x ⊘ (u ⊖ w))) (through o e u t w) ∙ times-over o e x _ h

  module _ (a b c d t : A) {p q : A} (before : p ≡ nought) (after : q ≡ nought) where
    -- of degree 1, 2 and 3, from those of the degree below
    sum_two : (u w : A) {x : A} → u ⊖ w ≢ nought
        → a ⊗ (p ⊘ b) ⊕ (u ⊖ t) ⊗ (x ⊘ (u ⊖ w))
        ⊕ ((t ⊖ w) ⊗ (x ⊘ (u ⊖ w)) ⊕ c ⊗ (q ⊘ d))
        ≡ x
    sum_two u w h = rw (side_zero a b before, side_zero c d after, zero_plus o e, e.plus_zero) (both t u w h)

    sum_three : (u w v r : A) {x y : A} → u ⊖ w ≢ nought → v ⊖ r ≢ nought
        → a ⊗ (p ⊘ b) ⊕ (u ⊖ t) ⊗ (x ⊘ (u ⊖ w))
        ⊕ ((t ⊖ w) ⊗ (x ⊘ (u ⊖ w)) ⊕ (v ⊖ t) ⊗ (y ⊘ (v ⊖ r)))
        ⊕ ((t ⊖ r) ⊗ (y ⊘ (v ⊖ r)) ⊕ c ⊗ (q ⊘ d))
        ≡ x ⊕ y
    sum_three u w v r h g =
        rw (side_zero a b before, side_zero c d after, zero_plus o e, e.plus_zero, ← e.plus_assoc ((u ⊖ t) ⊗ _), both t u w h, e.plus_assoc, both t v r g)

    sum_four : (u w v r z s : A) {x y k : A} → u ⊖ w ≢ nought → v ⊖ r ≢ nought → z ⊖ s ≢ nought
        → a ⊗ (p ⊘ b) ⊕ (u ⊖ t) ⊗ (x ⊘ (u ⊖ w))
        ⊕ ((t ⊖ w) ⊗ (x ⊘ (u ⊖ w)) ⊕ (v ⊖ t) ⊗ (y ⊘ (v ⊖ r)))
        ⊕ ((t ⊖ r) ⊗ (y ⊘ (v ⊖ r)) ⊕ (z ⊖ t) ⊗ (k ⊘ (z ⊖ s)))
        ⊕ ((t ⊖ s) ⊗ (k ⊘ (z ⊖ s)) ⊕ c ⊗ (q ⊘ d))
        ≡ x ⊕ y ⊕ k
    sum_four u w v r z s {x} {y} h g f =
        rw (side_zero a b before, side_zero c d after, zero_plus o e, e.plus_zero, ← e.plus_assoc ((u ⊖ t) ⊗ _), both t u w h)
        (rw (← e.plus_assoc (x ⊕ _), e.plus_assoc x ((v ⊖ t) ⊗ _), both t v r g, e.plus_assoc (x ⊕ y), both t z s f))

  -- ---- over eight knots

  module _ (u0 u1 u2 u3 u4 u5 u6 u7 t : A) where
    abbrev knots : List A
    knots = u0 ∷ u1 ∷ u2 ∷ u3 ∷ u4 ∷ u5 ∷ u6 ∷ u7 ∷ []

    -- function k of degree p, and entry r, j of the table
    abbrev function : ℕ → ℕ → A
    function k p = cox_de_boor o knots 3 t k p

    abbrev entry : ℕ → ℕ → A
    entry r j = at2 o (triangle_of o knots 3 t) r j

    -- functions that begin after the span, or end before it
    pub after_1 : function 4 1 ≡ nought
    unfolding cox_de_boor
    after_1 = sides_zero _ _ _ _ refl refl

    pub further_1 : function 5 1 ≡ nought
    unfolding cox_de_boor
    further_1 = sides_zero _ _ _ _ refl refl

    pub after_2 : function 4 2 ≡ nought
    unfolding cox_de_boor
    after_2 = sides_zero _ _ _ _ after_1 further_1

    pub before_1 : function 1 1 ≡ nought
    unfolding cox_de_boor
    before_1 = sides_zero _ _ _ _ refl refl

    pub earlier_1 : function 0 1 ≡ nought
    unfolding cox_de_boor
    earlier_1 = sides_zero _ _ _ _ refl refl

    pub before_2 : function 0 2 ≡ nought
    unfolding cox_de_boor
    before_2 = sides_zero _ _ _ _ earlier_1 before_1

    -- the table, column by column
    pub entry_01 : entry 0 1 ≡ function 2 1
    unfolding triangle_of sides_turn column_of column_turn turns cox_de_boor
    entry_01 = first_cell _ _ t u4 u3 refl refl

    pub entry_11 : entry 1 1 ≡ function 3 1
    unfolding triangle_of sides_turn column_of column_turn turns cox_de_boor
    entry_11 = last_cell _ _ t u4 u3 refl refl

    pub entry_02 : entry 0 2 ≡ function 1 2
    unfolding triangle_of sides_turn column_of column_turn turns cox_de_boor
    entry_02 = first_cell _ _ t u4 u2 before_1 entry_01

    pub entry_12 : entry 1 2 ≡ function 2 2
    unfolding triangle_of sides_turn column_of column_turn turns cox_de_boor
    entry_12 = mid_cell t u4 u2 u5 u3 entry_01 entry_11

    pub entry_22 : entry 2 2 ≡ function 3 2
    unfolding triangle_of sides_turn column_of column_turn turns cox_de_boor
    entry_22 = last_cell _ _ t u5 u3 entry_11 after_1

    pub entry_03 : entry 0 3 ≡ function 0 3
    unfolding triangle_of sides_turn column_of column_turn turns cox_de_boor
    entry_03 = first_cell _ _ t u4 u1 before_2 entry_02

    pub entry_13 : entry 1 3 ≡ function 1 3
    unfolding triangle_of sides_turn column_of column_turn turns cox_de_boor
    entry_13 = mid_cell t u4 u1 u5 u2 entry_02 entry_12

    pub entry_23 : entry 2 3 ≡ function 2 3
    unfolding triangle_of sides_turn column_of column_turn turns cox_de_boor
    entry_23 = mid_cell t u5 u2 u6 u3 entry_12 entry_22

    pub entry_33 : entry 3 3 ≡ function 3 3
    unfolding triangle_of sides_turn column_of column_turn turns cox_de_boor
    entry_33 = last_cell _ _ t u6 u3 entry_22 after_2

    pub values-eight : get_or (values_of o (triangle_of o knots 3 t)) 0 [] ≡ function 0 3 ∷ function 1 3 ∷ function 2 3 ∷ function 3 3 ∷ []
    unfolding values_of turns
    values-eight i = entry_03 i ∷ entry_13 i ∷ entry_23 i ∷ entry_33 i ∷ []

    -- the sums, degree by degree, where the six differences are not 0
    module _
        (h43 : u4 ⊖ u3 ≢ nought) (h42 : u4 ⊖ u2 ≢ nought) (h53 : u5 ⊖ u3 ≢ nought)
        (h41 : u4 ⊖ u1 ≢ nought) (h52 : u5 ⊖ u2 ≢ nought) (h63 : u6 ⊖ u3 ≢ nought)
      where
        sum_1 : function 2 1 ⊕ function 3 1 ≡ one
        unfolding cox_de_boor
        sum_1 = sum_two _ _ _ _ t refl refl u4 u3 h43

        sum_2 : function 1 2 ⊕ function 2 2 ⊕ function 3 2 ≡ function 2 1 ⊕ function 3 1
        unfolding cox_de_boor
        sum_2 = sum_three _ _ _ _ t before_1 after_1 u4 u2 u5 u3 h42 h53

        sum_3 : function 0 3 ⊕ function 1 3 ⊕ function 2 3 ⊕ function 3 3 ≡ function 1 2 ⊕ function 2 2 ⊕ function 3 2
        unfolding cox_de_boor
        sum_3 = sum_four _ _ _ _ t before_2 after_2 u4 u1 u5 u2 u6 u3 h41 h52 h63

        pub sum_eight : function 0 3 ⊕ function 1 3 ⊕ function 2 3 ⊕ function 3 3 ≡ one
        sum_eight = sum_3 ∙ sum_2 ∙ sum_1
