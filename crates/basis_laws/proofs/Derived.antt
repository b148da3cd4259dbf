-- The recursion's derivatives on a span: the factors taken out, and the functions that are 0 there left out. Assumes nothing.
use mathlib.Core.Path.{◌≡◌, refl, sym, ap, ◌∙◌}
use mathlib.Core.List.{List, [], ◌∷◌}
use Prim.Native.Nat.{ℕ, zero, suc, ◌+◌}
use lib.Ieee.{of_int, of_bits, round}
use Rattle.meaning.specs.Scalar.{Ops, zero64, one64}
use Rattle.meaning.specs.Table.{at1}
use Rattle.basis_laws.proofs.Field.{opp-opp, zero_minus, minus_zero, minus-times, zero_over, over-opp, over-minus, times-out}
use Rattle.basis_laws.proofs.Values.{earlier_1, before_1, before_2, after_1, further_1, after_2}
use Rattle.basis_laws.specs.Recursion.{Field, whole, cox_de_boor, derived}

-- the derivative of order d but for its factors
unfoldable pub bare : {A : Type 0} → Ops A → List A → ℕ → A → ℕ → ℕ → ℕ → A
bare o u i t zero k p = cox_de_boor o u i t k p
bare o u i t (suc d) k zero = o.cst zero64
bare o u i t (suc d) k (suc p) =
    o.minus (o.over (bare o u i t d k p) (o.minus (at1 o u (k + p + 1)) (at1 o u k)))
    (o.over (bare o u i t d (k + 1) p) (o.minus (at1 o u (k + p + 2)) (at1 o u (k + 1))))

module _ {A : Type 0} (o : Ops A) (e : Field o) where
  -- the operations as these laws write them
  infixl 70 ◌⊖◌
  infixl 80 ◌⊗◌ ◌⊘◌
  abbrev ◌⊖◌ : A → A → A
  a ⊖ b = o.minus a b

  abbrev ◌⊗◌ : A → A → A
  a ⊗ b = o.times a b

  abbrev ◌⊘◌ : A → A → A
  a ⊘ b = o.over a b

  abbrev opp : A → A
  opp a = o.opp a

  abbrev nought : A
  nought = o.cst zero64

  abbrev one : A
  one = o.cst one64

  -- ---- the factors

  factor-out : (a b g h c : A) → a ⊗ c ⊘ g ⊖ b ⊗ c ⊘ h ≡ (a ⊘ g ⊖ b ⊘ h) ⊗ c
  factor-out a b g h c = rw (times-out o e a c g, times-out o e b c h) (sym (minus-times o e (a ⊘ g) (b ⊘ h) c))

  -- 2, and then 3, are 6
  factors : (a b g h : A) → (a ⊗ whole o 2 ⊘ g ⊖ b ⊗ whole o 2 ⊘ h) ⊗ whole o 3 ≡ (a ⊘ g ⊖ b ⊘ h) ⊗ whole o 6
  factors a b g h = rw (factor-out a b g h (whole o 2), e.times_assoc (a ⊘ g ⊖ b ⊘ h) (whole o 2) (whole o 3), e.six)

  within : (g h c : A) {x y a b : A} → x ≡ a → y ≡ b → (x ⊘ g ⊖ y ⊘ h) ⊗ c ≡ (a ⊘ g ⊖ b ⊘ h) ⊗ c
  within g h c p q = rw (p, q)

  module _ (u : List A) (i : ℕ) (t : A) where
    pub factor_1 : (k : ℕ) → derived o u i t 1 k 3 ≡ bare o u i t 1 k 3 ⊗ whole o 3
    unfolding derived bare
    factor_1 k = refl

    pub factor_2 : (k : ℕ) → derived o u i t 2 k 3 ≡ bare o u i t 2 k 3 ⊗ whole o 6
    unfolding derived bare
    factor_2 k = factors _ _ _ _

    -- the factor of degree 1 is 1
    linear : (k : ℕ) → derived o u i t 1 k 1 ≡ bare o u i t 1 k 1
    unfolding derived bare of_int of_bits round
    linear k = e.times_one _

    quadratic : (k : ℕ) → derived o u i t 2 k 2 ≡ bare o u i t 2 k 2 ⊗ whole o 2
    unfolding derived bare
    quadratic k = within _ _ _ (linear k) (linear (k + 1))

    pub factor_3 : (k : ℕ) → derived o u i t 3 k 3 ≡ bare o u i t 3 k 3 ⊗ whole o 6
    unfolding derived bare
    factor_3 k = within _ _ _ (quadratic k) (quadratic (k + 1)) ∙ factors _ _ _ _

  -- ---- a step of the recursion

  none : (g h : A) {x y : A} → x ≡ nought → y ≡ nought → x ⊘ g ⊖ y ⊘ h ≡ nought
  none g h p q = rw (p, q, zero_over o e g, zero_over o e h) (minus_zero o e nought)

  falls : (g h : A) {x y : A} → x ≡ nought → x ⊘ g ⊖ y ⊘ h ≡ opp (y ⊘ h)
  falls g h p = rw (p, zero_over o e g) (zero_minus o e _)

  rises : (g h : A) {x y : A} → y ≡ nought → x ⊘ g ⊖ y ⊘ h ≡ x ⊘ g
  rises g h q = rw (q, zero_over o e h) (minus_zero o e _)

  -- two steps down are a step up
  falls_twice : (g h a : A) {x y : A} → x ≡ nought → y ≡ opp a → x ⊘ g ⊖ y ⊘ h ≡ a ⊘ h
  falls_twice g h a p q = falls g h p ∙ rw (q, over-opp o e a h) (opp-opp o e (a ⊘ h))

  fall_and_pair : (g h a b c : A) {x : A} → x ≡ opp a → x ⊘ g ⊖ (b ⊖ c) ⊘ h ≡ opp (a ⊘ g) ⊖ (b ⊘ h ⊖ c ⊘ h)
  fall_and_pair g h a b c p = rw (p, over-opp o e a g, over-minus o e b c h)

  pair_and_rise : (g h b c a : A) {y : A} → y ≡ a → (b ⊖ c) ⊘ g ⊖ y ⊘ h ≡ b ⊘ g ⊖ c ⊘ g ⊖ a ⊘ h
  pair_and_rise g h b c a p = rw (p, over-minus o e b c g)

  fall_and_rise : (g h a b : A) {x y : A} → x ≡ opp a → y ≡ b → x ⊘ g ⊖ y ⊘ h ≡ opp (a ⊘ g) ⊖ b ⊘ h
  fall_and_rise g h a b p q = rw (p, q, over-opp o e a g)

  one_and_both : (g h a b c : A) {x y : A} → x ≡ a → y ≡ opp b ⊖ c
      → x ⊘ g ⊖ y ⊘ h ≡ a ⊘ g ⊖ (opp (b ⊘ h) ⊖ c ⊘ h)
  one_and_both g h a b c p q = rw (p, q, over-minus o e (opp b) c h, over-opp o e b h)

  both_and_one : (g h b c a : A) {x y : A} → x ≡ opp b ⊖ c → y ≡ a
      → x ⊘ g ⊖ y ⊘ h ≡ opp (b ⊘ g) ⊖ c ⊘ g ⊖ a ⊘ h
  both_and_one g h b c a p q = rw (p, q, over-minus o e (opp b) c g, over-opp o e b g)

  -- ---- over eight knots

  module _ (u0 u1 u2 u3 u4 u5 u6 u7 t : A) where
    abbrev knots : List A
    knots = u0 ∷ u1 ∷ u2 ∷ u3 ∷ u4 ∷ u5 ∷ u6 ∷ u7 ∷ []

    abbrev function : ℕ → ℕ → A
    function k p = cox_de_boor o knots 3 t k p

    abbrev change : ℕ → ℕ → ℕ → A
    change d k p = bare o knots 3 t d k p

    -- the differences that functions of degree 2, 1 and 0 are divided by
    abbrev g : ℕ → A
    g k = at1 o knots (k + 3) ⊖ at1 o knots k

    abbrev h : ℕ → A
    h k = at1 o knots (k + 2) ⊖ at1 o knots k

    abbrev f : A
    f = u4 ⊖ u3

    -- order 1
    pub change_1 : change 1 0 3 ∷ change 1 1 3 ∷ change 1 2 3 ∷ change 1 3 3 ∷ []
        ≡ opp (function 1 2 ⊘ g 1) ∷ function 1 2 ⊘ g 1 ⊖ function 2 2 ⊘ g 2
        ∷ function 2 2 ⊘ g 2 ⊖ function 3 2 ⊘ g 3 ∷ function 3 2 ⊘ g 3 ∷ []
    unfolding bare
    change_1 i =
        falls (g 0) (g 1) {y = function 1 2} (before_2 o e u0 u1 u2 u3 u4 u5 u6 u7 t) i ∷ change 1 1 3 ∷ change 1 2 3
        ∷ rises (g 3) (g 4) {x = function 3 2} (after_2 o e u0 u1 u2 u3 u4 u5 u6 u7 t) i ∷ []

    -- order 1 of degree 2, then order 2
    quadratic_0 : change 1 0 2 ≡ nought
    unfolding bare
    quadratic_0 = none _ _ (earlier_1 o e u0 u1 u2 u3 u4 u5 u6 u7 t) (before_1 o e u0 u1 u2 u3 u4 u5 u6 u7 t)

    quadratic_1 : change 1 1 2 ≡ opp (function 2 1 ⊘ h 2)
    unfolding bare
    quadratic_1 = falls _ _ (before_1 o e u0 u1 u2 u3 u4 u5 u6 u7 t)

    quadratic_3 : change 1 3 2 ≡ function 3 1 ⊘ h 3
    unfolding bare
    quadratic_3 = rises _ _ (after_1 o e u0 u1 u2 u3 u4 u5 u6 u7 t)

    quadratic_4 : change 1 4 2 ≡ nought
    unfolding bare
    quadratic_4 = none _ _ (after_1 o e u0 u1 u2 u3 u4 u5 u6 u7 t) (further_1 o e u0 u1 u2 u3 u4 u5 u6 u7 t)

    change_20 : change 2 0 3 ≡ function 2 1 ⊘ h 2 ⊘ g 1
    unfolding bare
    change_20 = falls_twice _ _ _ quadratic_0 quadratic_1

    change_21 : change 2 1 3
        ≡ opp (function 2 1 ⊘ h 2 ⊘ g 1) ⊖ (function 2 1 ⊘ h 2 ⊘ g 2 ⊖ function 3 1 ⊘ h 3 ⊘ g 2)
    unfolding bare
    change_21 = fall_and_pair _ _ _ _ _ quadratic_1

    change_22 : change 2 2 3
        ≡ function 2 1 ⊘ h 2 ⊘ g 2 ⊖ function 3 1 ⊘ h 3 ⊘ g 2 ⊖ function 3 1 ⊘ h 3 ⊘ g 3
    unfolding bare
    change_22 = pair_and_rise _ _ _ _ _ quadratic_3

    change_23 : change 2 3 3 ≡ function 3 1 ⊘ h 3 ⊘ g 3
    unfolding bare
    change_23 = rises _ _ quadratic_4 ∙ ap (λ (a : A). a ⊘ g 3) quadratic_3

    -- order 1 of degree 1, order 2 of degree 2, then order 3
    linear_2 : change 1 2 1 ≡ opp (function 3 0 ⊘ f)
    unfolding bare cox_de_boor
    linear_2 = falls _ _ refl

    linear_3 : change 1 3 1 ≡ function 3 0 ⊘ f
    unfolding bare cox_de_boor
    linear_3 = rises _ _ refl

    linear_0 : change 1 0 1 ≡ nought
    unfolding bare cox_de_boor
    linear_0 = none _ _ refl refl

    linear_1 : change 1 1 1 ≡ nought
    unfolding bare cox_de_boor
    linear_1 = none _ _ refl refl

    linear_4 : change 1 4 1 ≡ nought
    unfolding bare cox_de_boor
    linear_4 = none _ _ refl refl

    linear_5 : change 1 5 1 ≡ nought
    unfolding bare cox_de_boor
    linear_5 = none _ _ refl refl

    bend_0 : change 2 0 2 ≡ nought
    unfolding bare
    bend_0 = none _ _ linear_0 linear_1

    bend_1 : change 2 1 2 ≡ function 3 0 ⊘ f ⊘ h 2
    unfolding bare
    bend_1 = falls_twice _ _ _ linear_1 linear_2

    bend_2 : change 2 2 2 ≡ opp (function 3 0 ⊘ f ⊘ h 2) ⊖ function 3 0 ⊘ f ⊘ h 3
    unfolding bare
    bend_2 = fall_and_rise _ _ _ _ linear_2 linear_3

    bend_3 : change 2 3 2 ≡ function 3 0 ⊘ f ⊘ h 3
    unfolding bare
    bend_3 = rises _ _ linear_4 ∙ ap (λ (a : A). a ⊘ h 3) linear_3

    bend_4 : change 2 4 2 ≡ nought
    unfolding bare
    bend_4 = none _ _ linear_4 linear_5

    change_30 : change 3 0 3 ≡ opp (function 3 0 ⊘ f ⊘ h 2 ⊘ g 1)
    unfolding bare
    change_30 = falls _ _ bend_0 ∙ ap (λ (a : A). opp (a ⊘ g 1)) bend_1

    change_31 : change 3 1 3
        ≡ function 3 0 ⊘ f ⊘ h 2 ⊘ g 1
        ⊖ (opp (function 3 0 ⊘ f ⊘ h 2 ⊘ g 2) ⊖ function 3 0 ⊘ f ⊘ h 3 ⊘ g 2)
    unfolding bare
    change_31 = one_and_both _ _ _ _ _ bend_1 bend_2

    change_32 : change 3 2 3
        ≡ opp (function 3 0 ⊘ f ⊘ h 2 ⊘ g 2) ⊖ function 3 0 ⊘ f ⊘ h 3 ⊘ g 2
        ⊖ function 3 0 ⊘ f ⊘ h 3 ⊘ g 3
    unfolding bare
    change_32 = both_and_one _ _ _ _ _ bend_2 bend_3

    change_33 : change 3 3 3 ≡ function 3 0 ⊘ f ⊘ h 3 ⊘ g 3
    unfolding bare
    change_33 = rises _ _ bend_4 ∙ ap (λ (a : A). a ⊘ g 3) bend_3

    pub change_2 : change 2 0 3 ∷ change 2 1 3 ∷ change 2 2 3 ∷ change 2 3 3 ∷ []
        ≡ function 2 1 ⊘ h 2 ⊘ g 1
        ∷ opp (function 2 1 ⊘ h 2 ⊘ g 1) ⊖ (function 2 1 ⊘ h 2 ⊘ g 2 ⊖ function 3 1 ⊘ h 3 ⊘ g 2)
        ∷ function 2 1 ⊘ h 2 ⊘ g 2 ⊖ function 3 1 ⊘ h 3 ⊘ g 2 ⊖ function 3 1 ⊘ h 3 ⊘ g 3
        ∷ function 3 1 ⊘ h 3 ⊘ g 3 ∷ []
    change_2 i = change_20 i ∷ change_21 i ∷ change_22 i ∷ change_23 i ∷ []

    pub change_3 : change 3 0 3 ∷ change 3 1 3 ∷ change 3 2 3 ∷ change 3 3 3 ∷ []
        ≡ opp (function 3 0 ⊘ f ⊘ h 2 ⊘ g 1)
        ∷ function 3 0 ⊘ f ⊘ h 2 ⊘ g 1
        ⊖ (opp (function 3 0 ⊘ f ⊘ h 2 ⊘ g 2) ⊖ function 3 0 ⊘ f ⊘ h 3 ⊘ g 2)
        ∷ opp (function 3 0 ⊘ f ⊘ h 2 ⊘ g 2) ⊖ function 3 0 ⊘ f ⊘ h 3 ⊘ g 2
        ⊖ function 3 0 ⊘ f ⊘ h 3 ⊘ g 3
        ∷ function 3 0 ⊘ f ⊘ h 3 ⊘ g 3 ∷ []
    change_3 i = change_30 i ∷ change_31 i ∷ change_32 i ∷ change_33 i ∷ []
