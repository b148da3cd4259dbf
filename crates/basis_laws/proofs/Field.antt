-- What follows from the laws of a field. Assumes nothing.
use mathlib.Core.Path.{◌≡◌, sym, ap, ◌∙◌}
use mathlib.Core.Logic.{◌≢◌}
use Rattle.meaning.specs.Scalar.{Ops, zero64, one64}
use Rattle.basis_laws.specs.Recursion.{Field}

module _ {A : Type 0} (o : Ops A) (e : Field o) where
  -- the operations as these laws write them
  infixl 70 ◌⊕◌ ◌⊖◌
  infixl 80 ◌⊗◌ ◌⊘◌
  abbrev ◌⊕◌ : A → A → A
  a ⊕ b = o.plus a b

  abbrev ◌⊖◌ : A → A → A
  a ⊖ b = o.minus a b

  abbrev ◌⊗◌ : A → A → A
  a ⊗ b = o.times a b

  abbrev ◌⊘◌ : A → A → A
  a ⊘ b = o.over a b

  abbrev opp : A → A
  opp a = o.opp a

  abbrev nought : A
  nought = o.cst zero64

  abbrev one : A
  one = o.cst one64

  -- ---- sums

  pub zero_plus : (a : A) → nought ⊕ a ≡ a
  zero_plus a = e.plus_comm nought a ∙ e.plus_zero a

  opp_plus_self : (a : A) → opp a ⊕ a ≡ nought
  opp_plus_self a = e.plus_comm (opp a) a ∙ e.plus-opp a

  opp_unique : (a b : A) → a ⊕ b ≡ nought → b ≡ opp a
  opp_unique a b h =
      sym (zero_plus b) ∙ ap (λ (x : A). x ⊕ b) (sym (opp_plus_self a)) ∙ e.plus_assoc (opp a) a b ∙ ap (o.plus (opp a)) h ∙ e.plus_zero (opp a)

  pub opp-opp : (a : A) → opp (opp a) ≡ a
  opp-opp a = sym (opp_unique (opp a) a (opp_plus_self a))

  opp_zero : opp nought ≡ nought
  opp_zero = sym (opp_unique nought nought (e.plus_zero nought))

  -- the terms of a sum of two sums, with the inner ones exchanged
  exchange : (a b c d : A) → a ⊕ b ⊕ (c ⊕ d) ≡ a ⊕ c ⊕ (b ⊕ d)
  exchange a b c d =
      e.plus_assoc a b (c ⊕ d)
      ∙ ap (o.plus a) (sym (e.plus_assoc b c d) ∙ ap (λ (x : A). x ⊕ d) (e.plus_comm b c) ∙ e.plus_assoc c b d)
      ∙ sym (e.plus_assoc a c (b ⊕ d))

  opp-plus : (a b : A) → opp (a ⊕ b) ≡ opp a ⊕ opp b
  opp-plus a b =
      sym (opp_unique (a ⊕ b) (opp a ⊕ opp b) (exchange a b (opp a) (opp b) ∙ rw (e.plus-opp a, e.plus-opp b) (e.plus_zero nought)))

  pub zero_minus : (a : A) → nought ⊖ a ≡ opp a
  zero_minus a = e.minus_is nought a ∙ zero_plus (opp a)

  pub minus_zero : (a : A) → a ⊖ nought ≡ a
  minus_zero a = e.minus_is a nought ∙ ap (o.plus a) opp_zero ∙ e.plus_zero a

  pub opp-minus : (a b : A) → opp (a ⊖ b) ≡ opp a ⊕ b
  opp-minus a b = ap o.opp (e.minus_is a b) ∙ opp-plus a (opp b) ∙ ap (o.plus (opp a)) (opp-opp b)

  pub through : (a b c : A) → a ⊖ b ⊕ (b ⊖ c) ≡ a ⊖ c
  through a b c =
      rw (e.minus_is a b, e.minus_is b c, e.minus_is a c)
      (e.plus_assoc a (opp b) (b ⊕ opp c)
      ∙ ap (o.plus a) (sym (e.plus_assoc (opp b) b (opp c)) ∙ ap (λ (x : A). x ⊕ opp c) (opp_plus_self b) ∙ zero_plus (opp c)))

  -- ---- products

  -- what is its own double is 0
  own_double : (a : A) → a ⊕ a ≡ a → a ≡ nought
  own_double a h =
      sym (e.plus_zero a) ∙ ap (o.plus a) (sym (e.plus-opp a)) ∙ sym (e.plus_assoc a a (opp a)) ∙ ap (λ (x : A). x ⊕ opp a) h ∙ e.plus-opp a

  zero_times : (a : A) → nought ⊗ a ≡ nought
  zero_times a = own_double (nought ⊗ a) (sym (e.times-plus nought nought a) ∙ ap (λ (x : A). x ⊗ a) (e.plus_zero nought))

  pub times_zero : (a : A) → a ⊗ nought ≡ nought
  times_zero a = e.times_comm a nought ∙ zero_times a

  pub one_times : (a : A) → one ⊗ a ≡ a
  one_times a = e.times_comm one a ∙ e.times_one a

  pub opp-times : (a b : A) → opp a ⊗ b ≡ opp (a ⊗ b)
  opp-times a b =
      opp_unique (a ⊗ b) (opp a ⊗ b) (sym (e.times-plus a (opp a) b) ∙ ap (λ (x : A). x ⊗ b) (e.plus-opp a) ∙ zero_times b)

  pub minus-times : (a b c : A) → (a ⊖ b) ⊗ c ≡ a ⊗ c ⊖ b ⊗ c
  minus-times a b c =
      ap (λ (x : A). x ⊗ c) (e.minus_is a b) ∙ e.times-plus a (opp b) c ∙ ap (o.plus (a ⊗ c)) (opp-times b c) ∙ sym (e.minus_is (a ⊗ c) (b ⊗ c))

  -- ---- quotients

  pub zero_over : (a : A) → nought ⊘ a ≡ nought
  zero_over a = e.over_is nought a ∙ zero_times (one ⊘ a)

  pub times-over : (a b : A) → b ≢ nought → b ⊗ (a ⊘ b) ≡ a
  times-over a b h =
      e.times_comm b (a ⊘ b) ∙ ap (λ (x : A). x ⊗ b) (e.over_is a b) ∙ e.times_assoc a (one ⊘ b) b
      ∙ ap (o.times a) (e.times_comm (one ⊘ b) b ∙ e.inverse b h)
      ∙ e.times_one a

  pub over-opp : (a b : A) → opp a ⊘ b ≡ opp (a ⊘ b)
  over-opp a b = e.over_is (opp a) b ∙ opp-times a (one ⊘ b) ∙ ap o.opp (sym (e.over_is a b))

  pub over-minus : (a b c : A) → (a ⊖ b) ⊘ c ≡ a ⊘ c ⊖ b ⊘ c
  over-minus a b c = e.over_is (a ⊖ b) c ∙ minus-times a b (one ⊘ c) ∙ rw (← e.over_is a c, ← e.over_is b c)

  -- a divisor goes over to the other factor
  pub over-times : (a b c : A) → a ⊘ b ⊗ c ≡ a ⊗ (c ⊘ b)
  over-times a b c =
      ap (λ (x : A). x ⊗ c) (e.over_is a b) ∙ e.times_assoc a (one ⊘ b) c
      ∙ ap (o.times a) (e.times_comm (one ⊘ b) c ∙ sym (e.over_is c b))

  -- a factor goes out of a quotient
  pub times-out : (a b c : A) → a ⊗ b ⊘ c ≡ a ⊘ c ⊗ b
  times-out a b c =
      e.over_is (a ⊗ b) c ∙ e.times_assoc a b (one ⊘ c) ∙ ap (o.times a) (e.times_comm b (one ⊘ c)) ∙ sym (e.times_assoc a (one ⊘ c) b)
      ∙ ap (λ (x : A). x ⊗ b) (sym (e.over_is a c))
