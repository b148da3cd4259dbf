-- A test is true or false, and what follows from two joined. Assumes nothing.
use mathlib.Core.Path.{◌≡◌, refl, sym}
use mathlib.Core.Bool.{Bool, true, false, ◌&&◌, ◌||◌, true≢false}

pub no : {A : Type 0} → false ≡ true → A
no h = absurd (true≢false (sym h))

-- a test that cannot be true
pub refuted : (b : Bool) → (b ≡ true → ⊥) → b ≡ false
refuted true h = absurd (h refl)
refuted false h = refl

pub by_two : (b : Bool) {A : Type 0} → (b ≡ true → A) → (b ≡ false → A) → A
by_two true h g = h refl
by_two false h g = g refl

-- tests that hold together are the same
pub same_test : (a b : Bool) → (a ≡ true → b ≡ true) → (b ≡ true → a ≡ true) → a ≡ b
same_test true b h g = sym (h refl)
same_test false true h g = g refl
same_test false false h g = refl

pub and_both : (a b : Bool) → a ≡ true → b ≡ true → a && b ≡ true
and_both true b h g = g
and_both false b h g = h

pub and_left : (a b : Bool) → a && b ≡ true → a ≡ true
and_left true b h = refl
and_left false b h = h

pub and_right : (a b : Bool) → a && b ≡ true → b ≡ true
and_right true b h = h
and_right false b h = no h

pub or_left : (a b : Bool) → a || b ≡ false → a ≡ false
or_left true b h = h
or_left false b h = refl

pub or_right : (a b : Bool) → a || b ≡ false → b ≡ false
or_right true b h = no (sym h)
or_right false b h = h

pub and-true : (b : Bool) → b && true ≡ b
and-true true = refl
and-true false = refl

pub or_false : (b : Bool) → b || false ≡ b
or_false true = refl
or_false false = refl
