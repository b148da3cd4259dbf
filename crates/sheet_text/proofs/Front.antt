-- The numbers of a section as a list. Assumes nothing.
use mathlib.Core.Path.{◌≡◌, refl, sym, ap, ◌∙◌}
use mathlib.Core.List.{List, []}
use mathlib.Core.Bool.{Bool, true, false, not}
use Prim.Native.Nat.{ℕ, ◌<◌}
use native.Mathlib.Nat.{zero-add}
use borrow.Author.Tests.{eqb-true}
use lib.Dec.{eqb}
use lib.ListN.{length}
use lib.Ieee.{Float, nan}
use Rattle.std.specs.Bool.{then_some}
use Rattle.meaning.specs.Scalar.{plain}
use Rattle.meaning.specs.Table.{at1}
use Rattle.meaning.specs.Search.{listed}
use Rattle.meaning.proofs.Tests.{by_two}
use Rattle.meaning.proofs.Filling.{length-listed, at_listed}
use Rattle.knots.specs.Given.{given, given_list}
use Rattle.sheet_read.specs.Number.{double_at}
use Rattle.sheet_read.specs.Grammar.{number_place, numbers_at}

no_numbers : (s : List ℕ) (start : ℕ) → numbers_at s start 0 ≡ []
unfolding numbers_at listed
no_numbers s start = refl

module _ (s : List ℕ) (start n : ℕ) where
  pub numbers-long : length (numbers_at s start n) ≡ n
  unfolding numbers_at
  numbers-long = length-listed 0 n (λ j. double_at s (number_place start j))

  pub number_is : (j : ℕ) → j < n → double_at s (number_place start j) ≡ at1 plain (numbers_at s start n) j
  unfolding numbers_at
  number_is j h = sym (at_listed 0 n j (λ k. double_at s (number_place start k)) nan h ∙ ap (λ (k : ℕ). double_at s (number_place start k)) (zero-add j))

-- knots are given where there are some
module _ {A : Type 0} (k : A) where
  pub are_given : (b : Bool) → given (then_some b k) ≡ b
  are_given true = refl
  are_given false = refl

  pub given_are : (s : List ℕ) (start n : ℕ) (now : A → List Float) → now k ≡ numbers_at s start n
      → given_list now (then_some (not (eqb n 0)) k) ≡ numbers_at s start n
  given_are s start n now e =
      by_two (eqb n 0)
      (λ h. rw h (sym (ap (numbers_at s start) (eqb-true n 0 h) ∙ no_numbers s start)))
      (λ h. rw h e)
