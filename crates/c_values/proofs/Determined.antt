-- What a contract of a crossing allows is one outcome: two that it allows coincide. Assumes nothing.
use mathlib.Core.Path.{◌≡◌, sym, ◌∙◌}
use mathlib.Core.List.{List}
use Prim.Native.Nat.{ℕ}
use lib.Ieee.{Float}
use Rattle.partials.specs.declared.Dv.{Dv}
use Rattle.plane.specs.Vector.{Vector}
use Rattle.c_values.specs.Crossing.{AnsweredD, AnsweredAll, AnsweredP}

pub one_value : {d : Dv} {out : List Float} {n m m' : ℕ} {a b : List Float} {n₁ n₂ : ℕ} → AnsweredD d out n m a n₁ → AnsweredD d out n m' b n₂ → (m ≡ m') × (a ≡ b) × (n₁ ≡ n₂)
one_value x y = (x.number ∙ sym y.number, x.written ∙ sym y.written, x.counted ∙ sym y.counted)

-- a vector with partials, and the orders of a basis
pub one_of_all : {values : List Dv} {out : List Float} {n : List ℕ} {m m' : ℕ} {a b : List Float} {n₁ n₂ : List ℕ} → AnsweredAll values out n m a n₁
    → AnsweredAll values out n m' b n₂ → (m ≡ m') × (a ≡ b) × (n₁ ≡ n₂)
one_of_all x y = (x.number ∙ sym y.number, x.written ∙ sym y.written, x.counted ∙ sym y.counted)

pub one_pair : {v : Vector Float} {out : List Float} {m m' : ℕ} {a b : List Float} → AnsweredP v out m a → AnsweredP v out m' b → (m ≡ m') × (a ≡ b)
one_pair x y = (x.number ∙ sym y.number, x.written ∙ sym y.written)
