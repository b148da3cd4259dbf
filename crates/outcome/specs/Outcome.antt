-- What a call leaves behind that answers numbers in a lent slice: the first refusal that applies and the slice as it was, or the numbers.
use Rattle.std.specs.Prelude.{Bool, not, ◌||◌, cond, List, [], ◌∷◌, ℕ, length, ltb, Float}
use Rattle.std.proofs.Math.Seq.{paste}
use Rattle.std.specs.Float.Ieee.Scale.{finite}
use Rattle.meaning.specs.Scalar.{plain}
use Rattle.meaning.specs.Table.{at1}
use Rattle.meaning.specs.Search.{some}
use Rattle.refusal.specs.Refusals.{Verdict, Row, row, first_of, passes}

-- one of the first k numbers is not finite
abbrev pub some_wild : List Float → ℕ → Bool
some_wild l k = some 0 k (λ i. not (finite (at1 plain l i)))

-- one of two numbers is not, the coordinates of a point that a question has of its own
abbrev pub either_wild : Float → Float → Bool
either_wild x y = not (finite x) || not (finite y)

-- the last two rules of such a call: there is room for k numbers, and each of them is finite
abbrev pub delivery_rules : List Float → ℕ → List Float → List Row
delivery_rules numbers k out = row 14 (ltb (length out) k) ∷ row 15 (some_wild numbers k) ∷ []

-- the refusal, and the slice afterwards
pub record Outcome : Type 0 where
  pub refusal : Verdict
  pub out : List Float

abbrev pub outcome : Verdict → List Float → Outcome
outcome r out = record { refusal = r; out = out }

-- by these rules: where nothing is refused, the first k of the numbers stand at the front of the slice
unfoldable pub answering : List Row → List Float → ℕ → List Float → Outcome
answering rules numbers k out = outcome (first_of rules) (cond (passes rules) (paste out 0 numbers k) out)
