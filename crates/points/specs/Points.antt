-- A curve asked for its points at many parameters. docs/RULES.md, "Many at once", decides: entry k is what the question at parameter k answers alone.
use Rattle.std.specs.Prelude.{◌≡◌, List, [], ◌∷◌, ◌++◌, ℕ, ◌<◌, ltb, length, get_or, Float}
use Rattle.meaning.specs.Scalar.{plain}
use Rattle.meaning.specs.Table.{at1}
use Rattle.refusal.specs.Refusals.{Verdict, Row, row, refusal, none}
use Rattle.shape.specs.Offered.{Offered}
use Rattle.many.specs.Many.{place_of, room_row, Many, answering_many}
use Rattle.hull.specs.Promise.{InItsHull, NeverRefused}
use Rattle.point.specs.Point.{numbers_for, point_answer}

-- what is asked of the call itself, for n parameters and slices of these lengths
abbrev pub call_rows : ℕ → ℕ → ℕ → ℕ → List Row
call_rows n order out refusals = row 13 (ltb 4 order) ∷ room_row n (numbers_for order) out refusals ∷ []

-- the points at the parameters ts with their derivatives
unfoldable pub points_answer : Offered → List Float → ℕ → List Float → List ℕ → Many
points_answer who ts order out refusals =
    answering_many (who.rules ++ call_rows (length ts) order (length out) (length refusals)) (length ts) (numbers_for order)
    (λ k place. point_answer who (at1 plain ts k) order place) out refusals

-- ---- demand 3, of each parameter of a call that is not refused

abbrev pub EachInItsHull : Offered → List Float → ℕ → Verdict → List Float → List ℕ → Type 0
EachInItsHull who ts order r out' refusals' =
    r ≡ none → (k : ℕ) → k < length ts → InItsHull who (at1 plain ts k) (refusal (get_or refusals' k 0)) (place_of (numbers_for order) k out')

abbrev pub NoneRefused : Offered → List Float → ℕ → List Float → Verdict → List ℕ → Type 0
NoneRefused who ts order out r refusals' =
    r ≡ none → (k : ℕ) → k < length ts → NeverRefused who (at1 plain ts k) order (place_of (numbers_for order) k out) (refusal (get_or refusals' k 0))
