-- What a call for the residuals leaves behind. docs/RULES.md, "Refusals", "Buffers" and "Residual rows", decide. With n handles there are c = 2n + 3
-- variables.
use Rattle.std.specs.Prelude.{Bool, not, ◌&&◌, ◌||◌, cond, ℕ, ◌+◌, ◌*◌, ◌%◌, eqb, ltb, length, drop, replicate, Float}
use mathlib.Core.List.{List, [], ◌∷◌, ◌++◌, map, flatten}
use Rattle.std.specs.Float.Ieee.Scale.{finite}
use Rattle.meaning.specs.Scalar.{zero64}
use Rattle.meaning.specs.Search.{listed}
use Rattle.partials.specs.declared.Dv.{Dv}
use Rattle.partials.specs.Dual.{part_of, dual}
use Rattle.refusal.specs.Refusals.{Verdict, Row, row, first_of, passes}
use Rattle.knots.specs.declared.Form.{Form}
use Rattle.outcome.specs.Outcome.{either_wild, answering}
use Rattle.shape.specs.Shape.{points_in}
use Rattle.shape.specs.Rules.{handle_rules}
use Rattle.solve.specs.Stored.{all_fine}
use Rattle.build.specs.Build.{controls_of, work_needed}
use Rattle.residual.specs.Curve.{shape_of, stored_fine, residuals_on}

-- what is asked: the form, the handles x, y in turn, the knots if any are given, the point and the parameter
pub record Asked : Type 0 where
  pub form : Form
  pub handles : List Float
  pub given : Bool
  pub knots : List Float
  pub px : Float
  pub py : Float
  pub t : Float

abbrev pub asked : Form → List Float → Bool → List Float → Float → Float → Float → Asked
asked form q given ks px py t = record { form = form; handles = q; given = given; knots = ks; px = px; py = py; t = t }

-- what is lent for it: the doubles and the bytes of the work, and room for the residuals and their rows
pub record Lent : Type 0 where
  pub work : List Float
  pub counts : List ℕ
  pub residuals : List Float
  pub rows : List Float

abbrev pub lent : List Float → List ℕ → List Float → List Float → Lent
lent work counts residuals rows = record { work = work; counts = counts; residuals = residuals; rows = rows }

-- ---- the rules

-- the number of variables
abbrev pub variables_for : List Float → ℕ
variables_for q = length q + 3

-- a cell of work is a number that a fit stores: a value, its partials, and a byte
abbrev pub cells_for : Form → List Float → ℕ
cells_for form q = work_needed form (controls_of form (points_in q))

-- one of four slices of these lengths is short, for so many cells with c partials, three residuals and their rows
abbrev pub lacks_of : ℕ → ℕ → ℕ → ℕ → ℕ → ℕ → Bool
lacks_of cells c doubles bytes three rows = ltb doubles (cells * (c + 1)) || (ltb bytes cells || (ltb three 3 || ltb rows (3 * c)))

abbrev pub lacks_room : Form → List Float → Lent → Bool
lacks_room form q l =
    lacks_of (cells_for form q) (variables_for q) (length l.work) (length l.counts) (length l.residuals) (length l.rows)

-- The rules 1 to 12. With over 12 handles, which is 4 here, neither 2 nor 3 applies, so that it may stand before them.
unfoldable pub asked_rules : Asked → List Row
unfolding handle_rules
asked_rules a =
    row 1 (not (eqb (length a.handles % 2) 0)) ∷ row 4 (ltb 12 (points_in a.handles))
    ∷ (handle_rules a.form a.handles a.given a.knots
    ++ (row 11 (either_wild a.px a.py) ∷ row 12 (not (finite a.t)) ∷ []))

-- 14 after them
abbrev pub room_rules : Asked → Lent → List Row
room_rules a l = asked_rules a ++ (row 14 (lacks_room a.form a.handles l) ∷ [])

-- and 15, where a number is not finite
abbrev pub last_rule : Bool → List Row
last_rule fine = row 15 (not fine) ∷ []

-- ---- what is left behind

-- the refusal, and what was lent
pub record Outcome : Type 0 where
  pub refusal : Verdict
  pub after : Lent

abbrev pub outcome : Verdict → List Float → List ℕ → List Float → List Float → Outcome
outcome r work counts residuals rows = record { refusal = r; after = lent work counts residuals rows }

-- the first n of a list cleared
abbrev pub cleared : {A : Type 0} → ℕ → A → List A → List A
cleared n z l = replicate n z ++ drop n l

-- the values, and the rows of c partials, +0.0 in place of a missing one
abbrev pub values_of : List Dv → List Float
values_of three = map dual.val three

abbrev pub rows_of : ℕ → List Dv → List Float
rows_of c three = flatten (map (λ d. listed 0 c (part_of d)) three)

-- The residuals `three` and the verdict `fine` on all that the curve's build stores; each of the residuals with its partials is to be finite, too.
unfoldable pub leaving : Asked → Bool → List Dv → Lent → Outcome
leaving a fine three l =
    let c = variables_for a.handles in
    let cells = cells_for a.form a.handles in
    let room = passes (room_rules a l) in
    let rules = room_rules a l ++ last_rule (fine && all_fine dual three) in
    outcome (first_of rules)
    (cond room (cleared (cells * (c + 1)) zero64 l.work) l.work) (cond room (cleared cells 0 l.counts) l.counts)
    (answering rules (values_of three) 3 l.residuals).out (answering rules (rows_of c three) (3 * c) l.rows).out

-- the whole call
abbrev pub residual_answer : Asked → Lent → Outcome
residual_answer a l =
    let q = a.handles in
    leaving a (stored_fine a.form q) (residuals_on (shape_of a.form q a.given a.knots) q a.px a.py a.t) l
