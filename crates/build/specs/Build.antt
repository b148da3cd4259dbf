-- The one build of every form. docs/RULES.md, "Refusals", "Fit points" and "Work", decides. What the forms differ in stands first, a line for each
-- form; what a build leaves behind is said once for all of them.
use Rattle.std.specs.Prelude.{Bool, ◌&&◌, ◌||◌, cond, List, ℕ, ◌+◌, ◌*◌, ◌/◌, ◌%◌, length, ltb, eqb, Float}
use Rattle.std.specs.Float.Ieee.Scale.{finite}
use Rattle.meaning.specs.Scalar.{plain}
use Rattle.meaning.specs.Table.{at1}
use Rattle.meaning.specs.Search.{listed}
use Rattle.refusal.specs.Refusals.{Verdict, Row, first_of}
use Rattle.knots.specs.declared.Form.{Form}
use Rattle.knots.specs.declared.Form.TheVariants.{Control, Fit}
use Rattle.outcome.specs.Outcome.{answering}
use Rattle.shape.specs.Shape.{points_in}
use Rattle.curve.specs.declared.Curve.{Curve}
use Rattle.curve.specs.Build.{building, build_rules, control_curve}
use Rattle.control.specs.Control.{control_fine}
use Rattle.fit.specs.Fit.{curve_through, fit_fine, work_after, Making, making}

-- ---- by the form

-- how many control points the curve of so many handles has
abbrev pub controls_of : Form → ℕ → ℕ
controls_of Control handles = handles
controls_of Fit handles = handles + 2

-- the doubles of work for m control points
abbrev pub work_needed : Form → ℕ → ℕ
work_needed Control m = 0
work_needed Fit m = m * (m + 2)

-- the curve
abbrev pub curve_of : Form → List Float → Bool → List Float → Curve
curve_of Control coords given ks = control_curve coords given ks
curve_of Fit coords given ks = curve_through coords

-- every number that is stored for it is finite, but for its length
abbrev pub stored_fine : Form → List Float → Bool → List Float → Bool
stored_fine Control coords given ks = control_fine coords given ks
stored_fine Fit coords given ks = fit_fine coords

-- the work buffer afterwards
abbrev pub work_left : Form → List Float → Bool → List Float → Bool → List Float → List Float
work_left Control coords given ks short work = work
work_left Fit coords given ks short work = work_after coords given ks short work

-- ---- for every form

-- how many control points the curve of the handles `coords` has
abbrev pub controls_in : Form → List Float → ℕ
controls_in form coords = controls_of form (points_in coords)

-- the work buffer is short
abbrev pub lacks_work : Form → List Float → List Float → Bool
lacks_work form coords work = ltb (length work) (work_needed form (controls_in form coords))

-- the rules of a build, where `short` tells whether a lent slice is
abbrev pub rules_of : Form → List Float → Bool → List Float → Bool → List Row
rules_of form coords given ks short =
    build_rules form coords given ks short (stored_fine form coords given ks && finite (curve_of form coords given ks).length)

-- what it leaves behind
abbrev pub built_by : Form → List Float → Bool → List Float → Bool → List Float → Making
built_by form coords given ks short work =
    making (building (rules_of form coords given ks short) (curve_of form coords given ks)) (work_left form coords given ks short work)

-- where the work buffer is the one slice that is lent
abbrev pub built : Form → List Float → Bool → List Float → List Float → Making
built form coords given ks work = built_by form coords given ks (lacks_work form coords work) work

-- ---- answered in two slices, the control points x, y in turn and the knots

-- m control points, x and y in turn
unfoldable pub in_turn : ℕ → List Float → List Float → List Float
in_turn m xs ys = listed 0 (2 * m) (λ j. at1 plain (cond (eqb (j % 2) 0) xs ys) (j / 2))

-- one of the two is short: 2m numbers for m control points, and m + 4 knots
abbrev pub lacks_room : Form → List Float → List Float → List Float → Bool
lacks_room form coords control out = let m = controls_in form coords in ltb (length control) (2 * m) || ltb (length out) (m + 4)

-- the refusal, and the three lent slices afterwards
pub record Sliced : Type 0 where
  pub refusal : Verdict
  pub control : List Float
  pub knots : List Float
  pub work : List Float

abbrev pub sliced : Verdict → List Float → List Float → List Float → Sliced
sliced r control out work = record { refusal = r; control = control; knots = out; work = work }

-- what it leaves behind
abbrev pub built_into : Form → List Float → Bool → List Float → List Float → List Float → List Float → Sliced
built_into form coords given ks work control out =
    let m = controls_in form coords in
    let c = curve_of form coords given ks in
    let short = lacks_work form coords work || lacks_room form coords control out in
    let rules = rules_of form coords given ks short in
    sliced (first_of rules) (answering rules (in_turn m c.xs c.ys) (2 * m) control).out (answering rules c.knots (m + 4) out).out
    (work_left form coords given ks short work)
