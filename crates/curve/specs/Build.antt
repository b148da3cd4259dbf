-- What a build of a curve answers, and the curve of control points. docs/RULES.md, "Refusals" and "Uniform knots", decide.
use Rattle.std.specs.Prelude.{Bool, not, cond, List, [], ◌∷◌, ◌++◌, Float, Result, Ok, Err}
use Rattle.refusal.specs.declared.Refusal.{Refusal}
use Rattle.refusal.specs.Refusals.{Verdict, Row, row, first_of, passes, verdict}
use Rattle.knots.specs.declared.Form.{Form}
use Rattle.shape.specs.Shape.{points_in, every_other}
use Rattle.shape.specs.Rules.{handle_rules}
use Rattle.rooms.specs.Filled.{stored_knots}
use Rattle.curve.specs.declared.Curve.{Curve}
use Rattle.curve.specs.Record.{empty_curve, curve_over}

-- what a build answers: its verdict, and the curve
pub record Built : Type 0 where
  pub refusal : Verdict
  pub curve : Curve

-- with a refusal the empty curve
abbrev pub curve_of_build : Result Curve Refusal → Curve
curve_of_build (Ok c) = c
curve_of_build (Err r) = empty_curve

abbrev pub build_of : Result Curve Refusal → Built
build_of r = record { refusal = verdict r; curve = curve_of_build r }

-- by these rules: the curve or, where one applies, the refusal and the empty curve
unfoldable pub building : List Row → Curve → Built
building rules c = record { refusal = first_of rules; curve = cond (passes rules) c empty_curve }

-- The rules of a build: those for the handles, then that no lent slice is short, then that every number which is stored is finite, the length too.
abbrev pub room_rules : Form → List Float → Bool → List Float → Bool → List Row
room_rules form coords given ks short = handle_rules form coords given ks ++ (row 14 short ∷ [])

unfoldable pub build_rules : Form → List Float → Bool → List Float → Bool → Bool → List Row
build_rules form coords given ks short fine = room_rules form coords given ks short ++ (row 15 (not fine) ∷ [])

-- ---- control points

abbrev pub control_curve : List Float → Bool → List Float → Curve
control_curve coords given ks =
    let n = points_in coords in
    curve_over n (stored_knots n given ks) (every_other coords n 0) (every_other coords n 1)
