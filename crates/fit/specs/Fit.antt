-- A curve through points. docs/RULES.md, "Fit points", "Work" and "When 15 is given", decides.
use Rattle.std.specs.Prelude.{Bool, cond, List, ℕ, ◌+◌, Float}
use Rattle.meaning.specs.Scalar.{plain}
use Rattle.refusal.specs.Refusals.{passes}
use Rattle.knots.specs.declared.Form.TheVariants.{Fit}
use Rattle.span.specs.Span.{span_of}
use Rattle.solve.specs.Stored.{all_fine}
use Rattle.solve.specs.Outcome.{Solution, work_of}
use Rattle.shape.specs.Shape.{points_in}
use Rattle.curve.specs.declared.Curve.{Curve}
use Rattle.curve.specs.Record.{curve_over}
use Rattle.curve.specs.Build.{Built, room_rules}
use Rattle.fit.specs.Parameters.{fit_knots}
use Rattle.fit.specs.Through.{rows_over, solution_over, stored_over}

-- how many control points the curve through the points q has
abbrev pub controls_for : List Float → ℕ
controls_for q = points_in q + 2

-- the knots, and the rows of the system; the span is the rules'
abbrev pub knots_through : List Float → List Float
knots_through q = fit_knots plain q (points_in q)

abbrev pub span_through : List Float → Float → ℕ
span_through q = span_of (knots_through q) (controls_for q)

abbrev pub rows_through : List Float → List (List Float)
rows_through q = rows_over plain (span_through q) q (points_in q)

-- their solution
unfoldable pub solution_through : List Float → Solution Float
solution_through q = solution_over plain (span_through q) q (points_in q)

unfoldable pub curve_through : List Float → Curve
curve_through q = let s = solution_through q in curve_over (controls_for q) (knots_through q) s.xs s.ys

-- every number that is stored
unfoldable pub stored_through : List Float → List Float
stored_through q = stored_over plain (span_through q) q (points_in q)

-- each of them is finite
unfoldable pub fit_fine : List Float → Bool
fit_fine q = all_fine plain (stored_through q)

-- the work buffer afterwards: zeros in the needed part once the rules 1 to 14 let it be used
unfoldable pub work_after : List Float → Bool → List Float → Bool → List Float → List Float
work_after q given ks short work = cond (passes (room_rules Fit q given ks short)) (work_of (controls_for q) work) work

-- what a build with a work buffer leaves behind: its answer, and the buffer afterwards
pub record Making : Type 0 where
  pub built : Built
  pub work : List Float

abbrev pub making : Built → List Float → Making
making b work = record { built = b; work = work }
