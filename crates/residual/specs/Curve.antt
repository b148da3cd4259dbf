-- A curve on values with partials, and the residuals of a point that is held on it. docs/RULES.md, "Residual rows", decides; the original's `curve_d`
-- and the `eval` of its constraint the operations and their order. Variables are the numbers of the handles, and then px, py and t.
use Rattle.std.specs.Prelude.{Bool, true, List, [], ◌∷◌, ◌++◌, map, ℕ, ◌+◌, length, Float}
use Rattle.meaning.specs.Table.{at1}
use Rattle.meaning.specs.Search.{listed}
use Rattle.partials.specs.declared.Dv.{Dv}
use Rattle.partials.specs.Dual.{cst_dv, var_dv, overshoot_dv, dual}
use Rattle.plane.specs.Vector.{Vector, sub_v}
use Rattle.knots.specs.declared.Form.{Form}
use Rattle.knots.specs.declared.Form.TheVariants.{Control, Fit}
use Rattle.span.specs.Span.{span_of}
use Rattle.shape.specs.Shape.{Shape, points_in}
use Rattle.evaluate.specs.Point.{order_at}
use Rattle.rooms.specs.Filled.{stored_knots}
use Rattle.fit.specs.Parameters.{point_at}
use Rattle.fit.specs.Fit.{controls_for}
use Rattle.fit_partials.specs.Variables.{variables_of}
use Rattle.fit_partials.specs.Through.{knots_with, solution_with, fine_with}

-- ---- by the form

-- the handles are the control points; knots, given or uniform, are constants
unfoldable pub control_shape : List Float → Bool → List Float → Shape Dv
unfolding listed
control_shape q given ks =
    let n = points_in q in
    let handle = point_at dual (variables_of q) in
    record { n = n; xs = listed 0 n (λ i. (handle i).x); ys = listed 0 n (λ i. (handle i).y); knots = map cst_dv (stored_knots n given ks) }

-- the curve through the handles
unfoldable pub fit_shape : List Float → Shape Dv
unfolding solution_with
fit_shape q = let s = solution_with q in record { n = controls_for q; xs = s.xs; ys = s.ys; knots = knots_with q }

abbrev pub shape_of : Form → List Float → Bool → List Float → Shape Dv
shape_of Control q given ks = control_shape q given ks
shape_of Fit q given ks = fit_shape q

-- Every number that is stored for it is finite, with its partials. The control form stores knots and handles alone, which rules before 15 have judged.
abbrev pub stored_fine : Form → List Float → Bool
stored_fine Control q = true
stored_fine Fit q = fine_with q

-- ---- the residuals

-- the span of a parameter, by the knots' values
abbrev pub span_in : Shape Dv → Float → ℕ
span_in c = span_of (map dual.val c.knots) c.n

-- the first knot and the last
abbrev pub first_knot : Shape Dv → Dv
first_knot c = at1 dual c.knots 0

abbrev pub last_knot : Shape Dv → Dv
last_knot c = at1 dual c.knots (c.n + 3)

-- p - C(t), x and y, and how far t lies past the domain
unfoldable pub three_of : Shape Dv → Vector Dv → Dv → List Dv
unfolding overshoot_dv order_at
three_of c p t =
    let d = sub_v dual p (order_at dual (span_in c) c t 0 0) in
    d.x ∷ d.y ∷ overshoot_dv t (dual.val (first_knot c)) (dual.val (last_knot c)) ∷ []

-- the variables after the handles: px, py and t
abbrev pub held_at : List Float → Float → Float → Float → ℕ → Dv
held_at q px py t k = var_dv (q ++ (px ∷ py ∷ t ∷ [])) (length q + k)

abbrev pub residuals_on : Shape Dv → List Float → Float → Float → Float → List Dv
residuals_on c q px py t = let v = held_at q px py t in three_of c (record { x = v 0; y = v 1 }) (v 2)
