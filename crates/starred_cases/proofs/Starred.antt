-- The rules' "Numbers to check by", the starred ones, in its order. A is (0,0), (0,8), (8,8), (8,0) and B is (0,0), (1,2), (2,4), (3,6), both over
-- uniform knots. Each number is computed from the definition that the contracts cite: `refl` is the whole proof, but for the fit, whose system and solution
-- are computed one after the other. Assumes nothing.
use mathlib.Core.Path.{◌≡◌, refl, ap, ◌∙◌}
use mathlib.Core.Bool.{true, false}
use mathlib.Core.List.{List, [], ◌∷◌, ◌++◌, flatten}
use Prim.Native.Nat.{ℕ}
use lib.ListN.{replicate, take}
use lib.IntN.{pos}
use lib.Ieee.{Float, binary64, of_bits, of_int, add, sub, mul, div, neg, lt, le, round, eq, ne, fin}
use lib.Ieee.Scale.{finite}
use Rattle.meaning.specs.Root.{root_of}
use Rattle.meaning.specs.Scalar.{zero64, one64, plain}
use Rattle.meaning.specs.Loops.{turns}
use Rattle.refusal.specs.Refusals.{first_of, refusal, none}
use Rattle.meaning.specs.Number.{smaller}
use Rattle.partials.specs.declared.Dv.{Dv}
use Rattle.partials.specs.Dual.{dual, partials, zip_dv, map_dv, cst_dv, var_dv, div_dv, root_dv}
use Rattle.meaning.specs.Search.{seek_from, listed}
use Rattle.knots.specs.declared.Form.TheVariants.{Control, Fit}
use Rattle.knots.specs.Rules.{count, knot_rules}
use Rattle.uniform.specs.Uniform.{uniform_at, uniform_of}
use Rattle.span.specs.Span.{span_of}
use Rattle.basis.specs.Triangle.{column_turn, column_of, sides_turn, triangle_of}
use Rattle.basis.specs.Derivatives.{first_coef, mid_turn, mid_coefs, last_coef, order_of}
use Rattle.basis.specs.Basis.{values_of, order_turn, function_of, functions_of, scaled_row, scale_turn, scaled, derivatives_of, basis_of}
use Rattle.plane.specs.Vector.{norm_v}
use Rattle.shape.specs.Shape.{Shape}
use Rattle.polygon.specs.Polygon.{length_by, length_of}
use Rattle.evaluate.specs.Point.{weighted, placed, inside_of, beyond_of, order_at, orders_of}
use Rattle.solve.specs.Stored.{all_fine, stored_by_solve}
use Rattle.solve.specs.Outcome.{solution_of}
use Rattle.point.specs.Point.{point_orders}
use Rattle.samples.specs.Samples.{samples_of}
use Rattle.shape.specs.Rules.{handle_rules}
use Rattle.curve.specs.Build.{build_rules}
use Rattle.fit.specs.Parameters.{parameter_at, knot_at, knots_by, fit_parameter}
use Rattle.fit.specs.System.{spread, with_sides, row_at, row_of, fit_row, fit_rows}
use Rattle.fit.specs.Fit.{knots_through, rows_through, solution_through, curve_through, stored_through, fit_fine}
use Rattle.fit.specs.Fitting.{fit_rules}

-- a whole number, and a half and a quarter of one
whole : ℕ → Float
whole n = of_int binary64 (pos n)

minus : ℕ → Float
minus n = neg (of_int binary64 (pos n))

half : Float
half = of_bits binary64 0x3fe0_0000_0000_0000

quarter : Float
quarter = of_bits binary64 0x3fd0_0000_0000_0000

A : Shape Float
A =
    record {
      n = 4;
      xs = whole 0 ∷ whole 0 ∷ whole 8 ∷ whole 8 ∷ [];
      ys = whole 0 ∷ whole 8 ∷ whole 8 ∷ whole 0 ∷ [];
      knots = uniform_of 4;
    }

B : Shape Float
B =
    record {
      n = 4;
      xs = whole 0 ∷ whole 1 ∷ whole 2 ∷ whole 3 ∷ [];
      ys = whole 0 ∷ whole 2 ∷ whole 4 ∷ whole 6 ∷ [];
      knots = uniform_of 4;
    }

-- * A at 0.25: (1.25, 4.5), C' (9, 12), C'' (24, -48), C''' (-96, 0)
A_at_quarter : take 8 (point_orders A quarter 3)
    ≡ of_bits binary64 0x3ff4_0000_0000_0000 ∷ of_bits binary64 0x4012_0000_0000_0000 ∷ whole 9 ∷ whole 12 ∷ whole 24 ∷ minus 48 ∷ minus 96 ∷ whole 0 ∷ []
unfolding A whole minus quarter uniform_of uniform_at listed span_of seek_from orders_of order_at inside_of weighted placed turns basis_of derivatives_of scaled scale_turn scaled_row functions_of function_of order_turn values_of triangle_of sides_turn column_of column_turn order_of last_coef mid_coefs mid_turn first_coef add sub mul div neg lt le eq of_bits of_int round
A_at_quarter = refl

-- * A at 2, past its end: (8, -24), and C'' is (0, 0)
A_at_two : take 6 (point_orders A (whole 2) 2) ≡ whole 8 ∷ minus 24 ∷ whole 0 ∷ minus 24 ∷ whole 0 ∷ whole 0 ∷ []
unfolding A whole minus beyond_of uniform_of uniform_at listed span_of seek_from orders_of order_at inside_of weighted placed turns basis_of derivatives_of scaled scale_turn scaled_row functions_of function_of order_turn values_of triangle_of sides_turn column_of column_turn order_of last_coef mid_coefs mid_turn first_coef add sub mul div neg lt le eq of_bits of_int round
A_at_two = refl

-- * B at 0.5: (1.5, 3)
B_at_half : take 2 (point_orders B half 0) ≡ of_bits binary64 0x3ff8_0000_0000_0000 ∷ whole 3 ∷ []
unfolding B whole half uniform_of uniform_at listed span_of seek_from orders_of order_at inside_of weighted placed turns basis_of derivatives_of scaled scale_turn scaled_row functions_of function_of order_turn values_of triangle_of sides_turn column_of column_turn order_of last_coef mid_coefs mid_turn first_coef add sub mul div neg lt le eq of_bits of_int round
B_at_half = refl

-- * B at -1, before its start: (-3, -6)
B_at_minus_one : take 2 (point_orders B (minus 1) 0) ≡ minus 3 ∷ minus 6 ∷ []
unfolding B whole minus beyond_of uniform_of uniform_at listed span_of seek_from orders_of order_at inside_of weighted placed turns basis_of derivatives_of scaled scale_turn scaled_row functions_of function_of order_turn values_of triangle_of sides_turn column_of column_turn order_of last_coef mid_coefs mid_turn first_coef add sub mul div neg lt le eq of_bits of_int round
B_at_minus_one = refl

-- m * 2^e, and 12 less than nothing
abbrev num : ℕ → ℕ → Float
num m e = fin false m (pos e)

abbrev minus_twelve : Float
minus_twelve = fin true 3 (pos 2)

two-points : List Float
two-points = num 0 0 ∷ num 0 0 ∷ num 3 0 ∷ num 3 1 ∷ []

-- ---- the fit of (0,0), (3,6). Its system: C''(0) = 0, C(0) = (0,0), C(1) = (3,6), C''(1) = 0

system : List (List Float)
system =
    (num 3 1 ∷ minus_twelve ∷ num 3 1 ∷ num 0 0 ∷ num 0 0 ∷ num 0 0 ∷ [])
    ∷ (num 1 0 ∷ num 0 0 ∷ num 0 0 ∷ num 0 0 ∷ num 0 0 ∷ num 0 0 ∷ [])
    ∷ (num 0 0 ∷ num 0 0 ∷ num 0 0 ∷ num 1 0 ∷ num 3 0 ∷ num 3 1 ∷ [])
    ∷ (num 0 0 ∷ num 3 1 ∷ minus_twelve ∷ num 3 1 ∷ num 0 0 ∷ num 0 0 ∷ [])
    ∷ []

abbrev row_of_lem : ℕ → List Float
row_of_lem r = fit_row plain (span_of (knots_through two-points) 4) (knots_through two-points) (fit_parameter plain two-points 2) two-points 2 r

row_0 : row_of_lem 0 ≡ num 3 1 ∷ minus_twelve ∷ num 3 1 ∷ num 0 0 ∷ num 0 0 ∷ num 0 0 ∷ []
unfolding two-points fit_row row_of row_at spread with_sides knots_by knot_at parameter_at listed turns span_of seek_from basis_of derivatives_of scaled scale_turn scaled_row functions_of function_of order_turn values_of triangle_of sides_turn column_of column_turn order_of last_coef mid_coefs mid_turn first_coef add sub mul div neg lt le eq of_bits of_int round
row_0 = refl

row_1 : row_of_lem 1 ≡ num 1 0 ∷ num 0 0 ∷ num 0 0 ∷ num 0 0 ∷ num 0 0 ∷ num 0 0 ∷ []
unfolding two-points fit_row row_of row_at spread with_sides knots_by knot_at parameter_at listed turns span_of seek_from basis_of derivatives_of scaled scale_turn scaled_row functions_of function_of order_turn values_of triangle_of sides_turn column_of column_turn order_of last_coef mid_coefs mid_turn first_coef add sub mul div neg lt le eq of_bits of_int round
row_1 = refl

row_2 : row_of_lem 2 ≡ num 0 0 ∷ num 0 0 ∷ num 0 0 ∷ num 1 0 ∷ num 3 0 ∷ num 3 1 ∷ []
unfolding two-points fit_row row_of row_at spread with_sides knots_by knot_at parameter_at listed turns span_of seek_from basis_of derivatives_of scaled scale_turn scaled_row functions_of function_of order_turn values_of triangle_of sides_turn column_of column_turn order_of last_coef mid_coefs mid_turn first_coef add sub mul div neg lt le eq of_bits of_int round
row_2 = refl

row_3 : row_of_lem 3 ≡ num 0 0 ∷ num 3 1 ∷ minus_twelve ∷ num 3 1 ∷ num 0 0 ∷ num 0 0 ∷ []
unfolding two-points fit_row row_of row_at spread with_sides knots_by knot_at parameter_at listed turns span_of seek_from basis_of derivatives_of scaled scale_turn scaled_row functions_of function_of order_turn values_of triangle_of sides_turn column_of column_turn order_of last_coef mid_coefs mid_turn first_coef add sub mul div neg lt le eq of_bits of_int round
row_3 = refl

rows : rows_through two-points ≡ system
unfolding two-points system fit_rows listed
rows = λ i. row_0 i ∷ row_1 i ∷ row_2 i ∷ row_3 i ∷ []

xs-solved : take 4 (solution_of plain 4 system).xs ≡ num 0 0 ∷ num 1 0 ∷ num 1 1 ∷ num 3 0 ∷ []
unfolding system solution_of sub mul div lt le eq ne neg of_bits smaller
xs-solved = refl

ys-solved : take 4 (solution_of plain 4 system).ys ≡ num 0 0 ∷ num 1 1 ∷ num 1 2 ∷ num 3 1 ∷ []
unfolding system solution_of sub mul div lt le eq ne neg of_bits smaller
ys-solved = refl

-- * fit (0,0), (3,6) gives B's control points
B_by_fit_x : take 4 (curve_through two-points).xs ≡ num 0 0 ∷ num 1 0 ∷ num 1 1 ∷ num 3 0 ∷ []
unfolding two-points curve_through solution_through
B_by_fit_x = ap (λ (M : List (List Float)). take 4 (solution_of plain 4 M).xs) rows ∙ xs-solved

B_by_fit_y : take 4 (curve_through two-points).ys ≡ num 0 0 ∷ num 1 1 ∷ num 1 2 ∷ num 3 1 ∷ []
unfolding two-points curve_through solution_through
B_by_fit_y = ap (λ (M : List (List Float)). take 4 (solution_of plain 4 M).ys) rows ∙ ys-solved

-- and it is accepted
stored_fine_lem : all_fine plain (knots_through two-points ++ flatten system ++ stored_by_solve plain 4 system) ≡ true
unfolding two-points system knots_by knot_at parameter_at listed flatten all_fine stored_by_solve sub mul div lt le eq ne neg of_bits smaller
stored_fine_lem = refl

length-fine : finite (length_of plain (solution_of plain 4 system).xs (solution_of plain 4 system).ys 4) ≡ true
unfolding system solution_of length_by turns norm_v root_of add sub mul div lt le eq ne neg of_bits smaller round
length-fine = refl

fit_accepted : first_of (fit_rules two-points false [] false) ≡ none
unfolding two-points first_of build_rules handle_rules knot_rules seek_from fit_fine stored_through curve_through solution_through of_int round
fit_accepted =
    rw (
      ap (λ (M : List (List Float)). all_fine plain (knots_through two-points ++ flatten M ++ stored_by_solve plain 4 M)) rows ∙ stored_fine_lem,
      ap (λ (M : List (List Float)). finite (length_of plain (solution_of plain 4 M).xs (solution_of plain 4 M).ys 4)) rows ∙ length-fine,
    )

-- * the spans of 5 points: 0.5 gives 4; 1 gives 4; 0 gives 3
span_of_half : span_of (uniform_of 5) 5 half ≡ 4
unfolding half uniform_of uniform_at listed span_of seek_from lt le eq div of_bits of_int round
span_of_half = refl

span_of_one : span_of (uniform_of 5) 5 one64 ≡ 4
unfolding uniform_of uniform_at listed span_of seek_from lt le eq div of_bits of_int round
span_of_one = refl

span_of_zero : span_of (uniform_of 5) 5 zero64 ≡ 3
unfolding uniform_of uniform_at listed span_of seek_from lt le eq div of_bits of_int round
span_of_zero = refl

-- * 7 points with 0.5 three times: accepted, and 0.5 has the span 6; 8 points with it four times: 10
three_halves : List Float
three_halves = zero64 ∷ zero64 ∷ zero64 ∷ zero64 ∷ half ∷ half ∷ half ∷ one64 ∷ one64 ∷ one64 ∷ one64 ∷ []

three_accepted : first_of (knot_rules Control 7 true three_halves) ≡ none
unfolding three_halves half first_of knot_rules seek_from count lt le eq ne of_bits
three_accepted = refl

three_span : span_of three_halves 7 half ≡ 6
unfolding three_halves half span_of seek_from lt le eq of_bits
three_span = refl

four_halves : List Float
four_halves = zero64 ∷ zero64 ∷ zero64 ∷ zero64 ∷ half ∷ half ∷ half ∷ half ∷ one64 ∷ one64 ∷ one64 ∷ one64 ∷ []

four_refused : first_of (knot_rules Control 8 true four_halves) ≡ refusal 10
unfolding four_halves half first_of knot_rules seek_from count lt le eq ne of_bits
four_refused = refl

-- * by the count rules alone: 3 control points: 3; 1: 2; fit 64 passes, 65: 4; control 66 passes, 67: 4
three_points : first_of (knot_rules Control 3 false []) ≡ refusal 3
unfolding first_of knot_rules
three_points = refl

one_point : first_of (knot_rules Control 1 false []) ≡ refusal 2
unfolding first_of knot_rules
one_point = refl

fit_64 : first_of (knot_rules Fit 64 false []) ≡ none
unfolding first_of knot_rules
fit_64 = refl

fit_65 : first_of (knot_rules Fit 65 false []) ≡ refusal 4
unfolding first_of knot_rules
fit_65 = refl

control_66 : first_of (knot_rules Control 66 false []) ≡ none
unfolding first_of knot_rules
control_66 = refl

control_67 : first_of (knot_rules Control 67 false []) ≡ refusal 4
unfolding first_of knot_rules
control_67 = refl

-- * samples of 5 points, 2 to a span: 0, 0.25, 0.5, 0.75, 1
five_samples : samples_of (record { n = 5; xs = []; ys = []; knots = uniform_of 5 }) 2 ≡ zero64 ∷ quarter ∷ half ∷ of_bits binary64 0x3fe8_0000_0000_0000 ∷ one64 ∷ []
unfolding quarter half samples_of turns uniform_of uniform_at listed add sub mul div neg lt of_bits of_int round
five_samples = refl

two : Float
two = of_bits binary64 0x4000_0000_0000_0000

four : Float
four = of_bits binary64 0x4010_0000_0000_0000

-- a value whose only partial is the first
with_partial : Float → Float → Dv
with_partial v g = record { v = v; g = g ∷ replicate 26 zero64; n = 1 }

-- * root of 4 is 2
root_of_4 : root_of four ≡ two
unfolding four two root_of of_bits
root_of_4 = refl

-- * and its partial is 0.25
partial_of_root : dual.root (var_dv (four ∷ []) 0) ≡ with_partial two (of_bits binary64 0x3fd0_0000_0000_0000)
unfolding four two with_partial root_of of_bits var_dv root_dv map_dv partials turns div mul le
partial_of_root = refl

-- * 1/x at x = 2 has the partial -0.25
partial_of_inverse : dual.over (dual.cst one64) (var_dv (two ∷ []) 0)
    ≡ with_partial (of_bits binary64 0x3fe0_0000_0000_0000) (of_bits binary64 0xbfd0_0000_0000_0000)
unfolding two with_partial of_bits var_dv cst_dv div_dv zip_dv partials turns div mul sub
partial_of_inverse = refl
