-- The basis and its three orders of derivatives, by computing the definition. The numbers on the right are those of the recursion of Cox and de Boor, in
-- exact fractions: `tools/cox-de-boor` prints them. Every number on the way is a double, so that nothing is rounded. Assumes nothing.
use mathlib.Core.Path.{◌≡◌, refl}
use mathlib.Core.Bool.{true, false}
use mathlib.Core.List.{List, [], ◌∷◌}
use Prim.Native.Nat.{ℕ}
use lib.IntN.{pos, negsuc}
use lib.Ieee.{Float, fin, binary64, add, sub, mul, div, neg, of_bits, of_int, round}
use Rattle.meaning.specs.Scalar.{plain}
use Rattle.meaning.specs.Loops.{turns}
use Rattle.basis.specs.Triangle.{four_zeros, column_turn, column_of, sides_turn, triangle_of}
use Rattle.basis.specs.Derivatives.{first_coef, mid_turn, mid_coefs, last_coef, order_of}
use Rattle.basis.specs.Basis.{values_of, order_turn, function_of, functions_of, scaled_row, scale_turn, scaled, derivatives_of, basis_of}

-- knots that are whole numbers
abbrev wholes : List ℕ → List Float
wholes [] = []
wholes (n ∷ ns) = of_int binary64 (pos n) ∷ wholes ns

-- the one span of four control points, at 1/4:
-- 27/64, 27/64, 9/64, 1/64; -27/16, 9/16, 15/16, 3/16; 9/2, -15/2, 3/2, 3/2; -6, 18, -18, 6
one_span : basis_of plain (wholes (0 ∷ 0 ∷ 0 ∷ 0 ∷ 1 ∷ 1 ∷ 1 ∷ 1 ∷ [])) 3 (fin false 1 (negsuc 1)) 3
    ≡ (fin false 27 (negsuc 5) ∷ fin false 27 (negsuc 5) ∷ fin false 9 (negsuc 5) ∷ fin false 1 (negsuc 5) ∷ [])
    ∷ (fin true 27 (negsuc 3) ∷ fin false 9 (negsuc 3) ∷ fin false 15 (negsuc 3) ∷ fin false 3 (negsuc 3) ∷ [])
    ∷ (fin false 9 (negsuc 0) ∷ fin true 15 (negsuc 0) ∷ fin false 3 (negsuc 0) ∷ fin false 3 (negsuc 0) ∷ [])
    ∷ (fin true 3 (pos 1) ∷ fin false 9 (pos 1) ∷ fin true 9 (pos 1) ∷ fin false 3 (pos 1) ∷ [])
    ∷ four_zeros plain ∷ []
unfolding basis_of derivatives_of scaled scale_turn scaled_row functions_of function_of order_turn values_of triangle_of sides_turn column_of column_turn order_of last_coef mid_coefs mid_turn first_coef turns add sub mul div neg of_bits of_int round
one_span = refl

-- the first span, before a knot that stands twice, at 3/4:
-- 1/64, 9/64, 81/128, 27/128; -3/16, -15/16, 9/32, 27/32; 3/2, 3/2, -21/4, 9/4; -6, 18, -15, 3
first-span : basis_of plain (wholes (0 ∷ 0 ∷ 0 ∷ 0 ∷ 1 ∷ 1 ∷ 2 ∷ 5 ∷ 9 ∷ 9 ∷ 9 ∷ 9 ∷ [])) 3 (fin false 3 (negsuc 1)) 3
    ≡ (fin false 1 (negsuc 5) ∷ fin false 9 (negsuc 5) ∷ fin false 81 (negsuc 6) ∷ fin false 27 (negsuc 6) ∷ [])
    ∷ (fin true 3 (negsuc 3) ∷ fin true 15 (negsuc 3) ∷ fin false 9 (negsuc 4) ∷ fin false 27 (negsuc 4) ∷ [])
    ∷ (fin false 3 (negsuc 0) ∷ fin false 3 (negsuc 0) ∷ fin true 21 (negsuc 1) ∷ fin false 9 (negsuc 1) ∷ [])
    ∷ (fin true 3 (pos 1) ∷ fin false 9 (pos 1) ∷ fin true 15 (pos 0) ∷ fin false 3 (pos 0) ∷ [])
    ∷ four_zeros plain ∷ []
unfolding basis_of derivatives_of scaled scale_turn scaled_row functions_of function_of order_turn values_of triangle_of sides_turn column_of column_turn order_of last_coef mid_coefs mid_turn first_coef turns add sub mul div neg of_bits of_int round
first-span = refl

-- an inner span, after a knot that stands twice, at 5/4:
-- 27/128, 765/1024, 85/2048, 1/2048; -27/32, 135/256, 159/512, 3/512; 9/4, -105/32, 63/64, 3/64; -3, 39/8, -33/16, 3/16
after-double : basis_of plain (wholes (0 ∷ 0 ∷ 0 ∷ 0 ∷ 1 ∷ 1 ∷ 2 ∷ 5 ∷ 9 ∷ 9 ∷ 9 ∷ 9 ∷ [])) 5 (fin false 5 (negsuc 1)) 3
    ≡ (fin false 27 (negsuc 6) ∷ fin false 765 (negsuc 9) ∷ fin false 85 (negsuc 10) ∷ fin false 1 (negsuc 10) ∷ [])
    ∷ (fin true 27 (negsuc 4) ∷ fin false 135 (negsuc 7) ∷ fin false 159 (negsuc 8) ∷ fin false 3 (negsuc 8) ∷ [])
    ∷ (fin false 9 (negsuc 1) ∷ fin true 105 (negsuc 4) ∷ fin false 63 (negsuc 5) ∷ fin false 3 (negsuc 5) ∷ [])
    ∷ (fin true 3 (pos 0) ∷ fin false 39 (negsuc 2) ∷ fin true 33 (negsuc 3) ∷ fin false 3 (negsuc 3) ∷ [])
    ∷ four_zeros plain ∷ []
unfolding basis_of derivatives_of scaled scale_turn scaled_row functions_of function_of order_turn values_of triangle_of sides_turn column_of column_turn order_of last_coef mid_coefs mid_turn first_coef turns add sub mul div neg of_bits of_int round
after-double = refl

-- an inner span, before a knot that stands twice, at 15/2:
-- 1/256, 37/256, 101/128, 1/16; -3/128, -63/128, 9/64, 3/8; 3/32, 15/32, -33/16, 3/2; -3/16, 33/16, -39/8, 3
before-double : basis_of plain (wholes (0 ∷ 0 ∷ 0 ∷ 0 ∷ 4 ∷ 7 ∷ 8 ∷ 8 ∷ 9 ∷ 9 ∷ 9 ∷ 9 ∷ [])) 5 (fin false 15 (negsuc 0)) 3
    ≡ (fin false 1 (negsuc 7) ∷ fin false 37 (negsuc 7) ∷ fin false 101 (negsuc 6) ∷ fin false 1 (negsuc 3) ∷ [])
    ∷ (fin true 3 (negsuc 6) ∷ fin true 63 (negsuc 6) ∷ fin false 9 (negsuc 5) ∷ fin false 3 (negsuc 2) ∷ [])
    ∷ (fin false 3 (negsuc 4) ∷ fin false 15 (negsuc 4) ∷ fin true 33 (negsuc 3) ∷ fin false 3 (negsuc 0) ∷ [])
    ∷ (fin true 3 (negsuc 3) ∷ fin false 33 (negsuc 3) ∷ fin true 39 (negsuc 2) ∷ fin false 3 (pos 0) ∷ [])
    ∷ four_zeros plain ∷ []
unfolding basis_of derivatives_of scaled scale_turn scaled_row functions_of function_of order_turn values_of triangle_of sides_turn column_of column_turn order_of last_coef mid_coefs mid_turn first_coef turns add sub mul div neg of_bits of_int round
before-double = refl

-- an inner span, after a knot that stands three times, at 5/2:
-- 27/64, 127/256, 41/512, 1/512; -27/32, 69/128, 75/256, 3/256; 9/8, -51/32, 27/64, 3/64; -3/4, 21/16, -21/32, 3/32
after_triple : basis_of plain (wholes (0 ∷ 0 ∷ 0 ∷ 0 ∷ 2 ∷ 2 ∷ 2 ∷ 4 ∷ 6 ∷ 10 ∷ 10 ∷ 10 ∷ 10 ∷ [])) 6 (fin false 5 (negsuc 0)) 3
    ≡ (fin false 27 (negsuc 5) ∷ fin false 127 (negsuc 7) ∷ fin false 41 (negsuc 8) ∷ fin false 1 (negsuc 8) ∷ [])
    ∷ (fin true 27 (negsuc 4) ∷ fin false 69 (negsuc 6) ∷ fin false 75 (negsuc 7) ∷ fin false 3 (negsuc 7) ∷ [])
    ∷ (fin false 9 (negsuc 2) ∷ fin true 51 (negsuc 4) ∷ fin false 27 (negsuc 5) ∷ fin false 3 (negsuc 5) ∷ [])
    ∷ (fin true 3 (negsuc 1) ∷ fin false 21 (negsuc 3) ∷ fin true 21 (negsuc 4) ∷ fin false 3 (negsuc 4) ∷ [])
    ∷ four_zeros plain ∷ []
unfolding basis_of derivatives_of scaled scale_turn scaled_row functions_of function_of order_turn values_of triangle_of sides_turn column_of column_turn order_of last_coef mid_coefs mid_turn first_coef turns add sub mul div neg of_bits of_int round
after_triple = refl
