-- The system of the fit through (0,0) and (3,6), computed: its answers are the control points (0,0), (1,2), (2,4), (3,6); a system in which an exchange
-- decides a tie; and one with a column of zeros, which is refused.
use mathlib.Core.Path.{◌≡◌, refl}
use mathlib.Core.Bool.{true, false}
use mathlib.Core.List.{List, [], ◌∷◌}
use Prim.Native.Nat.{ℕ}
use lib.ListN.{take}
use lib.IntN.{pos, negsuc}
use lib.Ieee.{Float, fin, sub, mul, div, lt, le, eq, ne, neg, of_bits}
use Rattle.meaning.specs.Scalar.{plain}
use Rattle.meaning.specs.Number.{smaller}
use Rattle.solve.specs.Rows.{flat}
use Rattle.solve.specs.Stored.{solved_ok}
use Rattle.solve.specs.Buffer.{solve_of}

-- a whole number that is not negative, and one that is not positive
abbrev num : ℕ → ℕ → Float
num m e = fin false m (pos e)

abbrev system : List (List Float)
system =
    let z = num 0 0 in
    let one = num 1 0 in
    let six = num 3 1 in
    let down = fin true 3 (pos 2) in
    (six ∷ down ∷ six ∷ z ∷ z ∷ z ∷ [])
    ∷ (one ∷ z ∷ z ∷ z ∷ z ∷ z ∷ [])
    ∷ (z ∷ z ∷ z ∷ one ∷ num 3 0 ∷ six ∷ [])
    ∷ (z ∷ six ∷ down ∷ six ∷ z ∷ z ∷ [])
    ∷ []

fit_fine_lem : (solve_of 4 (flat system [])).fine ≡ true
unfolding solve_of flat sub mul div lt le eq ne neg of_bits smaller
fit_fine_lem = refl

fit_xs : take 4 (solve_of 4 (flat system [])).xs ≡ num 0 0 ∷ num 1 0 ∷ num 1 1 ∷ num 3 0 ∷ []
unfolding solve_of flat sub mul div lt le eq ne neg of_bits smaller
fit_xs = refl

fit_ys : take 4 (solve_of 4 (flat system [])).ys ≡ num 0 0 ∷ num 1 1 ∷ num 1 2 ∷ num 3 1 ∷ []
unfolding solve_of flat sub mul div lt le eq ne neg of_bits smaller
fit_ys = refl

-- The last row is exchanged with the first, which so comes after the second: of these two, equal in size in the second column, it is the last and gives the
-- pivot. By the second the answers would be 1.1111111111111107 and -2.333333333333333, and are 1.1111111111111112 and -2.3333333333333335.
abbrev turned : List (List Float)
turned =
    let z = num 0 0 in
    let one = num 1 0 in
    let less = fin true 1 (pos 0) in
    (z ∷ one ∷ less ∷ fin true 3 (pos 0) ∷ z ∷ [])
    ∷ (z ∷ less ∷ fin true 1 (pos 1) ∷ one ∷ z ∷ [])
    ∷ (fin true 3 (pos 0) ∷ fin true 3 (pos 0) ∷ less ∷ num 3 0 ∷ z ∷ [])
    ∷ []

tie_xs : take 3 (solve_of 3 (flat turned [])).xs
    ≡ fin false 2501999792983609 (negsuc 50) ∷ fin true 5254199565265579 (negsuc 50) ∷ fin false 6004799503160661 (negsuc 52) ∷ []
unfolding solve_of flat sub mul div lt le eq ne neg of_bits smaller
tie_xs = refl

-- no row has a number in the second column: the pivot is 0, and its answer is not finite
singular : solved_ok plain 2 ((num 1 0 ∷ num 0 0 ∷ num 1 0 ∷ num 1 0 ∷ []) ∷ (num 1 0 ∷ num 0 0 ∷ num 1 0 ∷ num 1 0 ∷ []) ∷ []) ≡ false
unfolding solved_ok sub mul div lt le eq ne neg of_bits smaller
singular = refl
