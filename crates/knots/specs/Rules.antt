-- The rules 2 to 10 for a number of handles and a knot list. docs/RULES.md, "Refusals", decides: each row is one of its table, in its
-- order, and each test compares as the original's `check` does, so that -0.0 equals 0.0. n control points have n + 4 knots.
use Rattle.std.specs.Prelude.{◌≡◌, Bool, true, false, not, ◌&&◌, ◌||◌, cond, List, [], ◌∷◌, ℕ, ◌+◌, ◌-◌, ◌<◌, length, ltb, leb, eqb, Float}
use Rattle.std.specs.Float.Ieee.{lt, le, eq, ne}
use Rattle.std.specs.Float.Ieee.Scale.{finite}
use Rattle.meaning.specs.Scalar.{plain}
use Rattle.meaning.specs.Table.{at1}
use Rattle.refusal.specs.Refusals.{Row, row}
use Rattle.meaning.specs.Search.{some}
use Rattle.knots.specs.declared.Form.{Form}
use Rattle.knots.specs.declared.Form.TheVariants.{Control, Fit}

-- knot i
abbrev pub knot : List Float → ℕ → Float
knot ks i = at1 plain ks i

-- ---- the number of handles, by the form

abbrev pub few_handles : ℕ → Bool
few_handles handles = ltb handles 2

-- control points that are no cubic's
abbrev pub no_cubic : Form → ℕ → Bool
no_cubic Control handles = leb 2 handles && leb handles 3
no_cubic Fit handles = false

abbrev pub most_handles : Form → ℕ
most_handles Control = 66
most_handles Fit = 64

abbrev pub too_many : Form → ℕ → Bool
too_many form handles = ltb (most_handles form) handles

-- knots can be given
abbrev pub takes_knots : Form → Bool
takes_knots Control = true
takes_knots Fit = false

-- ---- a list of knots for n control points

abbrev pub wrong_count : ℕ → List Float → Bool
wrong_count n ks = not (eqb (length ks) (n + 4))

-- the n + 4 knots do not fall
abbrev pub NotFalling : List Float → ℕ → Type 0
NotFalling ks n = (i : ℕ) → i < n + 3 → le (knot ks i) (knot ks (i + 1)) ≡ true

-- knot i is not finite, or is less than the one before
abbrev pub unfit : List Float → ℕ → Bool
unfit ks i = not (finite (knot ks i)) || (ltb 0 i && lt (knot ks i) (knot ks (i - 1)))

abbrev pub some_unfit : List Float → Bool
some_unfit ks = some 0 (length ks) (unfit ks)

-- knot i is not equal to knot j
abbrev pub unlike : List Float → ℕ → ℕ → Bool
unlike ks j i = ne (knot ks i) (knot ks j)

abbrev pub not_clamped : ℕ → List Float → Bool
not_clamped n ks = some 0 4 (unlike ks 0) || some n (n + 4) (unlike ks (n + 3))

-- the first knot is at or above the last
abbrev pub no_interval : ℕ → List Float → Bool
no_interval n ks = le (knot ks (n + 3)) (knot ks 0)

-- how many knots of the list equal x
unfoldable pub count : List Float → Float → ℕ
count [] x = 0
count (k ∷ ks) x = cond (eq k x) 1 0 + count ks x

-- knot i equals more than 3 knots of the whole list
abbrev pub crowded : List Float → ℕ → Bool
crowded ks i = ltb 3 (count ks (knot ks i))

abbrev pub some_crowded : ℕ → List Float → Bool
some_crowded n ks = some 4 n (crowded ks)

-- ---- the table: a list of knots is judged where one is given, of whatever length

unfoldable pub knot_rules : Form → ℕ → Bool → List Float → List Row
knot_rules form handles given ks =
    row 2 (few_handles handles) ∷ row 3 (no_cubic form handles) ∷ row 4 (too_many form handles)
    ∷ row 5 (given && not (takes_knots form))
    ∷ row 6 (given && wrong_count handles ks) ∷ row 7 (given && some_unfit ks)
    ∷ row 8 (given && not_clamped handles ks) ∷ row 9 (given && no_interval handles ks)
    ∷ row 10 (given && some_crowded handles ks)
    ∷ []
