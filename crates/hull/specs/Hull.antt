-- The hull of a span's four control points, one coordinate at a time. Demand 3 (docs/RULES.md) decides: from the least to the greatest of the four, widened by
-- 2 ^ -47 of the largest size among them and by 2 ^ -1070.
use Rattle.std.specs.Prelude.{Bool, cond, List, ℕ, ◌+◌, ◌-◌, ◌*◌, ◌^◌, ◌≤◌, max, leb, Float}
use Rattle.meaning.specs.Root.{in_units}
use Rattle.meaning.specs.Scalar.{plain}
use Rattle.meaning.specs.Table.{at1}
use Rattle.hull.specs.Units.{plus, minus}

-- ---- of two, by their units

abbrev pub not_above : Float → Float → Bool
not_above x y = leb (plus x + minus y) (plus y + minus x)

abbrev pub lower : Float → Float → Float
lower x y = cond (not_above x y) x y

abbrev pub higher : Float → Float → Float
higher x y = cond (not_above x y) y x

-- ---- of four

unfoldable pub lowest : Float → Float → Float → Float → Float
lowest a b c d = lower (lower a b) (lower c d)

unfoldable pub highest : Float → Float → Float → Float → Float
highest a b c d = higher (higher a b) (higher c d)

abbrev pub largest : Float → Float → Float → Float → ℕ
largest a b c d = max (max (in_units a) (in_units b)) (max (in_units c) (in_units d))

-- ---- of the control points i - 3 to i, whose coordinates are cs

abbrev pub of_span : {A : Type 0} → (Float → Float → Float → Float → A) → List Float → ℕ → A
of_span f cs i = f (at1 plain cs (i - 3 + 0)) (at1 plain cs (i - 3 + 1)) (at1 plain cs (i - 3 + 2)) (at1 plain cs (i - 3 + 3))

abbrev pub least_of : List Float → ℕ → Float
least_of cs i = of_span lowest cs i

abbrev pub greatest_of : List Float → ℕ → Float
greatest_of cs i = of_span highest cs i

abbrev pub largest_of : List Float → ℕ → ℕ
largest_of cs i = of_span largest cs i

-- ---- in whole multiples of 2 ^ -1121, of which a unit is 2 ^ 47

-- 2 ^ -47 of m units is m of them, and 2 ^ -1070 is 2 ^ 51
abbrev pub widening : ℕ → ℕ
widening m = m + 2 ^ 51

-- x ≤ y + w
abbrev pub AtMostBy : ℕ → Float → Float → Type 0
AtMostBy w x y = (plus x + minus y) * 2 ^ 47 ≤ (plus y + minus x) * 2 ^ 47 + w

pub record InHull (cs : List Float) (i : ℕ) (p : Float) : Type 0 where
  pub below : AtMostBy (widening (largest_of cs i)) (least_of cs i) p
  pub above : AtMostBy (widening (largest_of cs i)) p (greatest_of cs i)
