-- A2.3's table `ndu`: basis values on and above the diagonal, knot differences below it. The original's `basis` decides the operations and their
-- order, The NURBS Book, A2.3, what they mean.
use Rattle.std.specs.Prelude.{ℕ, ◌+◌, ◌-◌, List, set, replicate}
use Rattle.meaning.specs.Scalar.{Ops, zero64, one64}
use Rattle.meaning.specs.Loops.{run}
use Rattle.meaning.specs.Table.{at1, at2, put2}

-- what the four statements of the inner loop make: `ndu[j][r]`, `ndu[r][j]` and `saved`
pub record Cell (A : Type 0) : Type 0 where
  pub gap : A
  pub value : A
  pub saved : A

-- the inner loop's state
pub record Column (A : Type 0) : Type 0 where
  pub ndu : List (List A)
  pub saved : A

-- the outer loop's state: beside the table, t less the knots to its left, and the knots to its right less t
pub record Sides (A : Type 0) : Type 0 where
  pub ndu : List (List A)
  pub left : List A
  pub right : List A

module _ {A : Type 0} (o : Ops A) where
  -- four scalars +0.0
  abbrev pub four_zeros : List A
  four_zeros = replicate 4 (o.cst zero64)

  -- from `right[r + 1]`, `left[j - r]`, `ndu[r][j - 1]` and the turn before
  abbrev pub cell_of : A → A → A → A → Cell A
  cell_of right left before saved =
      let gap = o.plus right left in
      let temp = o.over before gap in
      record { gap = gap; value = o.plus saved (o.times right temp); saved = o.times left temp }

  -- a turn of the inner loop, over r
  unfoldable pub column_turn : List A → List A → ℕ → ℕ → Column A → Column A
  column_turn left right j r s =
      let c = cell_of (at1 o right (r + 1)) (at1 o left (j - r)) (at2 o s.ndu r (j - 1)) s.saved in
      record { ndu = put2 (put2 s.ndu j r c.gap) r j c.value; saved = c.saved }

  -- the inner loop, and `ndu[j][j]` after it
  unfoldable pub column_of : List A → List A → ℕ → List (List A) → List (List A)
  column_of left right j ndu =
      let s = run 0 j (column_turn left right j) (record { ndu = ndu; saved = o.cst zero64 }) in
      put2 s.ndu j j s.saved

  -- a turn of the outer loop, over j: `left[j]`, `right[j]`, and column j from them
  unfoldable pub sides_turn : List A → ℕ → A → ℕ → Sides A → Sides A
  sides_turn u i t j s =
      let left = set s.left j (o.minus t (at1 o u (i + 1 - j))) in
      let right = set s.right j (o.minus (at1 o u (i + j)) t) in
      record { ndu = column_of left right j s.ndu; left = left; right = right }

  -- before the outer loop: zeros but for the 1.0 at `ndu[0][0]`
  abbrev pub no_sides : Sides A
  no_sides = record { ndu = put2 (replicate 4 four_zeros) 0 0 (o.cst one64); left = four_zeros; right = four_zeros }

  -- the table of span i of the knots u, at t
  unfoldable pub triangle_of : List A → ℕ → A → List (List A)
  triangle_of u i t = (run 1 4 (sides_turn u i t) no_sides).ndu
