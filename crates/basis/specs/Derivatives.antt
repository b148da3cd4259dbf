-- A2.3's derivative of order k of basis function r, from the table `ndu` and the coefficients of order k - 1. The original's `basis` decides the
-- operations and their order, The NURBS Book, A2.3, what they mean.
use Rattle.std.specs.Prelude.{ℕ, ◌-◌, cond, List, set, leb, ℤ}
use Rattle.meaning.specs.Scalar.{Ops, zero64, one64}
use Rattle.meaning.specs.Loops.{run}
use Rattle.meaning.specs.Table.{at1, at2}
use Rattle.basis_columns.specs.Columns.{below, column_at, first_j, end_j}
use Rattle.basis.specs.Triangle.{four_zeros}

-- A2.3's two alternating rows `a[s1]` and `a[s2]`, and the sum `d`
pub record Coefs (A : Type 0) : Type 0 where
  pub old : List A
  pub new : List A
  pub d : A

module _ {A : Type 0} (o : Ops A) where
  -- the knot difference `ndu[pk + 1][c]` and the value `ndu[c][pk]` of column c, where pk is 3 - k
  abbrev pub gap_at : List (List A) → ℕ → ℕ → A
  gap_at ndu k c = at2 o ndu (4 - k) c

  abbrev pub value_at : List (List A) → ℕ → ℕ → A
  value_at ndu k c = at2 o ndu c (3 - k)

  -- the three statements that store a coefficient, each with its sum
  abbrev pub first_put : A → A → Coefs A → Coefs A
  first_put gap value s =
      let a = o.over (at1 o s.old 0) gap in
      record { old = s.old; new = set s.new 0 a; d = o.times a value }

  abbrev pub mid_put : A → A → ℕ → Coefs A → Coefs A
  mid_put gap value j s =
      let a = o.over (o.minus (at1 o s.old j) (at1 o s.old (j - 1))) gap in
      record { old = s.old; new = set s.new j a; d = o.plus s.d (o.times a value) }

  abbrev pub last_put : A → A → ℕ → Coefs A → Coefs A
  last_put gap value k s =
      let a = o.over (o.opp (at1 o s.old (k - 1))) gap in
      record { old = s.old; new = set s.new k a; d = o.plus s.d (o.times a value) }

  -- coefficient 0, where r ≥ k
  unfoldable pub first_coef : List (List A) → ℕ → ℕ → Coefs A → Coefs A
  first_coef ndu r k s = let c = column_at (below r k) 0 in cond (leb k r) (first_put (gap_at ndu k c) (value_at ndu k c) s) s

  -- the coefficients j1 to j2: a turn, and the loop
  unfoldable pub mid_turn : List (List A) → ℤ → ℕ → ℕ → Coefs A → Coefs A
  mid_turn ndu rk k j s = let c = column_at rk j in mid_put (gap_at ndu k c) (value_at ndu k c) j s

  unfoldable pub mid_coefs : List (List A) → ℕ → ℕ → Coefs A → Coefs A
  mid_coefs ndu r k s = run (first_j (below r k)) (end_j r k) (mid_turn ndu (below r k) k) s

  -- coefficient k, where r ≤ pk
  unfoldable pub last_coef : List (List A) → ℕ → ℕ → Coefs A → Coefs A
  last_coef ndu r k s = cond (leb r (3 - k)) (last_put (gap_at ndu k r) (value_at ndu k r) k s) s

  -- the sum begins at +0.0
  abbrev pub cleared : Coefs A → Coefs A
  cleared s = record { old = s.old; new = s.new; d = o.cst zero64 }

  -- the rows change places
  abbrev pub swapped : Coefs A → Coefs A
  swapped s = record { old = s.new; new = s.old; d = s.d }

  -- a turn of the loop over k: the derivative is in d
  unfoldable pub order_of : List (List A) → ℕ → ℕ → Coefs A → Coefs A
  order_of ndu r k s = swapped (last_coef ndu r k (mid_coefs ndu r k (first_coef ndu r k (cleared s))))

  -- before the loop over k: zeros but for the 1.0 at `a[0][0]`
  abbrev pub start_coefs : Coefs A
  start_coefs = record { old = set (four_zeros o) 0 (o.cst one64); new = four_zeros o; d = o.cst zero64 }
