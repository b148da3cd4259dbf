-- What the operations keep holds of every number of the basis, and of every matrix number of a row: each is the answer of an operation, or a constant,
-- or what is read past an end. Assumes nothing.
use mathlib.Core.Bool.{Bool, true, false, ◌&&◌, cond}
use mathlib.Core.List.{List, [], ◌∷◌}
use Prim.Native.Nat.{ℕ, zero, suc, ◌+◌, ◌-◌, min}
use lib.Dec.{T, leb}
use lib.ListN.{get_or, set, replicate}
use lib.Ieee.{Float, binary64, fits}
use lib.Ieee.Bits.{of_bits-fits}
use lib.Ieee.Fits.{mul-fits}
use Rattle.meaning.specs.Scalar.{Ops, zero64, one64}
use Rattle.meaning.specs.Loops.{turns}
use Rattle.meaning.specs.Table.{at1, at2, put2}
use Rattle.basis_columns.specs.Columns.{below}
use Rattle.basis.specs.Triangle.{Column, Sides, four_zeros, column_turn, column_of, sides_turn, no_sides, triangle_of}
use Rattle.basis.specs.Derivatives.{Coefs, first_coef, mid_turn, mid_coefs, last_coef, cleared, order_of, start_coefs}
use Rattle.basis.specs.Basis.{Orders, Scaling, no_orders, values_of, order_turn, function_of, functions_of, scaled_row, scale_turn, scaled, derivatives_of, basis_of}
use Rattle.fit.specs.System.{spread, row_at}

-- P is kept by the operations and holds of constants, and of a difference of two numbers it holds where Q holds of them
pub record Kept {A : Type 0} (o : Ops A) (Q P : A → Type 0) : Type 0 where
  pub knot : (x y : A) → Q x → Q y → P (o.minus x y)
  pub plus : (x y : A) → P x → P y → P (o.plus x y)
  pub minus : (x y : A) → P x → P y → P (o.minus x y)
  pub times : (x y : A) → P x → P y → P (o.times x y)
  pub over : (x y : A) → P x → P y → P (o.over x y)
  pub opp : (x : A) → P x → P (o.opp x)
  pub cst : (v : Float) → T (fits binary64 v) → P (o.cst v)
  pub off : P o.off

-- ---- what holds of each read of a list, and of what a loop makes

module _ {A : Type 0} (P : A → Type 0) (d : A) where
  set_keeps : (l : List A) (i : ℕ) (v : A) → P v → ((r : ℕ) → P (get_or l r d)) → (r : ℕ) → P (get_or (set l i v) r d)
  set_keeps [] i v p h r = h r
  set_keeps (x ∷ l) zero v p h zero = p
  set_keeps (x ∷ l) zero v p h (suc r) = h (suc r)
  set_keeps (x ∷ l) (suc i) v p h zero = h zero
  set_keeps (x ∷ l) (suc i) v p h (suc r) = set_keeps l i v p (λ r. h (suc r)) r

  replicate_keeps : (n : ℕ) (v : A) → P v → P d → (r : ℕ) → P (get_or (replicate n v) r d)
  replicate_keeps zero v p q r = q
  replicate_keeps (suc n) v p q zero = p
  replicate_keeps (suc n) v p q (suc r) = replicate_keeps n v p q r

turns_keep : {S : Type 0} (P : S → Type 0) (f : ℕ → S → S) → ((k : ℕ) (s : S) → P s → P (f k s)) → (lo n : ℕ) (s : S) → P s → P (turns lo n f s)
unfolding turns
turns_keep P f h lo zero s p = p
turns_keep P f h lo (suc n) s p = h (lo + n) (turns lo n f s) (turns_keep P f h lo n s p)

chosen : {S : Type 0} (P : S → Type 0) (b : Bool) (x y : S) → P x → P y → P (cond b x y)
chosen P true x y p q = p
chosen P false x y p q = q

module _ {A : Type 0} (o : Ops A) (Q P : A → Type 0) (k : Kept o Q P) where
  -- every number that is read of a row is kept, and of a table
  record InRow (l : List A) : Type 0 where
    read : (c : ℕ) → P (at1 o l c)

  record InTable (t : List (List A)) : Type 0 where
    row : (r : ℕ) → InRow (get_or t r [])

  nought : P (o.cst zero64)
  nought = k.cst zero64 (of_bits-fits binary64 0)

  unit : P (o.cst one64)
  unit = k.cst one64 (of_bits-fits binary64 0x3ff0_0000_0000_0000)

  set_row : (l : List A) (i : ℕ) (v : A) → P v → InRow l → InRow (set l i v)
  set_row l i v p h = record { read = set_keeps P o.off l i v p h.read }

  put_table : (t : List (List A)) (i j : ℕ) (v : A) → P v → InTable t → InTable (put2 t i j v)
  put_table t i j v p h = record { row = set_keeps InRow [] t i (set (get_or t i []) j v) (set_row (get_or t i []) j v p (h.row i)) h.row }

  zeros-row : InRow (four_zeros o)
  zeros-row = record { read = replicate_keeps P o.off 4 (o.cst zero64) nought k.off }

  zeros_table : (n : ℕ) → InTable (replicate n (four_zeros o))
  zeros_table n = record { row = replicate_keeps InRow [] n (four_zeros o) zeros-row (record { read = λ c. k.off }) }

  -- ---- the table

  abbrev ColumnKept : Column A → Type 0
  ColumnKept s = InTable s.ndu × P s.saved

  column_turn_lem : (left right : List A) → InRow left → InRow right → (j r : ℕ) (s : Column A) → ColumnKept s → ColumnKept (column_turn o left right j r s)
  unfolding column_turn
  column_turn_lem left right l h j r s q =
      let a = h.read (r + 1) in
      let b = l.read (j - r) in
      let gap = k.plus _ _ a b in
      let temp = k.over _ _ ((q.0.row r).read (j - 1)) gap in (
        put_table _ r j _ (k.plus _ _ q.1 (k.times _ _ a temp)) (put_table s.ndu j r _ gap q.0),
        k.times _ _ b temp,
      )

  column_table : (left right : List A) → InRow left → InRow right → (j : ℕ) (ndu : List (List A)) → InTable ndu → InTable (column_of o left right j ndu)
  unfolding column_of
  column_table left right l h j ndu q =
      let start : Column A = record { ndu = ndu; saved = o.cst zero64 } in
      let s = turns_keep ColumnKept (column_turn o left right j) (column_turn_lem left right l h j) 0 (j - 0) start (q, nought) in
      put_table _ j j _ s.1 s.0

  abbrev SidesKept : Sides A → Type 0
  SidesKept s = InTable s.ndu × InRow s.left × InRow s.right

  module _ (u : List A) (i : ℕ) (t : A) (known : (j : ℕ) → Q (at1 o u j)) (at : Q t) where
    sides_turn_lem : (j : ℕ) (s : Sides A) → SidesKept s → SidesKept (sides_turn o u i t j s)
    unfolding sides_turn
    sides_turn_lem j s h =
        let left = set_row s.left j _ (k.knot _ _ at (known (i + 1 - j))) h.1 in
        let right = set_row s.right j _ (k.knot _ _ (known (i + j)) at) h.2 in
        (column_table _ _ left right j s.ndu h.0, left, right)

    triangle_table : InTable (triangle_of o u i t)
    unfolding triangle_of
    triangle_table =
        (turns_keep SidesKept (sides_turn o u i t) sides_turn_lem 1 3 (no_sides o)
        (put_table (replicate 4 (four_zeros o)) 0 0 (o.cst one64) unit (zeros_table 4), zeros-row, zeros-row)).0

  -- ---- the derivatives

  abbrev CoefsKept : Coefs A → Type 0
  CoefsKept s = InRow s.old × InRow s.new × P s.d

  module _ (ndu : List (List A)) (h : InTable ndu) where
    read : (r c : ℕ) → P (at2 o ndu r c)
    read r c = (h.row r).read c

    order_kept : (r n : ℕ) (s : Coefs A) → CoefsKept s → CoefsKept (order_of o ndu r n s)
    unfolding order_of first_coef mid_coefs mid_turn last_coef
    order_kept r n s q =
        let start = cleared o s in
        let first = first_coef o ndu r n start in
        let mid = mid_coefs o ndu r n first in
        let c0 : CoefsKept start = (q.0, q.1, nought) in
        let a0 = k.over _ _ (q.0.read 0) (read _ _) in
        let c1 : CoefsKept first = chosen CoefsKept (leb n r) _ start (q.0, set_row _ 0 _ a0 q.1, k.times _ _ a0 (read _ _)) c0 in
        let c2 : CoefsKept mid = turns_keep CoefsKept (mid_turn o ndu (below r n) n)
        (λ j s p.
        let a = k.over _ _ (k.minus _ _ (p.0.read j) (p.0.read (j - 1))) (read _ _) in
        (p.0, set_row _ j _ a p.1, k.plus _ _ p.2 (k.times _ _ a (read _ _)))) _ _ first c1 in
        let a3 = k.over _ _ (k.opp _ (c2.0.read (n - 1))) (read _ _) in
        let c3 : CoefsKept (last_coef o ndu r n mid) =
        chosen CoefsKept (leb r (3 - n)) _ mid (c2.0, set_row _ n _ a3 c2.1, k.plus _ _ c2.2 (k.times _ _ a3 (read _ _))) c2 in
        (c3.1, c3.0, c3.2)

    abbrev OrdersKept : Orders A → Type 0
    OrdersKept s = CoefsKept s.coefs × InTable s.ders

    function_table : (n r : ℕ) (ders : List (List A)) → InTable ders → InTable (function_of o ndu n r ders)
    unfolding function_of order_turn
    function_table n r ders q =
        (turns_keep OrdersKept (order_turn o ndu r)
        (λ j s p. let c = order_kept r j s.coefs p.0 in (c, put_table s.ders j r _ c.2 p.1)) 1 (n + 1 - 1)
        (record { coefs = start_coefs o; ders = ders })
        ((set_row (four_zeros o) 0 (o.cst one64) unit zeros-row, zeros-row, nought), q)).1

  abbrev ScalingKept : Scaling A → Type 0
  ScalingKept s = InTable s.ders × T (fits binary64 s.factor)

  scaled_table : (n : ℕ) (ders : List (List A)) → InTable ders → InTable (scaled o n ders)
  unfolding scaled scale_turn scaled_row
  scaled_table n ders h =
      (turns_keep ScalingKept (scale_turn o)
      (λ j s p. (
        turns_keep InTable _ (λ i d q. put_table d j i _ (k.times _ _ ((q.row j).read i) (k.cst s.factor p.1)) q) 0 4 s.ders p.0,
        mul-fits binary64 _ _,
      )) 1 (n + 1 - 1) _ (h, of_bits-fits binary64 0x4008_0000_0000_0000)).0

  module _ (u : List A) (i : ℕ) (t : A) (known : (j : ℕ) → Q (at1 o u j)) (at : Q t) where
    derivatives_table : (nd : ℕ) → InTable (derivatives_of o u i t nd)
    unfolding derivatives_of functions_of values_of
    derivatives_table nd =
        let n = min nd 3 in
        let ndu = triangle_of o u i t in
        let tri = triangle_table u i t known at in
        let values : InTable (values_of o ndu) =
        turns_keep InTable _ (λ j d h. put_table d 0 j _ ((tri.row j).read 3) h) 0 4 (no_orders o) (zeros_table 5) in
        scaled_table n _ (turns_keep InTable (function_of o ndu n) (λ r d h. function_table ndu tri n r d h) 0 4 (values_of o ndu) values)

    pub derivatives_keep : (nd r c : ℕ) → P (at2 o (derivatives_of o u i t nd) r c)
    derivatives_keep nd r c = ((derivatives_table nd).row r).read c

    basis_table : (nd : ℕ) → InTable (basis_of o u i t nd)
    unfolding basis_of
    basis_table nd = chosen InTable (leb 3 i && leb i 65) (derivatives_of o u i t nd) (no_orders o) (derivatives_table nd) (zeros_table 5)

    -- every number of the basis
    pub basis_keeps : (nd r c : ℕ) → P (at2 o (basis_of o u i t nd) r c)
    basis_keeps nd r c = ((basis_table nd).row r).read c

-- every matrix number
pub row_keeps : {A : Type 0} (o : Ops A) (Q P : A → Type 0) → Kept o Q P → (sp : Float → ℕ) (us : List A) (t : A) → ((j : ℕ) → Q (at1 o us j)) → Q t
    → (d n : ℕ) → P (row_at o sp us t d n)
unfolding row_at spread
row_keeps o Q P k sp us t known at d n =
    let i = sp (o.val t) in
    chosen P (leb i (n + 3) && leb n i) _ (o.cst zero64) (basis_keeps o Q P k us i t known at d d (n + 3 - i)) (k.cst zero64 (of_bits-fits binary64 0))
