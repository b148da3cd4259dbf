-- Inner: what is read of a curve for one parameter, whichever form the curve has: the ends of its domain, and what a span reads, which is that of the
-- parameter or, past an end, of that end.
use Rattle.std.specs.Prelude.{◌≡◌, Bool, true, false, Option, None, Some, List, ℕ, ◌+◌, ◌*◌, ◌≤◌, length, Float}
use Rattle.std.specs.Float.Ieee.{lt}
use Rattle.meaning.specs.Number.{clamp_of}
use Rattle.partials.specs.declared.Dv.{Dv}
use Rattle.partials.specs.Dual.{cst_dv, dual}
use Rattle.refusal.proofs.Rows.{Passed}
use Rattle.knots.specs.declared.Form.{Form}
use Rattle.knots.specs.declared.Form.TheVariants.{Fit}
use Rattle.shape.specs.Shape.{Shape, points_in}
use Rattle.shape.specs.Rules.{handle_rules}
use Rattle.evaluate.specs.Piece.{piece_of}
use Rattle.residual.specs.declared.Piece.{Piece}
use Rattle.residual.specs.Curve.{span_in, first_knot, last_knot}
use Rattle.residual.specs.Residual.{cells_for}

-- the span i is read
pub record ReadAt (c : Shape Dv) (i : ℕ) (p : Piece) : Type 0 where
  pub low : 3 ≤ i
  pub high : i ≤ 65
  pub numbers : p.span ≡ piece_of dual c i

-- the ends are constants, one not below the other, and the span is that of t
pub record Read (c : Shape Dv) (t : Float) (p : Piece) : Type 0 where
  pub first : first_knot c ≡ cst_dv p.lo
  pub last : last_knot c ≡ cst_dv p.hi
  pub apart : lt p.hi p.lo ≡ false
  pub span : ReadAt c (span_in c (clamp_of t p.lo p.hi)) p

-- ---- past the rules

-- there is room for the work of 2 to 12 fit points, with c partials to a cell
pub record ReadyFit (q : List Float) (c : ℕ) (work : List Float) (counts : List ℕ) : Type 0 where
  pub two : 2 ≤ points_in q
  pub few : points_in q ≤ 12
  pub wide : length q ≤ c
  pub narrow : c ≤ 27
  pub bytes : cells_for Fit q ≤ length counts
  pub doubles : cells_for Fit q * (c + 1) ≤ length work

-- the handles of either form have passed the rules, and there is room
pub record Ready (form : Form) (q : List Float) (given : Bool) (ks : List Float) (c : ℕ) (work : List Float) (counts : List ℕ) : Type 0 where
  pub rules : Passed (handle_rules form q given ks)
  pub few : points_in q ≤ 12
  pub wide : length q ≤ c
  pub narrow : c ≤ 27
  pub bytes : cells_for form q ≤ length counts
  pub doubles : cells_for form q * (c + 1) ≤ length work

-- what was read of a curve for t, where the verdict on it is yes
abbrev pub Judged : Bool → Shape Dv → Float → Option Piece → Type 0
Judged fine c t (Some p) = (fine ≡ true) × Read c t p
Judged fine c t None = fine ≡ false
