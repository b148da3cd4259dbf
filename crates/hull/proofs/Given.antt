-- What the theorems start from: the premises of demand 3 (docs/RULES.md), the rules that accepted the curve, and that a program's numbers are doubles,
-- which their types tell. Assumes nothing.
use mathlib.Core.Path.{◌≡◌, refl, sym, ◌∙◌, subst}
use mathlib.Core.Bool.{true, false, true≢false}
use mathlib.Core.List.{List, [], ◌∷◌, map, map-id}
use Prim.Native.Nat.{ℕ, zero, suc, ◌+◌, ◌<◌}
use native.Mathlib.Omega.{arith}
use lib.ListN.{length, take}
use lib.Seq.{get_or-take}
use lib.Dec.{T}
use lib.Ieee.{Float, nan, inf, fin, binary64, fits, lt, le, eq}
use lib.Ieee.Scale.{finite}
use mir.Val.{Val}
use denote.Array.{each}
use denote.Floats.{FloatOf}
use denote.Shadow.{shadow}
use Rattle.meaning.specs.Scalar.{plain}
use Rattle.meaning.specs.Table.{at1}
use Rattle.meaning.proofs.Order.{le_nan, le_not_lt}
use Rattle.knots.specs.Rules.{knot}
use Rattle.knots.proofs.Accepted.{Accepted}
use Rattle.shape.specs.Shape.{Shape}
use Rattle.hull.specs.Units.{SizeAtMost}
use Rattle.hull.specs.Asked.{InDomain}

-- every entry is a double, as in a list of a program's values
abbrev pub AllDoubles : List Float → Type 0
AllDoubles l = (i : ℕ) → i < length l → T (fits binary64 (at1 plain l i))

-- a curve and a parameter of a program
pub record Doubles (c : Shape Float) (t : Float) : Type 0 where
  pub knots : AllDoubles c.knots
  pub xs : AllDoubles c.xs
  pub ys : AllDoubles c.ys
  pub parameter : T (fits binary64 t)

-- the same of the curve alone
pub record AllNumbers (c : Shape Float) : Type 0 where
  pub knots : AllDoubles c.knots
  pub xs : AllDoubles c.xs
  pub ys : AllDoubles c.ys

pub with_parameter : {c : Shape Float} {t : Float} → AllNumbers c → T (fits binary64 t) → Doubles c t
with_parameter a d = record { knots = a.knots; xs = a.xs; ys = a.ys; parameter = d }

-- ---- what an array's type says of its entries, as an array and as a field of a struct

pub of_field : (l : List Float) (us : List Val) → shadow (each Float (FloatOf binary64).own_val l us) → AllDoubles l
of_field [] us h i g = absurd (omega arith)
of_field (x ∷ l) [] h i g = absurd h
of_field (x ∷ l) (u ∷ us) h zero g = subst T (sym h.0.1) tt
of_field (x ∷ l) (u ∷ us) h (suc i) g = of_field l us h.1 i (omega arith)

-- ---- the coordinates of n control points, and a parameter in the domain

pub record Coordinates (n : ℕ) (cs : List Float) : Type 0 where
  pub doubles : AllDoubles cs
  pub fine : (j : ℕ) → j < n → finite (at1 plain cs j) ≡ true

-- by the tests of `order_at`
pub record Within (c : Shape Float) (t : Float) : Type 0 where
  pub doubles : AllDoubles c.knots
  pub sizes : (i : ℕ) → i < c.n + 4 → SizeAtMost 20 (knot c.knots i)
  pub double : T (fits binary64 t)
  pub number : finite t ≡ true
  pub from : lt t (knot c.knots 0) ≡ false
  pub to : lt (knot c.knots (c.n + 3)) t ≡ false

-- what lies between two finite doubles is finite
from-below : (a : Float) → finite a ≡ true → le a (inf true) ≡ true → ⊥
unfolding le lt eq
from-below nan f h = true≢false (sym f)
from-below (inf s) f h = true≢false (sym f)
from-below (fin s m e) f h = true≢false (sym h)

to-above : (b : Float) → finite b ≡ true → le (inf false) b ≡ true → ⊥
unfolding le lt eq
to-above nan f h = true≢false (sym f)
to-above (inf s) f h = true≢false (sym f)
to-above (fin s m e) f h = true≢false (sym h)

between : (a t b : Float) → finite a ≡ true → finite b ≡ true → le a t ≡ true → le t b ≡ true → finite t ≡ true
between a nan b f g h k = absurd (true≢false (sym h ∙ le_nan a))
between a (inf true) b f g h k = absurd (from-below a f h)
between a (inf false) b f g h k = absurd (to-above b g k)
between a (fin s m e) b f g h k = refl

pub within : (c : Shape Float) (t : Float) → Accepted (take (c.n + 4) c.knots) c.n → InDomain c t → Doubles c t → Within c t
within c t a d k =
    let fine : (i : ℕ) → i < c.n + 4 → finite (knot c.knots i) ≡ true = λ i h. rw (get_or-take (c.n + 4) c.knots i nan h) at (a.fine i h) in
    record {
      doubles = k.knots;
      sizes = d.sizes;
      double = k.parameter;
      number = between (knot c.knots 0) t (knot c.knots (c.n + 3)) (fine 0 (omega arith)) (fine (c.n + 3) (omega arith)) d.from d.to;
      from = le_not_lt _ _ d.from;
      to = le_not_lt _ _ d.to;
    }
