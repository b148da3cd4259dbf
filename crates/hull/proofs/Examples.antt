-- Demand 3 (docs/RULES.md) speaks of curves that there are: one that meets each of its bounds exactly, in the rooms of a record and in slices, of which no
-- refusal is allowed. And two curves that show what the bound on the knots and the 2 ^ -1070 are for. All by computing. Assumes nothing.
use mathlib.Core.Path.{◌≡◌, refl, sym}
use mathlib.Core.Bool.{Bool, true, false, ◌&&◌}
use mathlib.Core.List.{List, [], ◌∷◌, ◌++◌}
use Prim.Native.Nat.{ℕ, zero, suc, ◌+◌, ◌*◌, ◌^◌, ◌<◌, ◌≤◌}
use native.Mathlib.Nat.{le_of_eq}
use native.Mathlib.Omega.{arith}
use borrow.Author.Tests.{leb-true}
use lib.ListN.{length, take, replicate}
use lib.IntN.{pos, negsuc}
use lib.Dec.{leb, le→leb, lit≤}
use lib.Ieee.{Float, fin, lt, le, eq, ne, add, sub, mul, div, of_bits}
use lib.Ieee.Scale.{finite}
use Rattle.meaning.specs.Root.{in_units}
use Rattle.meaning.specs.Scalar.{plain}
use Rattle.meaning.specs.Table.{at1}
use Rattle.meaning.specs.Loops.{turns}
use Rattle.refusal.specs.Refusals.{Verdict, none, first_of}
use Rattle.refusal.proofs.Rows.{Passed}
use Rattle.knots.specs.declared.Form.TheVariants.{Control}
use Rattle.meaning.specs.Search.{seek_from, listed}
use Rattle.knots.specs.Rules.{knot, count, knot_rules}
use Rattle.span.specs.Span.{span_of}
use Rattle.meaning.proofs.Tests.{and_left, and_right}
use Rattle.basis.specs.Triangle.{column_turn, column_of, sides_turn, triangle_of}
use Rattle.basis.specs.Basis.{values_of, function_of, functions_of, scaled, derivatives_of, basis_of}
use Rattle.buffer.specs.Pasted.{pasted}
use Rattle.shape.specs.Shape.{Shape, every_other}
use Rattle.shape.specs.Rules.{shape_rules, handle_rules}
use Rattle.shape.specs.Offered.{Offered, in_rooms, in_slices}
use Rattle.evaluate.specs.Point.{weighted, placed, inside_of, order_at, orders_of}
use Rattle.hull.specs.Units.{U, rise_of, SizeAtMost}
use Rattle.hull.specs.Hull.{lowest, least_of, largest_of, AtMostBy, InHull}
use Rattle.hull.specs.Asked.{span_at, Drawable}
use Rattle.hull.specs.Promise.{NeverRefused}

-- ---- sizes, as tests to compute

sized : ℕ → List Float → Bool
sized k [] = true
sized k (x ∷ l) = leb (in_units x) (U * 2 ^ k) && sized k l

entry : (k : ℕ) (l : List Float) → sized k l ≡ true → (i : ℕ) → i < length l → SizeAtMost k (at1 plain l i)
unfolding sized
entry k [] h i g = absurd (omega arith)
entry k (x ∷ l) h zero g = leb-true (in_units x) (U * 2 ^ k) (and_left _ (sized k l) h)
entry k (x ∷ l) h (suc i) g = entry k l (and_right (leb (in_units x) (U * 2 ^ k)) (sized k l) h) i (omega arith)

-- the first m entries of a list are at most 2 ^ k in size
record Sizes (m k : ℕ) (l : List Float) : Type 0 where
  long : leb m (length l) ≡ true
  each : sized k l ≡ true

at : {m k : ℕ} {l : List Float} → Sizes m k l → (i : ℕ) → i < m → SizeAtMost k (at1 plain l i)
at {m} {k} {l} s i h = let e : m ≤ length l = leb-true m (length l) s.long in entry k l s.each i (omega arith)

-- ---- 0, 2 ^ k and -2 ^ k

abbrev nil : Float
nil = fin false 0 (pos 0)

abbrev up_to : ℕ → Float
up_to k = fin false 1 (pos k)

abbrev down_to : ℕ → Float
down_to k = fin true 1 (pos k)

-- ---- every bound met exactly: the span from 0 to 2 ^ -20, knots up to 2 ^ 20 and coordinates up to 2 ^ 500

abbrev xs : List Float
xs = up_to 500 ∷ down_to 500 ∷ up_to 500 ∷ down_to 500 ∷ nil ∷ []

abbrev ys : List Float
ys = nil ∷ up_to 0 ∷ down_to 500 ∷ up_to 500 ∷ up_to 3 ∷ []

abbrev coords : List Float
coords = up_to 500 ∷ nil ∷ down_to 500 ∷ up_to 0 ∷ up_to 500 ∷ down_to 500 ∷ down_to 500 ∷ up_to 500 ∷ nil ∷ up_to 3 ∷ []

abbrev knots : List Float
knots = nil ∷ nil ∷ nil ∷ nil ∷ fin false 1 (negsuc 19) ∷ up_to 20 ∷ up_to 20 ∷ up_to 20 ∷ up_to 20 ∷ []

-- 2 ^ -21
abbrev middle : Float
middle = fin false 1 (negsuc 20)

abbrev rooms : Offered
rooms = in_rooms 5 9 (xs ++ replicate 61 nil) (ys ++ replicate 61 nil) (knots ++ replicate 61 nil)

abbrev slices : Offered
slices = in_slices coords knots

-- all that is asked of it, the length of its span as an equation
record Tested (who : Offered) : Type 0 where
  rules : first_of who.rules ≡ none
  knots : Sizes (who.shape.n + 4) 20 who.shape.knots
  xs : Sizes who.shape.n 500 who.shape.xs
  ys : Sizes who.shape.n 500 who.shape.ys
  from : le (knot who.shape.knots 0) middle ≡ true
  to : le middle (knot who.shape.knots (who.shape.n + 3)) ≡ true
  exactly : rise_of (knot who.shape.knots (span_at who.shape middle)) (knot who.shape.knots (span_at who.shape middle + 1)) * 2 ^ 20 ≡ U

drawable : {who : Offered} → Tested who → Drawable who.shape middle
drawable p =
    record {
      domain = record { sizes = at p.knots; from = p.from; to = p.to };
      long = le_of_eq (sym p.exactly);
      modest_x = at p.xs;
      modest_y = at p.ys;
    }

rooms_tested : Tested rooms
unfolding sized in_units lt le eq ne first_of shape_rules knot_rules seek_from count finite span_of
rooms_tested =
    record {
      rules = refl;
      knots = record { long = refl; each = refl };
      xs = record { long = refl; each = refl };
      ys = record { long = refl; each = refl };
      from = refl;
      to = refl;
      exactly = refl;
    }

slices_tested : Tested slices
unfolding sized in_units lt le eq ne first_of handle_rules knot_rules seek_from count finite span_of every_other listed pasted of_bits
slices_tested =
    record {
      rules = refl;
      knots = record { long = refl; each = refl };
      xs = record { long = refl; each = refl };
      ys = record { long = refl; each = refl };
      from = refl;
      to = refl;
      exactly = refl;
    }

-- so a call for the point alone that refuses everything breaks the promise: no refusal is allowed here
pub rooms_answered : (r : Verdict) → NeverRefused rooms middle 0 (nil ∷ nil ∷ []) r → r ≡ none
rooms_answered r h = h rooms_tested.rules (drawable rooms_tested) refl (lit≤ tt)

pub slices_answered : (r : Verdict) → NeverRefused slices middle 0 (nil ∷ nil ∷ []) r → r ≡ none
slices_answered r h = h slices_tested.rules (drawable slices_tested) refl (lit≤ tt)

-- ---- why the knots are bounded: four times -2 ^ 1023 and four times 2 ^ 1023, at 0, with all control points at (1, 1)

abbrev W : Shape Float
W =
    record {
      n = 4;
      xs = up_to 0 ∷ up_to 0 ∷ up_to 0 ∷ up_to 0 ∷ [];
      ys = up_to 0 ∷ up_to 0 ∷ up_to 0 ∷ up_to 0 ∷ [];
      knots = down_to 1023 ∷ down_to 1023 ∷ down_to 1023 ∷ down_to 1023 ∷ up_to 1023 ∷ up_to 1023 ∷ up_to 1023 ∷ up_to 1023 ∷ [];
    }

W_accepted : Passed (knot_rules Control W.n true (take (W.n + 4) W.knots))
unfolding first_of knot_rules seek_from count lt le eq ne
W_accepted = refl

-- a sum of two knot differences is infinite, so the weights are 0 and the point (0, 0)
W_point : at1 plain (orders_of plain (span_of W.knots W.n) W nil 0) 0 ≡ nil
unfolding orders_of order_at placed inside_of weighted basis_of derivatives_of scaled functions_of function_of values_of triangle_of sides_turn column_of column_turn turns span_of seek_from add sub mul div lt le eq of_bits
W_point = refl

W_outside : InHull W.xs 3 nil → ⊥
unfolding lowest in_units
W_outside h = le→leb _ _ h.below

abbrev quarter : Float
quarter = fin false 1 (negsuc 1)

-- ---- why 2 ^ -1070: all control points at the smallest double, uniform knots, at 0.25; each product is less than half of it

abbrev least64 : Float
least64 = fin false 1 (negsuc 1073)

abbrev L : Shape Float
L = record { n = 4; xs = least64 ∷ least64 ∷ least64 ∷ least64 ∷ []; ys = least64 ∷ least64 ∷ least64 ∷ least64 ∷ []; knots = nil ∷ nil ∷ nil ∷ nil ∷ up_to 0 ∷ up_to 0 ∷ up_to 0 ∷ up_to 0 ∷ [] }

L_point : at1 plain (orders_of plain (span_of L.knots L.n) L quarter 0) 0 ≡ nil
unfolding orders_of order_at placed inside_of weighted basis_of derivatives_of scaled functions_of function_of values_of triangle_of sides_turn column_of column_turn turns span_of seek_from add sub mul div lt le eq of_bits
L_point = refl

L_outside : AtMostBy (largest_of L.xs 3) (least_of L.xs 3) nil → ⊥
unfolding lowest in_units
L_outside h = le→leb _ _ h
