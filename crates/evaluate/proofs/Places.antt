-- Where a parameter lies, and what is answered there. Assumes nothing.
use mathlib.Core.Path.{◌≡◌, refl, ap, ◌∙◌}
use mathlib.Core.Bool.{true, false, ◌&&◌}
use Prim.Native.Nat.{ℕ, zero, suc, ◌+◌, ◌≤◌}
use Rattle.std.specs.Prelude.{Option, Some, None}
use Rattle.std.specs.Option.{unwrap_or}
use borrow.Author.Tests.{le-leb, leb-true}
use lib.Dec.{leb}
use lib.ListN.{replicate}
use lib.Ieee.{Float, lt}
use Rattle.meaning.specs.Scalar.{Ops, plain, zero64}
use Rattle.meaning.specs.Table.{at1}
use Rattle.meaning.proofs.Tests.{by_two, and_left, and_right}
use Rattle.plane.specs.Vector.{Vector, add_v, scale_v}
use Rattle.shape.specs.Shape.{Shape}
use Rattle.evaluate.specs.declared.Piece.{Piece}
use Rattle.evaluate.specs.Point.{placed, straight_on, inside_of, beyond_of, order_at, orders_of}
use Rattle.evaluate.specs.Straight.{straight_of, end_past}
use Rattle.evaluate.specs.Piece.{on_piece, by_end}

-- straight on over any scalar, from the two orders at e
pub straight_by : {A : Type 0} (o : Ops A) (f : ℕ → Vector A) (e t : A) {dt : A} {p d s r : Vector A}
    → p ≡ f 0 → d ≡ f 1 → dt ≡ o.minus t e → s ≡ scale_v o d dt → r ≡ add_v o p s → r ≡ straight_on o f e t 0
straight_by o f e t hp hd ht hs hr = hr ∙ (λ i. add_v o (hp i) ((hs ∙ (λ j. scale_v o (hd j) (ht j))) i))

-- and all orders, from the point and the tangent there
pub straight_on_is : (f : ℕ → Vector Float) (e t : Float) (m : ℕ) {p d s r : Vector Float}
    → p ≡ f 0 → d ≡ f 1 → s ≡ scale_v plain d (plain.minus t e) → r ≡ add_v plain p s
    → placed plain m (straight_of r d) ≡ placed plain m (straight_on plain f e t)
unfolding straight_of
straight_on_is f e t m {p} {d} {s} {r} hp hd hs hr = ap (placed plain m) (λ i k. each k i)
  where
    each : (k : ℕ) → straight_of r d k ≡ straight_on plain f e t k
    each zero = straight_by plain f e t hp hd refl hs hr
    each (suc zero) = hd
    each (suc (suc k)) = refl

module _ {A : Type 0} (o : Ops A) (sp : Float → ℕ) (c : Shape A) (t : A) (nd : ℕ) where
  -- no such curve or order
  pub out_of_range : ((4 ≤ c.n) × (c.n ≤ 66) × (nd ≤ 4) → ⊥) → replicate 10 (o.cst zero64) ≡ orders_of o sp c t nd
  unfolding orders_of
  out_of_range h =
      by_two (leb 4 c.n && (leb c.n 66 && leb nd 4))
      (λ e.
      let r = and_right (leb 4 c.n) (leb c.n 66 && leb nd 4) e in
      absurd (h (leb-true 4 c.n (and_left (leb 4 c.n) _ e), leb-true c.n 66 (and_left (leb c.n 66) _ r), leb-true nd 4 (and_right (leb c.n 66) _ r))))
      (λ e. rw e)

  -- before the domain, past it, in it: order by order
  module _ (before : lt (o.val t) (o.val (at1 o c.knots 0)) ≡ true) (k : ℕ) where
    pub at_before : beyond_of o sp c (at1 o c.knots 0) t k ≡ order_at o sp c t nd k
    unfolding order_at
    at_before = rw before

  module _ (after : lt (o.val t) (o.val (at1 o c.knots 0)) ≡ false) (k : ℕ) where
    pub at-past : lt (o.val (at1 o c.knots (c.n + 3))) (o.val t) ≡ true → beyond_of o sp c (at1 o c.knots (c.n + 3)) t k ≡ order_at o sp c t nd k
    unfolding order_at
    at-past e = rw (after, e)

    pub at_inside : lt (o.val (at1 o c.knots (c.n + 3))) (o.val t) ≡ false → inside_of o sp c t nd k ≡ order_at o sp c t nd k
    unfolding order_at
    at_inside e = rw (after, e)

  -- and in the room
  module _ (g : 4 ≤ c.n) (h : c.n ≤ 66) (q : nd ≤ 4) where
    asked : {f : ℕ → Vector A} → ((k : ℕ) → f k ≡ order_at o sp c t nd k) → placed o (nd + 1) f ≡ orders_of o sp c t nd
    unfolding orders_of
    asked e = ap (placed o (nd + 1)) (λ i k. e k i) ∙ simp (le-leb _ _ g, le-leb _ _ h, le-leb _ _ q)

    pub before-domain : lt (o.val t) (o.val (at1 o c.knots 0)) ≡ true
        → placed o (nd + 1) (beyond_of o sp c (at1 o c.knots 0) t) ≡ orders_of o sp c t nd
    before-domain e = asked (at_before e)

    pub past-domain : lt (o.val t) (o.val (at1 o c.knots 0)) ≡ false → lt (o.val (at1 o c.knots (c.n + 3))) (o.val t) ≡ true
        → placed o (nd + 1) (beyond_of o sp c (at1 o c.knots (c.n + 3)) t) ≡ orders_of o sp c t nd
    past-domain e f = asked (λ k. at-past e k f)

    pub in_domain : lt (o.val t) (o.val (at1 o c.knots 0)) ≡ false → lt (o.val (at1 o c.knots (c.n + 3))) (o.val t) ≡ false
        → placed o (nd + 1) (inside_of o sp c t nd) ≡ orders_of o sp c t nd
    in_domain e f = asked (λ k. at_inside e k f)

-- two ways to find a span that agree give the same answers
pub same_span : {A : Type 0} (o : Ops A) {sp sq : Float → ℕ} (c : Shape A) (t : A) (nd : ℕ) → ((x : Float) → sp x ≡ sq x) → orders_of o sp c t nd ≡ orders_of o sq c t nd
same_span o c t nd h = ap (λ (s : Float → ℕ). orders_of o s c t nd) (λ i x. h x i)

-- ---- by the end past which t lies, if it lies past one

-- what gives the same orders where they are asked for
same_by_end : (end : Option Float) (f g : Float → ℕ → ℕ → Vector Float) (t : Float) (nd : ℕ) → ((m : ℕ) → f (unwrap_or end t) m ≡ g (unwrap_or end t) m)
    → by_end plain end f t nd ≡ by_end plain end g t nd
same_by_end None f g t nd h = h nd
same_by_end (Some e) f g t nd h = λ i k. straight_on plain (h 1 i) e t k

module _ (sp : Float → ℕ) (c : Shape Float) (t : Float) (nd : ℕ) (w : (4 ≤ c.n) × (c.n ≤ 66) × (nd ≤ 4)) where
  abbrev low : Float
  low = at1 plain c.knots 0

  abbrev high : Float
  high = at1 plain c.knots (c.n + 3)

  -- the curve's own orders, by the end of its domain past which t lies
  by_place : placed plain (nd + 1) (by_end plain (end_past low high t) (inside_of plain sp c) t nd) ≡ orders_of plain sp c t nd
  unfolding beyond_of
  by_place =
      by_two (lt t low) (λ e. rw e (before-domain plain sp c t nd w.0 w.1 w.2 e))
      (λ e. by_two (lt high t) (λ f. rw (e, f) (past-domain plain sp c t nd w.0 w.1 w.2 e f))
      (λ f. rw (e, f) (in_domain plain sp c t nd w.0 w.1 w.2 e f)))

  -- The code's answer, from a piece that reads as the curve does where it is looked for.
  pub answered : {lo hi : Float} {end : Option Float} (p : Piece Float) → lo ≡ at1 plain c.knots 0 → hi ≡ at1 plain c.knots (c.n + 3)
      → end ≡ end_past lo hi t → ((m : ℕ) → on_piece plain p (unwrap_or end t) m ≡ inside_of plain sp c (unwrap_or end t) m)
      → placed plain (nd + 1) (by_end plain end (on_piece plain p) t nd) ≡ orders_of plain sp c t nd
  answered {end = end} p first last e reads =
      let f : Float → ℕ → ℕ → Vector Float = inside_of plain sp c in
      ap (placed plain (nd + 1))
      (same_by_end end (on_piece plain p) f t nd reads ∙ ap (λ (x : Option Float). by_end plain x f t nd) (e ∙ (λ i. end_past (first i) (last i) t)))
      ∙ by_place
