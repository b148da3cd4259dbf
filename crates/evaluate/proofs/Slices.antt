-- A curve in slices: its knots and control points, read in place, are those of its shape. Assumes nothing.
use mathlib.Core.Path.{◌≡◌, sym, ap, ◌∙◌}
use mathlib.Core.List.{List}
use Prim.Native.Nat.{ℕ, ◌+◌, ◌-◌, ◌*◌, ◌≤◌, ◌<◌}
use native.Mathlib.Omega.{arith}
use borrow.Author.Tests.{eq-eqb, ne_eqb}
use lib.ListN.{length, take, replicate, length-take}
use lib.Ieee.{Float}
use Rattle.meaning.specs.Scalar.{plain, zero64}
use Rattle.meaning.specs.Table.{at1}
use Rattle.basis.specs.Basis.{window}
use Rattle.span.specs.Counting.{counted_of}
use Rattle.span.proofs.Spans.{same_counted}
use Rattle.shape.specs.Shape.{Shape, points_in, slice_shape}
use Rattle.shape.proofs.Handles.{given_front, given-at}
use Rattle.evaluate.specs.Point.{inside_of, orders_of}
use Rattle.evaluate.specs.Piece.{found, four_of, around, on_span, on_window, Counted, slice_orders}
use Rattle.evaluate.proofs.Pieces.{around_basis, window_in_room, weighted_others, on_span_is}

-- ---- by the number of knots

module _ (coords ks : List Float) (t : Float) (nd : ℕ) where
  pub right-count : length ks ≡ points_in coords + 4 → orders_of plain (found (slice_shape coords ks)) (slice_shape coords ks) t nd ≡ slice_orders coords ks t nd
  unfolding slice_orders
  right-count l = rw (eq-eqb (length ks) (points_in coords + 4) l)

  pub wrong_count_lem : (length ks ≡ points_in coords + 4 → ⊥) → replicate 10 zero64 ≡ slice_orders coords ks t nd
  unfolding slice_orders
  wrong_count_lem l = rw (ne_eqb (length ks) (points_in coords + 4) l)

-- ---- of a curve

module _ (coords ks : List Float) (w : Counted coords ks) where
  abbrev c : Shape Float
  c = slice_shape coords ks

  knots_front : take (c.n + 4) c.knots ≡ ks
  knots_front = given_front ks c.n w.long w.room

  knot-at : (i : ℕ) → i < c.n + 4 → at1 plain c.knots i ≡ at1 plain ks i
  knot-at i h = given-at ks c.n w.long w.room i h

  knots_reach : c.n < length c.knots
  knots_reach = let l = ap length knots_front in let m = length-take (c.n + 4) c.knots in omega (arith, w.long)

  span-found : (t : Float) → counted_of ks c.n t ≡ found c t
  span-found t = same_counted ks c.knots c.n t (λ i h. sym (knot-at i (omega arith))) w.four w.room (omega (arith, w.long)) knots_reach

  -- what is read of span i: the knots around it, in a room in which it is the third, x from a on, y from b on
  pub slices_on_span : (t : Float) (nd i a b : ℕ) → i ≡ counted_of ks c.n t → 3 ≤ i → i < c.n → a ≡ 2 * (i - 3) → b ≡ 2 * (i - 3) + 1
      → on_span plain (around ks i) 3 (four_of plain coords a 2) (four_of plain coords b 2) t nd ≡ inside_of plain (found c) c t nd
  slices_on_span t nd i a b e g h p q =
      let r = w.room in
      on_span_is plain (found c) c t nd (around ks i) 3 i (four_of plain coords a 2) (four_of plain coords b 2) (e ∙ span-found t)
      (around_basis ks c.knots i t nd g (omega arith) (λ k l. sym (knot-at (i - 2 + k) (omega arith))))
      (weighted_others coords c.n 0 a i r g h (omega arith)) (weighted_others coords c.n 1 b i r g h q)

  -- the same from the six knots alone, as the code reads them
  pub slices_read : (t : Float) (nd i a b : ℕ) → i ≡ counted_of ks c.n t → 3 ≤ i → i < c.n → a ≡ 2 * (i - 3) → b ≡ 2 * (i - 3) + 1
      → on_window plain (window plain ks i) (four_of plain coords a 2) (four_of plain coords b 2) t nd ≡ inside_of plain (found c) c t nd
  slices_read t nd i a b e g h p q =
      window_in_room ks i (four_of plain coords a 2) (four_of plain coords b 2) t nd ∙ slices_on_span t nd i a b e g h p q

  -- the ends of its domain
  pub first_knot : at1 plain ks 0 ≡ at1 plain c.knots 0
  first_knot = sym (knot-at 0 (omega arith))

  pub last_knot : at1 plain ks (c.n + 3) ≡ at1 plain c.knots (c.n + 3)
  last_knot = sym (knot-at (c.n + 3) (omega arith))
