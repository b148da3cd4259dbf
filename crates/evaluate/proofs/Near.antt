-- The point by an index that was tried for its span: among knots that do not fall it is the first of the orders, whatever the index. Assumes nothing.
use mathlib.Core.Path.{◌≡◌, refl, sym, ap, ◌∙◌}
use mathlib.Core.Bool.{true, false}
use mathlib.Core.List.{List}
use Prim.Native.Nat.{ℕ, ◌≤◌}
use native.Mathlib.Omega.{arith}
use lib.Ieee.{Float}
use Rattle.meaning.specs.Scalar.{plain}
use Rattle.meaning.specs.Loops.{turns}
use Rattle.meaning.proofs.Tests.{by_two}
use Rattle.knots.specs.Rules.{NotFalling}
use Rattle.span.specs.Within.{within}
use Rattle.span.proofs.Spans.{counted-span}
use Rattle.span.proofs.Tried.{tried_span, not_before, not_past}
use Rattle.plane.specs.Vector.{Vector}
use Rattle.shape.specs.Shape.{Shape}
use Rattle.evaluate.specs.Point.{placed, inside_of, orders_of}
use Rattle.evaluate.specs.Piece.{found, piece_of, on_piece}
use Rattle.evaluate.specs.Near.{point_in, point_near}
use Rattle.evaluate.proofs.Pieces.{on_window_is}
use Rattle.evaluate.proofs.Places.{in_domain}

-- ---- what the code finds

module _ (c : Shape Float) (t : Float) (i : ℕ) where
  pub near_span : 3 ≤ i → i ≤ 65 → within c.knots c.n t i ≡ true → on_piece plain (piece_of plain c i) t 0 0 ≡ point_near c t i
  unfolding point_near
  near_span g q h = (λ k. on_window_is plain (λ x. i) c t 0 i refl g q k 0) ∙ rw h

  pub near_other : within c.knots c.n t i ≡ false → {room : List Float} → room ≡ orders_of plain (found c) c t 0 → point_in room ≡ point_near c t i
  unfolding point_near
  near_other h e = ap point_in e ∙ rw h

-- ---- what that is

placed_first : (f : ℕ → Vector Float) → point_in (placed plain 1 f) ≡ f 0
unfolding placed turns
placed_first f = refl

module _ (c : Shape Float) (four : 4 ≤ c.n) (room : c.n ≤ 66) (up : NotFalling c.knots c.n) (t : Float) (i : ℕ) where
  -- in span i
  inside : within c.knots c.n t i ≡ true → inside_of plain (λ x. i) c t 0 0 ≡ point_in (orders_of plain (found c) c t 0)
  unfolding inside_of
  inside h =
      let e : found c t ≡ i = counted-span c.knots c.n t four room up ∙ tried_span c.knots c.n up t i h in
      let first : inside_of plain (λ x. i) c t 0 0 ≡ inside_of plain (found c) c t 0 0 =
      ap (λ (s : ℕ). inside_of plain (λ x. s) c t 0 0) (sym e) in
      first
      ∙ sym (placed_first (inside_of plain (found c) c t 0))
      ∙ ap point_in
      (in_domain plain (found c) c t 0 four room (omega arith) (not_before c.knots c.n up t i h) (not_past c.knots c.n up t i h))

  pub near_is : point_near c t i ≡ point_in (orders_of plain (found c) c t 0)
  unfolding point_near
  near_is = by_two (within c.knots c.n t i) (λ h. rw h (inside h)) (λ h. rw h)
