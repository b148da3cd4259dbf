-- The point and the residuals of whatever curve a piece was read of. Assumes nothing.
use mathlib.Core.Path.{◌≡◌, sym, ap, ◌∙◌}
use mathlib.Core.Bool.{true, false}
use mathlib.Core.List.{List, [], ◌∷◌, ◌++◌}
use Prim.Native.Nat.{ℕ, ◌+◌, ◌<◌}
use native.Mathlib.Omega.{arith}
use lib.ListN.{length, get_or, length-append}
use lib.Seq.{get_or-append-add}
use lib.Ieee.{Float, nan, lt}
use Rattle.meaning.specs.Scalar.{plain}
use Rattle.meaning.specs.Number.{clamp_of}
use Rattle.meaning.specs.Table.{at1}
use Rattle.partials.specs.declared.Dv.{Dv}
use Rattle.partials.specs.Dual.{cst_dv, var_dv, overshoot_dv, dual}
use Rattle.plane.specs.Vector.{Vector, sub_v}
use Rattle.shape.specs.Shape.{Shape}
use Rattle.evaluate.specs.Point.{straight_on, beyond_of, order_at}
use Rattle.evaluate.specs.declared.Piece as Code
use Rattle.evaluate.specs.Piece.{on_piece}
use Rattle.evaluate.proofs.Pieces.{on_window_is, from_window_is}
use Rattle.residual.specs.declared.Piece.{Piece}
use Rattle.residual.specs.Curve.{span_in, first_knot, last_knot, three_of, held_at}
use Rattle.residual.specs.Piece.{Read}

-- ---- a parameter clamped to the domain

module _ (t lo hi : Float) where
  clamp_below : lt t lo ≡ true → lt hi lo ≡ false → clamp_of t lo hi ≡ lo
  unfolding clamp_of
  clamp_below e f = rw (e, f)

  clamp_above : lt t lo ≡ false → lt hi t ≡ true → clamp_of t lo hi ≡ hi
  unfolding clamp_of
  clamp_above e f = rw (e, f)

  clamp_inside : lt t lo ≡ false → lt hi t ≡ false → clamp_of t lo hi ≡ t
  unfolding clamp_of
  clamp_inside e f = rw (e, f)

-- ---- the point

module _ (c : Shape Dv) (p : Piece) (t : Dv) (r : Read c t.v p) where
  -- past the end x
  from_end : (x : Float) → clamp_of t.v p.lo p.hi ≡ x
      → straight_on dual (on_piece dual p.span (cst_dv x) 1) (cst_dv x) t 0 ≡ beyond_of dual (span_in c) c (cst_dv x) t 0
  unfolding cst_dv
  from_end x e =
      let s = r.span in
      ap (λ (l : Code.Piece Dv). straight_on dual (on_piece dual l (cst_dv x) 1) (cst_dv x) t 0) s.numbers
      ∙ ap (λ (f : ℕ → Vector Dv). f 0) (from_window_is dual (span_in c) c (cst_dv x) t _ (ap (span_in c) e) s.low s.high)

  pub point_before : lt t.v p.lo ≡ true → straight_on dual (on_piece dual p.span (cst_dv p.lo) 1) (cst_dv p.lo) t 0 ≡ order_at dual (span_in c) c t 0 0
  unfolding order_at cst_dv
  point_before e = from_end p.lo (clamp_below _ _ _ e r.apart) ∙ sym (rw (r.first, e))

  pub point_past : lt t.v p.lo ≡ false → lt p.hi t.v ≡ true
      → straight_on dual (on_piece dual p.span (cst_dv p.hi) 1) (cst_dv p.hi) t 0 ≡ order_at dual (span_in c) c t 0 0
  unfolding order_at cst_dv
  point_past e f = from_end p.hi (clamp_above _ _ _ e f) ∙ sym (rw (r.first, e, r.last, f))

  pub point_inside : lt t.v p.lo ≡ false → lt p.hi t.v ≡ false → on_piece dual p.span t 0 0 ≡ order_at dual (span_in c) c t 0 0
  unfolding order_at cst_dv
  point_inside e f =
      let s = r.span in
      ap (λ (l : Code.Piece Dv). on_piece dual l t 0 0) s.numbers
      ∙ ap (λ (g : ℕ → Vector Dv). g 0) (on_window_is dual (span_in c) c t 0 _ (ap (span_in c) (clamp_inside _ _ _ e f)) s.low s.high)
      ∙ sym (rw (r.first, e, r.last, f))

  -- ---- the residuals, from the point

  pub three_are : (x y : Dv) {at d : Vector Dv} {past : Dv} → at ≡ order_at dual (span_in c) c t 0 0 → d ≡ sub_v dual (record { x = x; y = y }) at
      → past ≡ overshoot_dv t p.lo p.hi → (d.x ∷ d.y ∷ past ∷ []) ≡ three_of c (record { x = x; y = y }) t
  unfolding three_of cst_dv
  three_are x y {at} {d} {past} a b e =
      let held : Vector Dv = record { x = x; y = y } in
      let diff : d ≡ sub_v dual held (order_at dual (span_in c) c t 0 0) = b ∙ ap (sub_v dual held) a in
      let over : past ≡ overshoot_dv t (first_knot c).v (last_knot c).v = e ∙ sym (rw (r.first, r.last)) in
      λ i. (diff i).x ∷ (diff i).y ∷ over i ∷ []

-- ---- the variables after the handles

module _ (q : List Float) (px py t : Float) (h : ℕ) (e : length q ≡ h) where
  abbrev all : List Float
  all = q ++ (px ∷ py ∷ t ∷ [])

  held_below : (k : ℕ) → k < 3 → h + k < length all
  held_below k l = omega (arith, length-append q (px ∷ py ∷ t ∷ []))

  held-at : (k : ℕ) → at1 plain all (h + k) ≡ get_or (px ∷ py ∷ t ∷ []) k nan
  held-at k = ap (λ (n : ℕ). at1 plain all (n + k)) (sym e) ∙ get_or-append-add q (px ∷ py ∷ t ∷ []) k nan

  -- what is a variable of every list that has its number there is one of these
  pub held_is : (k i : ℕ) (x : Float) (v : Dv) → k < 3 → i ≡ h + k → get_or (px ∷ py ∷ t ∷ []) k nan ≡ x
      → ((xs : List Float) → i < length xs → at1 plain xs i ≡ x → v ≡ var_dv xs i) → v ≡ held_at q px py t k
  held_is k i x v l g f w =
      w all (rw g (held_below k l)) (rw g (held-at k ∙ f)) ∙ ap (var_dv all) (g ∙ ap (λ (n : ℕ). n + k) (sym e))
