-- What is read of a curve whose control points are the handles: its knots are constants, its coordinates every second variable. Assumes nothing.
use mathlib.Core.Path.{◌≡◌, refl, sym, ap, ◌∙◌}
use mathlib.Core.Bool.{Bool, true, false}
use mathlib.Core.List.{List, [], ◌∷◌, map}
use Prim.Native.Nat.{ℕ, zero, suc, ◌+◌, ◌-◌, ◌*◌, ◌≤◌, ◌<◌}
use native.Mathlib.Nat.{not-suc-le-zero, le_of_suc-le-suc}
use native.Mathlib.Omega.{arith}
use lib.ListN.{length, get_or, take, length-take, get_or-map}
use lib.Ieee.{Float, nan}
use Rattle.meaning.specs.Scalar.{plain}
use Rattle.meaning.specs.Number.{clamp_of}
use Rattle.meaning.specs.Table.{at1}
use Rattle.meaning.specs.Search.{listed}
use Rattle.meaning.proofs.Filling.{nth_listed}
use Rattle.meaning.proofs.Order.{le_not_lt}
use Rattle.partials.specs.declared.Dv.{Dv}
use Rattle.partials.specs.Dual.{cst_dv, dual}
use Rattle.refusal.proofs.Rows.{Passed}
use Rattle.knots.specs.declared.Form.TheVariants.{Control}
use Rattle.knots.specs.Rules.{NotFalling}
use Rattle.knots.proofs.Accepted.{Accepted, accepted}
use Rattle.knots.proofs.Sorted.{front, ordered}
use Rattle.uniform.proofs.Uniforms.{uniform_passes}
use Rattle.span.specs.Span.{span_of, IsSpan}
use Rattle.basis.specs.Basis.{window}
use Rattle.shape.specs.Shape.{Shape, points_in}
use Rattle.shape.specs.Rules.{handle_rules}
use Rattle.shape.proofs.Handles.{slices_trusted}
use Rattle.evaluate.specs.Piece.{four_of}
use Rattle.rooms.specs.Filled.{stored_knots}
use Rattle.rooms.proofs.Roomy.{room_of_lem}
use Rattle.fit_partials.specs.Variables.{variables_of}
use Rattle.residual.specs.declared.Piece.{Piece}
use Rattle.residual.specs.Curve.{control_shape, span_in}
use Rattle.residual.specs.Piece.{ReadAt, Read}

-- within a list the default does not matter
inside : (l : List Dv) (i : ℕ) (d e : Dv) → i < length l → get_or l i d ≡ get_or l i e
inside [] i d e h = absurd (not-suc-le-zero h)
inside (x ∷ l) zero d e h = refl
inside (x ∷ l) (suc i) d e h = inside l i d e (le_of_suc-le-suc h)

constants_long : (us : List Float) → length (map cst_dv us) ≡ length us
constants_long [] = refl
constants_long (u ∷ us) = ap suc (constants_long us)

constants_values : (us : List Float) → map dual.val (map cst_dv us) ≡ us
unfolding cst_dv
constants_values [] = refl
constants_values (u ∷ us) = ap (λ (l : List Float). u ∷ l) (constants_values us)

module _ (q : List Float) (given : Bool) (ks : List Float) (passed : Passed (handle_rules Control q given ks)) where
  abbrev n : ℕ
  n = points_in q

  abbrev us : List Float
  us = stored_knots n given ks

  abbrev c : Shape Dv
  c = control_shape q given ks

  pub room : (4 ≤ n) × (n ≤ 66)
  room = room_of_lem q given ks passed

  trusted : Accepted (take (n + 4) us) n
  trusted = by given passed
    where
      by : (given : Bool) → Passed (handle_rules Control q given ks) → Accepted (take (n + 4) (stored_knots n given ks)) n
      by true h = slices_trusted q ks h
      by false h = accepted _ n (uniform_passes n room.0 room.1)

  up : NotFalling us n
  up = front us n trusted.sound.rises

  reach : n + 4 ≤ length us
  reach = omega (arith, trusted.sound.long, length-take (n + 4) us)

  knot-at : (i : ℕ) → i < n + 4 → cst_dv (at1 plain us i) ≡ at1 dual c.knots i
  unfolding control_shape
  knot-at i h = sym (inside (map cst_dv us) i dual.off (cst_dv nan) (omega (arith, constants_long us, reach)) ∙ get_or-map cst_dv us i nan)

  span_in_lem : (t : Float) → span_in c t ≡ span_of us n t
  unfolding control_shape
  span_in_lem t = ap (λ (l : List Float). span_of l n t) (constants_values us)

  -- ---- span i

  module _ (i : ℕ) (low : 3 ≤ i) (high : i < n) where
    six : listed 0 6 (λ j. cst_dv (at1 plain us (i - 2 + j))) ≡ window dual c.knots i
    unfolding listed
    six =
        let k : (j : ℕ) → j < 6 → cst_dv (at1 plain us (i - 2 + j)) ≡ at1 dual c.knots (i - 2 + j) = λ j h. knot-at (i - 2 + j) (omega arith) in
        λ h. k 0 (omega arith) h ∷ k 1 (omega arith) h ∷ k 2 (omega arith) h ∷ k 3 (omega arith) h ∷ k 4 (omega arith) h ∷ k 5 (omega arith) h ∷ []

    -- every second variable from `at` on, where xs has those from `off` on
    four : (xs : List Dv) (off at : ℕ) → ((k : ℕ) → k < n → at1 dual xs k ≡ at1 dual (variables_of q) (2 * k + off)) → at ≡ 2 * (i - 3) + off
        → four_of dual (variables_of q) at 2 ≡ four_of dual xs (i - 3) 1
    four xs off at f e =
        let v : (a b : ℕ) → b < n → a ≡ 2 * b + off → at1 dual (variables_of q) a ≡ at1 dual xs b =
        λ a b h g. ap (at1 dual (variables_of q)) g ∙ sym (f b h) in
        let p = v at (i - 3) (omega arith) e in
        let s = v (at + 2) (i - 3 + 1) (omega arith) (omega arith) in
        let t = v (at + 2 * 2) (i - 3 + 2 * 1) (omega arith) (omega arith) in
        let u = v (at + 3 * 2) (i - 3 + 3 * 1) (omega arith) (omega arith) in
        λ h. p h ∷ s h ∷ t h ∷ u h ∷ []

    xs-at : (k : ℕ) → k < n → at1 dual c.xs k ≡ at1 dual (variables_of q) (2 * k + 0)
    unfolding control_shape
    xs-at k h = nth_listed n k _ dual.off h ∙ ap (at1 dual (variables_of q)) (omega arith)

    ys-at : (k : ℕ) → k < n → at1 dual c.ys k ≡ at1 dual (variables_of q) (2 * k + 1)
    unfolding control_shape
    ys-at k h = nth_listed n k _ dual.off h

    read_at_lem : (p : Piece) → p.span.knots ≡ listed 0 6 (λ j. cst_dv (at1 plain us (i - 2 + j)))
        → p.span.xs ≡ four_of dual (variables_of q) (2 * (i - 3)) 2 → p.span.ys ≡ four_of dual (variables_of q) (2 * (i - 3) + 1) 2 → ReadAt c i p
    read_at_lem p e x y =
        let u = e ∙ six in
        let v = x ∙ four c.xs 0 (2 * (i - 3)) xs-at (omega arith) in
        let w = y ∙ four c.ys 1 (2 * (i - 3) + 1) ys-at refl in
        record { low = low; high = omega (arith, room.1); numbers = λ h. record { knots = u h; xs = v h; ys = w h } }

  -- ---- what the code reads, of knots u that are these

  module _ {u : List Float} (knots_are : u ≡ us) where
    pub control-read : (t : Float) (i : ℕ) (p : Piece) → p.lo ≡ at1 plain u 0 → p.hi ≡ at1 plain u (n + 3)
        → IsSpan u n (clamp_of t p.lo p.hi) i → 3 ≤ i → i < n
        → p.span.knots ≡ listed 0 6 (λ j. cst_dv (at1 plain u (i - 2 + j)))
        → p.span.xs ≡ four_of dual (variables_of q) (2 * (i - 3)) 2 → p.span.ys ≡ four_of dual (variables_of q) (2 * (i - 3) + 1) 2 → Read c t p
    unfolding control_shape
    control-read t i p l h s g k w x y =
        let lo : p.lo ≡ at1 plain us 0 = l ∙ ap (λ (l : List Float). at1 plain l 0) knots_are in
        let hi : p.hi ≡ at1 plain us (n + 3) = h ∙ ap (λ (l : List Float). at1 plain l (n + 3)) knots_are in
        let is : i ≡ span_of us n (clamp_of t p.lo p.hi) = (rw knots_are at s) room.0 room.1 up in
        let read = read_at_lem i g k p (w ∙ ap (λ (l : List Float). listed 0 6 (λ j. cst_dv (at1 plain l (i - 2 + j)))) knots_are) x y in
        record {
          first = sym (knot-at 0 (omega arith)) ∙ ap cst_dv (sym lo);
          last = sym (knot-at (n + 3) (omega arith)) ∙ ap cst_dv (sym hi);
          apart = rw (lo, hi) (le_not_lt _ _ (ordered us n up 0 (n + 3) (omega arith) (omega arith)));
          span = rw (span_in_lem (clamp_of t p.lo p.hi), sym is) read;
        }
