-- What is read of a curve through the handles. Assumes nothing.
use mathlib.Core.Path.{◌≡◌, refl, sym, ap, ◌∙◌}
use mathlib.Core.Bool.{true, false}
use mathlib.Core.List.{List, map}
use Prim.Native.Nat.{ℕ, ◌+◌, ◌-◌, ◌*◌, ◌≤◌}
use native.Mathlib.Omega.{arith}
use borrow.Author.Tests.{le-leb, lt-ltb, le-ltb}
use lib.ListN.{length}
use lib.Ieee.{Float, lt, of_bits}
use Rattle.meaning.specs.Scalar.{zero64, one64}
use Rattle.meaning.specs.Number.{clamp_of}
use Rattle.meaning.specs.Table.{at1}
use Rattle.meaning.specs.Search.{listed}
use Rattle.std.specs.Prelude.{Option, Some, None}
use Rattle.meaning.proofs.Tests.{by_two}
use Rattle.meaning.proofs.Filling.{nth_listed, map_listed}
use Rattle.partials.specs.declared.Dv.{Dv}
use Rattle.partials.specs.Dual.{cst_dv, dual}
use Rattle.knots.specs.declared.Form.TheVariants.{Fit}
use Rattle.basis.specs.Basis.{window}
use Rattle.shape.specs.Shape.{points_in}
use Rattle.span.specs.Span.{span_of}
use Rattle.evaluate.specs.Piece.{four_of}
use Rattle.fit.specs.Parameters.{knot_at, knots_by, fit_parameter}
use Rattle.fit.specs.Fit.{controls_for, knots_through, span_through}
use Rattle.fit_partials.specs.declared.Piece as fit-code
use Rattle.fit_partials.specs.Variables.{variables_of}
use Rattle.fit_partials.specs.Through as fit
use Rattle.fit_partials.specs.View.{view}
use Rattle.fit_partials.proofs.PlainValues.{knot-value}
use Rattle.fit_partials.proofs.Through.{span_in_lem}
use Rattle.residual.specs.declared.Piece.{Piece}
use Rattle.residual.specs.Curve.{fit_shape, span_in}
use Rattle.residual.specs.Residual.{cells_for, cleared}
use Rattle.residual.specs.Piece.{ReadAt, Read, ReadyFit, Judged}

module _ (q : List Float) (c : ℕ) (work : List Float) (counts : List ℕ) (ready : ReadyFit q c work counts) where
  abbrev n : ℕ
  n = points_in q

  short : length q ≤ 27
  short = omega (arith, ready.wide, ready.narrow)

  able : fit.able (length q) c (length work) (length counts) ≡ true
  able =
      rw (
        le-leb 2 n ready.two,
        le-leb n 12 ready.few,
        le-leb c 27 ready.narrow,
        le-leb (length q) c ready.wide,
        le-leb (cells_for Fit q) (length counts) ready.bytes,
        le-leb (cells_for Fit q * (c + 1)) (length work) ready.doubles,
      )

  -- ---- the knots

  abbrev knot_of : ℕ → Dv
  knot_of j = knot_at dual (fit_parameter dual (variables_of q) n) n j

  knots-values : map dual.val (fit.knots_with q) ≡ knots_through q
  unfolding knots_by
  knots-values = map_listed dual.val 0 70 knot_of ∙ ap (listed 0 70) (λ i j. knot-value q n j short i)

  span_is : (t : Float) → span_in (fit_shape q) t ≡ span_through q t
  unfolding fit_shape
  span_is t = ap (λ (l : List Float). span_of l (controls_for q) t) knots-values

  first-knot : at1 dual (fit.knots_with q) 0 ≡ cst_dv zero64
  unfolding knots_by knot_at
  first-knot = nth_listed 70 0 knot_of dual.off (omega arith)

  last-knot : at1 dual (fit.knots_with q) (controls_for q + 3) ≡ cst_dv one64
  unfolding knots_by knot_at
  last-knot =
      nth_listed 70 (n + 2 + 3) knot_of dual.off (omega (arith, ready.few))
      ∙ rw (le-ltb (n + 2 + 3) 4 (omega arith), le-ltb (n + 2 + 3) (n + 2) (omega arith), lt-ltb (n + 2 + 3) (n + 6) (omega arith))

  -- ---- what is read

  -- a piece of a curve from 0 to 1
  abbrev unit : List Dv → List Dv → List Dv → Piece
  unit ks xs ys = record { lo = zero64; hi = one64; span = record { knots = ks; xs = xs; ys = ys } }

  fit_read : (t : Float) (ks xs ys : List Dv) → fit.fine_with q ≡ true
      → fit.piece_through q (clamp_of t zero64 one64) ≡ record { knots = ks; xs = xs; ys = ys; fine = true } → Read (fit_shape q) t (unit ks xs ys)
  unfolding fit_shape fit.piece_through
  fit_read t ks xs ys f e =
      let i = span_through q (clamp_of t zero64 one64) in
      let s = fit.solution_with q in
      let is : fit.piece_through q (clamp_of t zero64 one64)
      ≡ record { knots = window dual (fit.knots_with q) i; xs = four_of dual s.xs (i - 3) 1; ys = four_of dual s.ys (i - 3) 1; fine = true } = rw f in
      let g = sym e ∙ is in
      let at = span_in_lem (knots_through q) (controls_for q) (clamp_of t zero64 one64) (omega (arith, ready.two)) in
      let read : ReadAt (fit_shape q) i (unit ks xs ys) =
      record {
        low = at.0;
        high = omega (arith, at.1, ready.few);
        numbers = λ h. record { knots = (g h).knots; xs = (g h).xs; ys = (g h).ys };
      } in
      record {
        first = first-knot;
        last = last-knot;
        apart = apart;
        span = rw (span_is (clamp_of t zero64 one64)) read;
      }
    where
      apart : lt one64 zero64 ≡ false
      apart = unfold lt of_bits in refl

  -- from the answer of the fit
  module _ (t x : Float) (a : Option fit-code.Piece) (e : view a ≡ fit.piece_in q c x work counts) (f : x ≡ clamp_of t zero64 one64) where
    through : view a ≡ fit.piece_through q (clamp_of t zero64 one64)
    unfolding fit.piece_in
    through = e ∙ rw able (ap (fit.piece_through q) f)

    verdict : (view a).fine ≡ fit.fine_with q
    unfolding fit.piece_through
    verdict = ap (λ (y : fit.Piece). y.fine) through ∙ by_two (fit.fine_with q) (λ h. rw h) (λ h. rw h)

    -- there is one
    pub fit_judged : (p : fit-code.Piece) → a ≡ Some p → Judged (fit.fine_with q) (fit_shape q) t (Some (unit p.knots p.xs p.ys))
    fit_judged p s =
        let fine = sym verdict ∙ ap (λ (y : Option fit-code.Piece). (view y).fine) s in
        (fine, fit_read t _ _ _ fine (sym through ∙ ap view s))

    -- there is none
    pub fit_unjudged : a ≡ None → Judged (fit.fine_with q) (fit_shape q) t None
    fit_unjudged s = sym verdict ∙ ap (λ (y : Option fit-code.Piece). (view y).fine) s

  -- the slices afterwards
  pub fit_doubles : {w : List Float} → w ≡ fit.doubles_after q c work counts → w ≡ cleared (cells_for Fit q * (c + 1)) zero64 work
  unfolding fit.doubles_after
  fit_doubles e = e ∙ rw able

  pub fit_counts : {w : List ℕ} → w ≡ fit.counts_after q c work counts → w ≡ cleared (cells_for Fit q) 0 counts
  unfolding fit.counts_after
  fit_counts e = e ∙ rw able
