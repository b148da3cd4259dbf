-- A NaN that a round meets: its point is NaN, it stays in every round that follows, and so the search ends in 15. Assumes nothing.
use mathlib.Core.Path.{◌≡◌, refl, sym, ap, ◌∙◌}
use mathlib.Core.Bool.{Bool, true, false, not, ◌||◌, cond}
use mathlib.Core.List.{List, []}
use Prim.Native.Nat.{ℕ, zero, suc, ◌+◌, ◌-◌, ◌≤◌}
use native.Mathlib.Nat.{zero-add, suc-add}
use native.Mathlib.Omega.{arith}
use borrow.Author.Tests.{le-leb}
use lib.Ieee.{Float, nan, add, sub, mul, lt, le, is_nan}
use lib.Ieee.Scale.{finite}
use Rattle.meaning.specs.Scalar.{plain, zero64}
use Rattle.meaning.specs.Table.{at1, at2}
use Rattle.meaning.specs.Loops.{turns, spin}
use Rattle.meaning.specs.Number.{size_of, clamp_of}
use Rattle.refusal.specs.Refusals.{row, first_of, refusal}
use Rattle.outcome.specs.Outcome.{either_wild}
use Rattle.meaning.proofs.Order.{lt_nan}
use Rattle.meaning.proofs.Nans.{plus_nan, times_nan}
use Rattle.span.specs.Span.{span_of}
use Rattle.span.proofs.Spans.{span_nan}
use Rattle.basis.specs.Triangle.{column_turn, column_of, sides_turn, triangle_of}
use Rattle.basis.specs.Basis.{values_of, order_turn, function_of, functions_of, scaled_row, scale_turn, scaled, derivatives_of, basis_of}
use Rattle.plane.specs.Vector.{Vector}
use Rattle.shape.specs.Shape.{Shape}
use Rattle.evaluate.specs.Point.{weighted, placed, inside_of, order_at, orders_of}
use Rattle.point.specs.Point.{point_orders}
use Rattle.refusal.proofs.Rows.{row-applies, row-passes}
use Rattle.closest.specs.Search.{order_in, still, from, to, slope_at, round_of, unfinished, samples_fine, nearest_sample, newton_from, closest_of, search_rules}
use Rattle.closest.specs.Search.{Progress}

-- ---- the point

-- the last of the four basis values is t less a knot, times something
last-value : (u : List Float) (i : ℕ) → at2 plain (derivatives_of plain u i nan 2) 0 3 ≡ nan
unfolding derivatives_of triangle_of values_of functions_of function_of order_turn scaled scaled_row scale_turn turns column_of column_turn sides_turn sub add mul
last-value u i = refl

weighted_nan : (cs : List Float) (i : ℕ) (row : List Float) → at1 plain row 3 ≡ nan → weighted plain cs i row ≡ nan
unfolding weighted turns
weighted_nan cs i row e = rw (e, times_nan (at1 plain cs (i - 3 + 3))) (plus_nan _)

module _ (c : Shape Float) (four : 4 ≤ c.n) (room : c.n ≤ 66) where
  abbrev span : ℕ
  span = span_of c.knots c.n nan

  inside_nan : inside_of plain (span_of c.knots c.n) c nan 2 0 ≡ record { x = nan; y = nan }
  unfolding inside_of basis_of
  inside_nan =
      let e = span_nan c.knots c.n four in
      let v = last-value c.knots span in
      rw (le-leb 3 span (omega (arith, e)), le-leb span 65 (omega (arith, e)), weighted_nan c.xs span _ v, weighted_nan c.ys span _ v)

  pub nan_point : order_in (point_orders c nan 2) 0 ≡ record { x = nan; y = nan }
  unfolding orders_of order_at placed turns lt
  nan_point = rw (le-leb 4 c.n four, le-leb c.n 66 room, lt_nan (at1 plain c.knots (c.n + 3))) inside_nan

-- ---- the rounds

clamp_nan : (lo hi : Float) → clamp_of nan lo hi ≡ nan
unfolding clamp_of
clamp_nan lo hi = rw (lt_nan hi)

-- so many turns, and so many more
module _ {S : Type 0} (go : S → Bool) (f : S → S) where
  stopped : (n : ℕ) (s : S) → go s ≡ false → spin go f n s ≡ s
  unfolding spin
  stopped zero s e = refl
  stopped (suc n) s e = rw e

  spin_more : (k m : ℕ) (s : S) → spin go f (k + m) s ≡ spin go f m (spin go f k s)
  unfolding spin
  spin_more zero m s = ap (λ (n : ℕ). spin go f n s) (zero-add m)
  spin_more (suc k) m s = ap (λ (n : ℕ). spin go f n s) (suc-add k m) ∙ by (go s) refl (spin_more k m (f s))
    where
      by : (b : Bool) → go s ≡ b → spin go f (k + m) (f s) ≡ spin go f m (spin go f k (f s))
          → cond b (spin go f (k + m) (f s)) s ≡ spin go f m (cond b (spin go f k (f s)) s)
      by true e more = more
      by false e more = sym (stopped m s e)

module _ (c : Shape Float) (p : Vector Float) where
  abbrev rounds : ℕ → Progress → Progress
  rounds n s = spin unfinished (round_of c p) n s

  round_nan : (s : Progress) → s.t ≡ nan → (round_of c p s).t ≡ nan
  unfolding round_of sub add
  round_nan s e = by (le (slope_at c p s.t).df zero64)
    where
      next : Float
      next = clamp_of (plain.minus s.t (plain.over (slope_at c p s.t).f (slope_at c p s.t).df)) (from c) (to c)

      by : (b : Bool) → (cond {A = Progress} b (record { t = s.t; left = 0 }) (record { t = next; left = cond (lt (size_of (plain.minus next s.t)) still) 0 (s.left - 1) })).t ≡ nan
      by true = e
      by false = rw e (clamp_nan (from c) (to c))

  rounds_nan : (n : ℕ) (s : Progress) → s.t ≡ nan → (rounds n s).t ≡ nan
  unfolding spin
  rounds_nan zero s e = e
  rounds_nan (suc n) s e = by (unfinished s) (rounds_nan n (round_of c p s) (round_nan s e))
    where
      by : (b : Bool) → (rounds n (round_of c p s)).t ≡ nan → (cond b (rounds n (round_of c p s)) s).t ≡ nan
      by true more = more
      by false more = e

  abbrev start : Progress
  start = record { t = nearest_sample c p; left = 30 }

  -- a NaN after k rounds
  module _ (k : ℕ) (few : k ≤ 30) (met : (rounds k start).t ≡ nan) where
    last_nan : is_nan (closest_of c p) ≡ true
    unfolding closest_of newton_from is_nan
    last_nan =
        let n : k + (30 - k) ≡ 30 = omega arith in
        ap is_nan
        (ap (λ (i : ℕ). (rounds i start).t) (sym n) ∙ ap (λ (s : Progress). s.t) (spin_more unfinished (round_of c p) k (30 - k) start) ∙ rounds_nan (30 - k) (rounds k start) met)

    pub nan_ends_in_15 : finite p.x ≡ true → finite p.y ≡ true → first_of (search_rules c p []) ≡ refusal 15
    nan_ends_in_15 x y =
        row-passes (row 11 (either_wild p.x p.y)) _ (rw (x, y))
        ∙ row-applies (row 15 (not (samples_fine c p) || is_nan (closest_of c p))) [] (rw last_nan (or_true (not (samples_fine c p))))
      where
        or_true : (b : Bool) → b || true ≡ true
        or_true true = refl
        or_true false = refl
