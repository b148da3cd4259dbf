-- Slices that their rules let through: what is found by their count of knots, and that their numbers are doubles. Assumes nothing.
use mathlib.Core.Bool.{Bool, true, false, cond}
use mathlib.Core.List.{List}
use mathlib.Core.Path.{◌≡◌, refl, sym, ap, ◌∙◌, subst}
use Prim.Native.Nat.{ℕ, ◌+◌, ◌-◌, ◌*◌, ◌≤◌, ◌<◌, zero-le}
use native.Mathlib.Omega.{arith}
use borrow.Author.Tests.{ltb-true, ltb-false}
use lib.Dec.{T, ltb}
use lib.Ieee.{Float, nan, binary64, fits, of_bits}
use lib.ListN.{length, get_or, replicate, length-replicate, get_or-replicate}
use lib.Seq.{get_or-take, get_or-drop, paste, length-paste, drop-paste}
use Rattle.meaning.proofs.Filling.{length-listed, nth_listed}
use Rattle.meaning.specs.Scalar.{plain, zero64}
use Rattle.meaning.specs.Table.{at1}
use Rattle.refusal.proofs.Rows.{Passed}
use Rattle.knots.specs.declared.Form.TheVariants.{Control}
use Rattle.knots.proofs.Accepted.{Accepted}
use Rattle.outcome.proofs.Doors.{put_all}
use Rattle.shape.proofs.Handles.{given_front, slices_accepted}
use Rattle.shape.proofs.Sound.{other_at}
use Rattle.shape.specs.Rules.{handle_rules}
use Rattle.shape.specs.Shape.{points_in, every_other, given_knots, slice_shape}
use Rattle.polygon.specs.Polygon.{length_by}
use Rattle.polygon.specs.Stepped.{corner_in}
use Rattle.polygon.proofs.Corners.{same_length}
use Rattle.curve.specs.Record.{length_in}
use Rattle.evaluate.proofs.Slices.{right-count}
use Rattle.evaluate.specs.Piece.{found, slice_orders}
use Rattle.evaluate.specs.Point.{orders_of}
use Rattle.hull.proofs.Given.{AllDoubles, Doubles, AllNumbers}

-- ---- in slices

abbrev Double : Float → Type 0
Double x = T (fits binary64 x)

zero_double : Double zero64
unfolding fits of_bits
zero_double = tt

-- every second number
others : (coords : List Float) (off : ℕ) → off ≤ 1 → AllDoubles coords → AllDoubles (every_other coords (points_in coords) off)
unfolding every_other
others coords off o d i h =
    let f : ℕ → Float = λ j. cond (ltb j (points_in coords)) (at1 plain coords (2 * j + off)) zero64 in
    subst Double (sym (nth_listed 66 i f nan (omega (arith, length-listed 0 66 f)))) (by (ltb i (points_in coords)) refl)
  where
    by : (b : Bool) → ltb i (points_in coords) ≡ b → Double (cond b (at1 plain coords (2 * i + off)) zero64)
    by true q = d (2 * i + off) (omega (arith, ltb-true i (points_in coords) q))
    by false q = zero_double

-- the knots in their room, and the +0.0 past them
module _ (ks : List Float) (n : ℕ) (l : length ks ≡ n + 4) (r : n ≤ 66) where
  abbrev zeros : List Float
  zeros = replicate 70 zero64

  room : length zeros ≡ 70
  room = length-replicate 70 zero64

  put : given_knots n ks ≡ paste zeros 0 ks (n + 4)
  put = put_all ks (n + 4) zeros (omega arith) (omega (arith, room))

  in_front : (i : ℕ) → i < n + 4 → at1 plain ks i ≡ at1 plain (given_knots n ks) i
  in_front i h = ap (λ (a : List Float). at1 plain a i) (sym (given_front ks n l r)) ∙ get_or-take (n + 4) (given_knots n ks) i nan h

  behind : (i : ℕ) → n + 4 ≤ i → i < 70 → zero64 ≡ at1 plain (given_knots n ks) i
  behind i g h =
      let at : 0 + (n + 4) + (i - (n + 4)) ≡ i = omega arith in
      let e : get_or zeros (0 + (n + 4) + (i - (n + 4))) nan ≡ get_or (paste zeros 0 ks (n + 4)) (0 + (n + 4) + (i - (n + 4))) nan =
      sym (get_or-drop (0 + (n + 4)) zeros (i - (n + 4)) nan)
      ∙ ap (λ (a : List Float). get_or a (i - (n + 4)) nan) (sym (drop-paste zeros 0 ks (n + 4) zero-le (omega arith)))
      ∙ get_or-drop (0 + (n + 4)) (paste zeros 0 ks (n + 4)) (i - (n + 4)) nan in
      sym (get_or-replicate 70 i zero64 nan h) ∙ (rw at at e) ∙ ap (λ (a : List Float). at1 plain a i) (sym put)

  given : AllDoubles ks → AllDoubles (given_knots n ks)
  given d i h = by (ltb i (n + 4)) refl
    where
      long : length (given_knots n ks) ≡ 70
      long = ap length put ∙ length-paste zeros 0 ks (n + 4) (omega (arith, room)) (omega arith) ∙ room

      by : (b : Bool) → ltb i (n + 4) ≡ b → Double (at1 plain (given_knots n ks) i)
      by true q = subst Double (in_front i (ltb-true i (n + 4) q)) (d i (omega (arith, ltb-true i (n + 4) q)))
      by false q = subst Double (behind i (ltb-false i (n + 4) q) (omega (arith, long))) zero_double

-- ---- of a curve

module _ (coords ks : List Float) where
  pub typed_slices : length ks ≡ points_in coords + 4 → points_in coords ≤ 66 → AllDoubles coords → AllDoubles ks → (t : Float) → T (fits binary64 t)
      → Doubles (slice_shape coords ks) t
  typed_slices l r c d t p =
      record {
        xs = others coords 0 (omega arith) c;
        ys = others coords 1 (omega arith) c;
        knots = given ks (points_in coords) l r d;
        parameter = p;
      }

  -- corners that are read in place are those of the shape
  pub turn_length : Accepted ks (points_in coords) → length_by plain (corner_in coords) (points_in coords) ≡ length_in (slice_shape coords ks)
  turn_length a =
      let n = points_in coords in
      same_length (corner_in coords) _ n
      (λ i h.
      let r = a.room in
      let d : 2 * i ≡ 2 * i + 0 = omega arith in
      let x : at1 plain coords (2 * i) ≡ at1 plain (every_other coords n 0) i = ap (at1 plain coords) d ∙ sym (other_at coords n 0 i r h) in
      let y : at1 plain coords (2 * i + 1) ≡ at1 plain (every_other coords n 1) i = sym (other_at coords n 1 i r h) in
      λ k. record { x = x k; y = y k })

-- ---- past the rules

module _ (coords ks : List Float) (p : Passed (handle_rules Control coords true ks)) where
  pub slices_found : (t : Float) (nd : ℕ) → slice_orders coords ks t nd ≡ orders_of plain (found (slice_shape coords ks)) (slice_shape coords ks) t nd
  slices_found t nd = sym (right-count coords ks t nd (slices_accepted coords ks p).sound.long)

  pub slices_doubles : AllDoubles coords → AllDoubles ks → AllNumbers (slice_shape coords ks)
  slices_doubles c d =
      let a = slices_accepted coords ks p in
      let k = typed_slices coords ks a.sound.long a.room c d zero64 zero_double in
      record { knots = k.knots; xs = k.xs; ys = k.ys }
