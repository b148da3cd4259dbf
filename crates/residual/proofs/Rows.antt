-- The three residuals' rows in a lent slice. Assumes nothing.
use mathlib.Core.Path.{◌≡◌, refl, sym, ap, ◌∙◌}
use mathlib.Core.List.{List, [], ◌∷◌, ◌++◌, flatten, append-nil, append_assoc}
use Prim.Native.Nat.{ℕ, ◌+◌, ◌-◌, ◌*◌, ◌≤◌, ◌<◌, min}
use native.Mathlib.Omega.{arith}
use borrow.Author.Tests.{lt-ltb, le-ltb, ltb-true, ltb-false}
use borrow.Rule.Slice.PartMut.{mid_of, put_mid, same_len_mid}
use lib.Dec.{ltb}
use lib.ListN.{length, get_or, take, drop, replicate, length-append, length-drop, length-replicate, get_or-append}
use lib.Seq.{paste, ext_get_or, length-take-le, take_at}
use lib.Ieee.{Float, nan}
use Rattle.std.proofs.lemmas.Slice.{put_mid-paste}
use Rattle.std.proofs.lemmas.List.{get_or-take, get_or-append_right, get_or-replicate, drop_all}
use Rattle.meaning.specs.Scalar.{zero64}
use Rattle.meaning.proofs.Tests.{by_two}
use Rattle.meaning.specs.Search.{listed}
use Rattle.meaning.proofs.Filling.{length-listed, nth_listed}
use Rattle.meaning.proofs.Pasting.{twice}
use Rattle.partials.specs.declared.Dv.{Dv}
use Rattle.partials.specs.Dual.{part_of}
use Rattle.residual.specs.Residual.{rows_of}

-- ---- a row

-- the partials that d has, and +0.0 in place of each missing one
module _ (d : Dv) (row : List Float) (few : length row ≤ 27) (long : length d.g ≡ 27) (n : ℕ) (most : n ≡ min d.n (length row)) where
  row_parts : take n d.g ++ replicate (length row - n) zero64 ≡ listed 0 (length row) (part_of d)
  row_parts =
      let m = length row in
      let zeros = replicate (m - n) zero64 in
      let front : length (take n d.g) ≡ n = length-take-le n d.g (omega (arith, most, few, long)) in
      let whole : length (take n d.g ++ zeros) ≡ m = omega (arith, most, length-append (take n d.g) zeros, front, length-replicate (m - n) zero64) in
      ext_get_or nan (take n d.g ++ zeros) (listed 0 m (part_of d)) (whole ∙ sym (length-listed 0 m (part_of d)))
      (λ i h.
      let low : i < m = omega (arith, h, whole) in
      by_two (ltb i n)
      (λ t.
      let b = ltb-true i n t in
      get_or-append (take n d.g) zeros nan i (omega (arith, b, front)) ∙ get_or-take n d.g i nan b
      ∙ sym (rw (lt-ltb i (min d.n 27) (omega (arith, b, most, few))) refl))
      (λ t.
      let b = ltb-false i n t in
      get_or-append_right (take n d.g) zeros n i nan front b ∙ get_or-replicate (m - n) (i - n) zero64 nan (omega (arith, b, low))
      ∙ sym (rw (le-ltb i (min d.n 27) (omega (arith, b, low, most))) refl))
      ∙ sym (nth_listed m i (part_of d) nan low))

  -- as the code writes them
  pub row_written : {a z : List Float} → a ≡ take n d.g
      → (let x = a ++ drop n row in z ≡ replicate (length (mid_of n (length x - n) x)) zero64
      → put_mid n (length x - n) x z ≡ listed 0 (length row) (part_of d))
  row_written {a} {z} e f =
      let x = a ++ drop n row in
      let front : length a ≡ n = ap (λ (l : List Float). length l) e ∙ length-take-le n d.g (omega (arith, most, few, long)) in
      let whole : length x ≡ length row = omega (arith, length-append a (drop n row), front, length-drop n row, most) in
      let rest : length (mid_of n (length x - n) x) ≡ length row - n =
      length-take-le (length x - n) (drop n x) (omega (arith, length-drop n x)) ∙ omega (arith, whole) in
      let none : drop (length x - n) (drop n x) ≡ [] = drop_all (length x - n) (drop n x) (omega (arith, length-drop n x)) in
      (λ i. take_at a (drop n row) n front i ++ ((f ∙ ap (λ (k : ℕ). replicate k zero64) rest) i ++ none i))
      ∙ (λ i. e i ++ append-nil (replicate (length row - n) zero64) i)
      ∙ row_parts

-- ---- all three

three_is : (three : List Dv) (z : Dv) → length three ≡ 3 → three ≡ get_or three 0 z ∷ get_or three 1 z ∷ get_or three 2 z ∷ []
unfolding listed
three_is three z h =
    let f : ℕ → Dv = λ i. get_or three i z in
    ext_get_or z three (listed 0 3 f) (h ∙ sym (length-listed 0 3 f)) (λ i g. sym (nth_listed 3 i f z (omega (arith, g, h))))

module _ (c : ℕ) where
  abbrev row_of : Dv → List Float
  row_of d = listed 0 c (part_of d)

  long : (d : Dv) → length (row_of d) ≡ c
  long d = length-listed 0 c (part_of d)

  -- one of them, as a part of the slice of k numbers
  part_put : (at k : ℕ) (out : List Float) (d : Dv) {a : List Float} → k ≡ c → at + c ≤ length out → a ≡ listed 0 (length (mid_of at k out)) (part_of d)
      → put_mid at k out a ≡ paste out at (row_of d) c
  part_put at k out d {a} e h p =
      let mid : length (mid_of at k out) ≡ c = length-take-le k (drop at out) (omega (arith, length-drop at out, e, h)) ∙ e in
      put_mid-paste at k out a (row_of d) c (p ∙ ap (λ (n : ℕ). listed 0 n (part_of d)) mid) (sym e) (sym (long d))

  -- one row after the other
  rows_put : (out : List Float) (x y z : Dv) {a b e : List Float} → 3 * c ≤ length out → a ≡ paste out 0 (row_of x) c → b ≡ paste a c (row_of y) c
      → e ≡ paste b (2 * c) (row_of z) c → e ≡ paste out 0 (rows_of c (x ∷ y ∷ z ∷ [])) (3 * c)
  unfolding flatten
  rows_put out x y z {a} {b} {e} h p q r =
      let s = row_of x in
      let t = row_of y in
      let u = row_of z in
      let n : length (s ++ t) ≡ 2 * c = omega (arith, length-append s t, long x, long y) in
      let m : length ((s ++ t) ++ u) ≡ 3 * c = omega (arith, length-append (s ++ t) u, n, long z) in
      let first : a ≡ paste out 0 s (length s) = rw (long x) p in
      let at : c ≡ 0 + length s = omega (arith, long x) in
      let then : 2 * c ≡ 0 + length (s ++ t) = omega (arith, n) in
      let second : b ≡ paste out 0 (s ++ t) (length (s ++ t)) = q ∙ (λ i. paste (first i) (at i) t (sym (long y) i)) ∙ twice out s t 0 (omega arith) in
      let third : e ≡ paste out 0 ((s ++ t) ++ u) (length ((s ++ t) ++ u)) =
      r ∙ (λ i. paste (second i) (then i) u (sym (long z) i)) ∙ twice out (s ++ t) u 0 (omega arith) in
      third ∙ (λ i. paste out 0 (whole s t u i) (m i))
    where
      whole : (s t u : List Float) → (s ++ t) ++ u ≡ s ++ (t ++ (u ++ []))
      whole s t u = append_assoc s t u ∙ ap (λ (l : List Float). s ++ (t ++ l)) (sym (append-nil u))

  -- as the code writes them
  pub rows_written : (out : List Float) (three : List Dv) (z : Dv) {a b e : List Float} → 3 * c ≤ length out → length three ≡ 3
      → a ≡ listed 0 (length (mid_of 0 c out)) (part_of (get_or three 0 z))
      → (let l = put_mid 0 c out a in b ≡ listed 0 (length (mid_of c (2 * c - c) l)) (part_of (get_or three 1 z))
      → (let m = put_mid c (2 * c - c) l b in e ≡ listed 0 (length (mid_of (2 * c) (3 * c - 2 * c) m)) (part_of (get_or three 2 z))
      → put_mid (2 * c) (3 * c - 2 * c) m e ≡ paste out 0 (rows_of c three) (3 * c)))
  rows_written out three z {a} {b} {e} h w p q r =
      let l = put_mid 0 c out a in
      let m = put_mid c (2 * c - c) l b in
      let first : length l ≡ length out = same_len_mid 0 c out a (ap (λ (x : List Float). length x) p ∙ length-listed 0 _ _) in
      let second : length m ≡ length l = same_len_mid c (2 * c - c) l b (ap (λ (x : List Float). length x) q ∙ length-listed 0 _ _) in
      let one = part_put 0 c out (get_or three 0 z) refl (omega (arith, h)) p in
      let two = part_put c (2 * c - c) l (get_or three 1 z) (omega arith) (omega (arith, h, first)) q in
      let last = part_put (2 * c) (3 * c - 2 * c) m (get_or three 2 z) (omega arith) (omega (arith, h, first, second)) r in
      rows_put out (get_or three 0 z) (get_or three 1 z) (get_or three 2 z) h one two last
      ∙ ap (λ (x : List Dv). paste out 0 (rows_of c x) (3 * c)) (sym (three_is three z w))
