-- Cells in two slices: which there are, and what writing one makes of all of them. Assumes nothing.
use mathlib.Core.Path.{◌≡◌, refl, sym, ap, ◌∙◌, subst}
use mathlib.Core.Bool.{true}
use mathlib.Core.List.{List, ◌++◌, append_assoc}
use Prim.Native.Nat.{ℕ, zero, suc, ◌+◌, ◌-◌, ◌*◌, ◌≤◌, ◌<◌, min}
use native.Mathlib.Nat.{min-eq_left}
use native.Mathlib.Omega.{arith}
use lib.ListN.{length, get_or, set, take, drop, replicate, length-set, length-drop, length-replicate, get_or-append, get_or-replicate}
use lib.Seq.{paste, get_or-append-add, get_or-take, get_or-drop, get_or-set_same, get_or-set_other, length-take-le, length-paste, length_paste_head, take_all}
use lib.Dec.{leb, ltb}
use borrow.Author.Tests.{leb-true, ltb-true, ltb-false, le-leb, le-ltb, lt-ltb}
use borrow.Rule.Slice.PartMut.{put_mid, Post-is}
use lib.Ieee.{Float, nan}
use Rattle.meaning.proofs.Tests.{by_two, and_left, and_right}
use Rattle.meaning.specs.Scalar.{zero64}
use Rattle.meaning.proofs.Filling.{full, length-listed, nth_listed}
use Rattle.solve.proofs.Lists.{row_le}
use Rattle.partials.specs.declared.Dv.{Dv}
use Rattle.partials.specs.Dual.{count_of, part_of}
use Rattle.cells.specs.Cell.{value_of, cell_at, headed, doubles_of, has_cell, read_at, doubles_with, counts_with}
use Rattle.cells.specs.Normal.{Normal}
use Rattle.cells.proofs.Values.{value_same}

-- ---- which cells there are

pub record There (doubles bytes c k : ℕ) : Type 0 where
  pub narrow : c ≤ 27
  pub low : k ≤ 223
  pub byte : k < bytes
  pub room : k * (c + 1) + (c + 1) ≤ doubles

pub there : (doubles bytes c k : ℕ) → has_cell doubles bytes c k ≡ true → There doubles bytes c k
there doubles bytes c k h =
    let a = and_right (leb c 27) _ h in
    let b = and_right (leb k 223) _ a in
    record {
      narrow = leb-true c 27 (and_left (leb c 27) _ h);
      low = leb-true k 223 (and_left (leb k 223) _ a);
      byte = ltb-true k bytes (and_left (ltb k bytes) _ b);
      room = leb-true _ doubles (and_right (ltb k bytes) _ b);
    }

pub there_is : (doubles bytes c k : ℕ) → There doubles bytes c k → has_cell doubles bytes c k ≡ true
there_is doubles bytes c k h = rw (le-leb c 27 h.narrow, le-leb k 223 h.low, lt-ltb k bytes h.byte, le-leb _ doubles h.room)

-- ---- a part of a list replaced
module _ {A : Type 0} (w y : List A) (a s : ℕ) (h : a + s ≤ length w) (l : length y ≡ s) (z : A) where
  head_long : length (take a w ++ take s y) ≡ a + s
  head_long = length_paste_head w a y s (omega arith) (omega arith)

  pub paste_before : (i : ℕ) → i < a → get_or (paste w a y s) i z ≡ get_or w i z
  paste_before i b =
      get_or-append (take a w ++ take s y) (drop (a + s) w) z i (omega (arith, head_long))
      ∙ get_or-append (take a w) (take s y) z i (omega (arith, length-take-le a w (omega arith)))
      ∙ get_or-take a w i z b

  pub paste_inside : (j : ℕ) → j < s → get_or (paste w a y s) (a + j) z ≡ get_or y j z
  paste_inside j b =
      get_or-append (take a w ++ take s y) (drop (a + s) w) z (a + j) (omega (arith, head_long))
      ∙ subst (λ (n : ℕ). get_or (take a w ++ take s y) (n + j) z ≡ get_or (take s y) j z) (length-take-le a w (omega arith)) (get_or-append-add (take a w) (take s y) j z)
      ∙ get_or-take s y j z b

  pub paste_past : (i : ℕ) → a + s ≤ i → get_or (paste w a y s) i z ≡ get_or w i z
  paste_past i b =
      let r = i - (a + s) in
      let e : a + s + r ≡ i = omega arith in
      ap (λ (n : ℕ). get_or (paste w a y s) n z) (sym e)
      ∙ subst (λ (n : ℕ). get_or (paste w a y s) (n + r) z ≡ get_or (drop (a + s) w) r z) head_long (get_or-append-add (take a w ++ take s y) (drop (a + s) w) r z)
      ∙ get_or-drop (a + s) w r z
      ∙ ap (λ (n : ℕ). get_or w n z) e

-- a part that comes back
pub back_paste : {A : Type 0} (w y : List A) (a s : ℕ) → length y ≡ s → put_mid a (a + s - a) w y ≡ paste w a y s
back_paste {A} w y a s l =
    ap (λ (t : List A). take a w ++ (y ++ t)) (Post-is a (a + s) w (omega arith))
    ∙ sym (append_assoc (take a w) y (drop (a + s) w))
    ∙ ap (λ (t : List A). take a w ++ t ++ drop (a + s) w) (sym (take_all s y (omega arith)))

-- a part that is lent
pub lent_at : {A : Type 0} (w : List A) (a s j : ℕ) (z : A) → j < s → get_or (take (a + s - a) (drop a w)) j z ≡ get_or w (a + j) z
lent_at w a s j z h = let e : a + s - a ≡ s = omega arith in rw e (get_or-take s (drop a w) j z h ∙ get_or-drop a w j z)

-- ---- cell k replaced by the doubles y and the count n
module _ (c : ℕ) (w y : List Float) (ns : List ℕ) (k n : ℕ) (b : k < length ns) (r : k * (c + 1) + (c + 1) ≤ length w) (l : length y ≡ c + 1) where
  pub put_same : cell_at c (paste w (k * (c + 1)) y (c + 1)) (set ns k n) k ≡ value_of (λ j. get_or y j nan) (min n c)
  unfolding cell_at
  put_same =
      rw (get_or-set_same ns k n 0 b)
      (value_same (min n c) _ _ (λ j h. paste_inside w y (k * (c + 1)) (c + 1) r l nan j (omega arith)))

  pub put_other : (i : ℕ) → (i ≡ k → ⊥) → cell_at c (paste w (k * (c + 1)) y (c + 1)) (set ns k n) i ≡ cell_at c w ns i
  unfolding cell_at
  put_other i q =
      rw (get_or-set_other ns k i n 0 q)
      (value_same (min (get_or ns i 0) c) _ _ (λ j h. elsewhere j (omega arith)))
    where
      elsewhere : (j : ℕ) → j < c + 1 → get_or (paste w (k * (c + 1)) y (c + 1)) (i * (c + 1) + j) nan ≡ get_or w (i * (c + 1) + j) nan
      elsewhere j h =
          by_two (ltb i k)
          (λ e. paste_before w y (k * (c + 1)) (c + 1) r l nan (i * (c + 1) + j) (omega (arith, row_le i k (c + 1) (ltb-true i k e))))
          (λ e.
          let g : k < i = omega (arith, ltb-false i k e, q) in
          paste_past w y (k * (c + 1)) (c + 1) r l nan (i * (c + 1) + j) (omega (arith, row_le k i (c + 1) g)))

-- ---- cell k replaced by the value d, as the code writes it
pub doubles-long : (c : ℕ) (d : Dv) → length (doubles_of c d) ≡ c + 1
unfolding doubles_of
doubles-long c d = length-listed 0 (c + 1) (headed d.v (part_of d))

-- what lies there is d, where d has at most c partials and +0.0 past them
pub doubles-value : (c : ℕ) (d : Dv) → Normal c d → value_of (λ j. get_or (doubles_of c d) j nan) (min d.n c) ≡ d
unfolding doubles_of
doubles-value c d h =
    ap (value_of (λ j. get_or (doubles_of c d) j nan)) (min-eq_left h.few)
    ∙ value_same d.n _ _ (λ j b. nth_listed (c + 1) j (headed d.v (part_of d)) nan (omega (arith, h.few)))
    ∙ sym h.whole

module _ (c : ℕ) (w : List Float) (ns : List ℕ) (k : ℕ) (t : There (length w) (length ns) c k) where
  pub read_there : read_at c w ns k ≡ cell_at c w ns k
  unfolding read_at
  read_there = rw (there_is (length w) (length ns) c k t)

  module _ (d : Dv) where
    pub with_long : length (doubles_with c w ns k d) ≡ length w
    unfolding doubles_with
    with_long =
        rw (there_is (length w) (length ns) c k t)
        (length-paste w (k * (c + 1)) (doubles_of c d) (c + 1) t.room (omega (arith, doubles-long c d)))

    pub counts-long : length (counts_with c w ns k d) ≡ length ns
    unfolding counts_with
    counts-long = rw (there_is (length w) (length ns) c k t) (length-set ns k (min d.n c))

    pub with_same : Normal c d → cell_at c (doubles_with c w ns k d) (counts_with c w ns k d) k ≡ d
    unfolding doubles_with counts_with
    with_same h =
        rw (there_is (length w) (length ns) c k t)
        (put_same c w (doubles_of c d) ns k (min d.n c) t.byte t.room (doubles-long c d)
        ∙ ap (value_of (λ j. get_or (doubles_of c d) j nan)) (min-eq_left (omega arith))
        ∙ doubles-value c d h)

    pub with_other : (i : ℕ) → (i ≡ k → ⊥) → cell_at c (doubles_with c w ns k d) (counts_with c w ns k d) i ≡ cell_at c w ns i
    unfolding doubles_with counts_with
    with_other i q =
        rw (there_is (length w) (length ns) c k t) (put_other c w (doubles_of c d) ns k (min d.n c) t.byte t.room (doubles-long c d) i q)

-- ---- the doubles of a cell: its n partials that there is room for, and +0.0 past them
module _ (c n : ℕ) (d : Dv) (e : n ≡ min (count_of d) c) where
  -- number i, where the first n + 1 are written
  written : (i : ℕ) → i < n + 1 → headed d.v (λ k. get_or d.g k nan) i ≡ headed d.v (part_of d) i
  written zero h = refl
  written (suc k) h = rw (lt-ltb k (count_of d) (omega arith)) refl

  -- and past them
  missing : (i : ℕ) → n + 1 ≤ i → i < c + 1 → zero64 ≡ headed d.v (part_of d) i
  missing zero h l = absurd (omega arith)
  missing (suc k) h l = rw (le-ltb k (count_of d) (omega arith)) refl

  module _ (t l : List Float) (long : length t ≡ c + 1) (ll : length l ≡ n) (hl : (j : ℕ) → j < n → get_or l j nan ≡ get_or d.g j nan) where
    abbrev headed_by : List Float
    headed_by = set t 0 d.v

    -- the value and the partials put there
    abbrev pub partly : List Float
    partly = put_mid 1 (n + 1 - 1) headed_by l

    abbrev pasted : List Float
    pasted = paste headed_by 1 l n

    same : partly ≡ pasted
    same = let one : n + 1 - 1 ≡ 1 + n - 1 = omega arith in (λ i. put_mid 1 (one i) headed_by l) ∙ back_paste headed_by l 1 n ll

    room : 1 + n ≤ length headed_by
    room = omega (arith, length-set t 0 d.v, long, e)

    pasted-long : length pasted ≡ c + 1
    pasted-long = length-paste headed_by 1 l n room (omega (arith, ll)) ∙ length-set t 0 d.v ∙ long

    front : (i : ℕ) → i < n + 1 → get_or pasted i nan ≡ headed d.v (λ j. get_or d.g j nan) i
    front zero g = paste_before headed_by l 1 n room ll nan 0 (omega arith) ∙ get_or-set_same t 0 d.v nan (omega (arith, long))
    front (suc j) g =
        let at : suc j ≡ 1 + j = omega arith in
        ap (λ (i : ℕ). get_or pasted i nan) at ∙ paste_inside headed_by l 1 n room ll nan j (omega arith) ∙ hl j (omega arith)

    rest : n + 1 + (c - n) ≤ length pasted
    rest = omega (arith, pasted-long, e)

    module _ (k : List Float) (lk : length k ≡ c - n) (hk : (j : ℕ) → j < c - n → get_or k j nan ≡ zero64) where
      abbrev whole : List Float
      whole = paste pasted (n + 1) k (c - n)

      number : (i : ℕ) → i < c + 1 → get_or whole i nan ≡ headed d.v (part_of d) i
      number i h =
          by_two (ltb i (n + 1))
          (λ q.
          let g = ltb-true i (n + 1) q in
          paste_before pasted k (n + 1) (c - n) rest lk nan i g ∙ front i g ∙ written i g)
          (λ q.
          let g = ltb-false i (n + 1) q in
          let at : i ≡ n + 1 + (i - (n + 1)) = omega arith in
          ap (λ (j : ℕ). get_or whole j nan) at ∙ paste_inside pasted k (n + 1) (c - n) rest lk nan (i - (n + 1)) (omega arith)
          ∙ hk (i - (n + 1)) (omega arith) ∙ missing i g h)

      full_cell : put_mid (n + 1) (length pasted - (n + 1)) pasted k ≡ doubles_of c d
      unfolding doubles_of
      full_cell =
          let two : length pasted - (n + 1) ≡ n + 1 + (c - n) - (n + 1) = omega (arith, pasted-long, e) in
          let long' : length whole ≡ c + 1 = length-paste pasted (n + 1) k (c - n) rest (omega (arith, lk)) ∙ pasted-long in
          (λ i. put_mid (n + 1) (two i) pasted k)
          ∙ back_paste pasted k (n + 1) (c - n) lk
          ∙ full {k = c + 1} (record { long = long'; high = omega arith; same = number }) (omega arith)

    -- and what is left of the cell, k, filled with +0.0
    pub cell_laid : (k : List Float) → k ≡ replicate (length (take (length partly - (n + 1)) (drop (n + 1) partly))) zero64
        → put_mid (n + 1) (length partly - (n + 1)) partly k ≡ doubles_of c d
    cell_laid k q =
        let size : length (take (length partly - (n + 1)) (drop (n + 1) partly)) ≡ c - n =
        (λ i. length (take (length (same i) - (n + 1)) (drop (n + 1) (same i))))
        ∙ length-take-le (length pasted - (n + 1)) (drop (n + 1) pasted) (omega (arith, length-drop (n + 1) pasted))
        ∙ omega (arith, pasted-long) in
        let is : k ≡ replicate (c - n) zero64 = q ∙ ap (λ (i : ℕ). replicate i zero64) size in
        (λ i. put_mid (n + 1) (length (same i) - (n + 1)) (same i) k)
        ∙ full_cell k (ap length is ∙ length-replicate (c - n) zero64)
        (λ j h. ap (λ (l : List Float). get_or l j nan) is ∙ get_or-replicate (c - n) j zero64 nan h)
