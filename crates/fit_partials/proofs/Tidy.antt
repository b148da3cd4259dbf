-- What every operation makes has no more partials than its operands and +0.0 past them: it lies in a cell as it is. Assumes nothing.
use mathlib.Core.Path.{◌≡◌, refl, sym, ap, ◌∙◌}
use mathlib.Core.Bool.{Bool, true, false, ◌&&◌, cond}
use mathlib.Core.List.{List}
use Prim.Native.Nat.{ℕ, ◌≤◌, ◌<◌, min, max}
use native.Mathlib.Nat.{min-eq_left, min-le_left, min-le_right}
use native.Mathlib.Omega.{arith}
use borrow.Author.Tests.{le-ltb, ltb-false}
use lib.Dec.{ltb, leb}
use lib.ListN.{length, get_or, replicate, length-replicate, length-set}
use lib.Seq.{ext_get_or, get_or-set_other}
use lib.Ieee.{Float, binary64, nan, div, le, of_bits}
use Rattle.meaning.specs.Root.{root_of}
use Rattle.meaning.specs.Scalar.{zero64, one64}
use Rattle.meaning.specs.Search.{listed}
use Rattle.meaning.specs.Loops.{turns}
use Rattle.meaning.proofs.Tests.{by_two}
use Rattle.meaning.proofs.Filling.{length-listed, nth_listed, listed_same, set_front}
use Rattle.partials.specs.declared.Dv.{Dv}
use Rattle.partials.specs.Dual.{count_of, part_of, partials, zip_dv, map_dv, cst_dv, var_dv, add_dv, sub_dv, mul_dv, div_dv, neg_dv, root_dv, fine_dv, dual}
use Rattle.cells.specs.Cell.{value_of}
use Rattle.cells.specs.Normal.{Normal}
use Rattle.fit.proofs.Kept.{Kept}
use Rattle.fit_partials.specs.Stored.{Tidy}

-- ---- n partials in their places

partials-listed : (n : ℕ) (f : ℕ → Float) → n ≤ 27 → partials n f ≡ listed 0 27 (λ j. cond (ltb j n) (f j) zero64)
unfolding partials
partials-listed n f h = set_front f zero64 27 n h

partials-past : (n : ℕ) (f : ℕ → Float) → n ≤ 27 → (j : ℕ) → n ≤ j → j < length (partials n f) → get_or (partials n f) j nan ≡ zero64
partials-past n f h j a b =
    let e = partials-listed n f h in
    let low : j < 27 = omega (arith, ap length e, length-listed 0 27 (λ i. cond (ltb i n) (f i) zero64)) in
    ap (λ (l : List Float). get_or l j nan) e ∙ nth_listed 27 j (λ i. cond (ltb i n) (f i) zero64) nan low ∙ rw (le-ltb j n a)

zero_at : (j : ℕ) → j < 27 → get_or (replicate 27 zero64) j nan ≡ zero64
zero_at j h = ap (λ (l : List Float). get_or l j nan) (listed_same 0 27 zero64) ∙ nth_listed 27 j (λ i. zero64) nan h

-- +0.0 is finite
pub zero_fine : fine_dv (cst_dv zero64) ≡ true
unfolding fine_dv cst_dv turns of_bits
zero_fine = refl

-- ---- in a cell

pub tidy_normal : (c : ℕ) (d : Dv) → c ≤ 27 → length d.g ≡ 27 → Tidy c d → Normal c d
unfolding value_of
tidy_normal c d h l t =
    let n : d.n ≤ 27 = omega (arith, t.few) in
    let e : d.g ≡ partials d.n (part_of d) =
    ext_get_or nan d.g (listed 0 27 (λ j. cond (ltb j d.n) (part_of d j) zero64))
    (l ∙ sym (length-listed 0 27 (λ j. cond (ltb j d.n) (part_of d j) zero64)))
    (λ j b.
    let low : j < 27 = omega arith in
    by_two (ltb j d.n) (λ q. rw (min-eq_left n, q)) (λ q. rw q (t.zeros j (ltb-false j d.n q) b))
    ∙ sym (nth_listed 27 j (λ i. cond (ltb i d.n) (part_of d i) zero64) nan low))
    ∙ sym (partials-listed d.n (part_of d) n) in
    record { few = t.few; whole = λ i. record { v = d.v; g = e i; n = d.n } }

-- ---- the operations

module _ (c : ℕ) where
  few-counted : (n : ℕ) → n ≤ c → min n 27 ≤ c
  few-counted n h = omega (arith, min-le_left n 27)

  zip_tidy : (v : Float) (f : ℕ → Float) (a b : Dv) → Tidy c a → Tidy c b
      → Tidy c (record { v = v; g = partials (max (count_of a) (count_of b)) f; n = max (count_of a) (count_of b) })
  zip_tidy v f a b p q =
      let n = max (count_of a) (count_of b) in
      let m : n ≤ 27 = omega (arith, min-le_right a.n 27, min-le_right b.n 27) in
      record { few = omega (arith, few-counted a.n p.few, few-counted b.n q.few); zeros = partials-past n f m }

  map_tidy : (v f : Float) (a : Dv) → Tidy c a → Tidy c (map_dv v f a)
  unfolding map_dv
  map_tidy v f a p = record { few = few-counted a.n p.few; zeros = partials-past (count_of a) _ (min-le_right a.n 27) }

  pub cst_tidy : (v : Float) → Tidy c (cst_dv v)
  unfolding cst_dv
  cst_tidy v = record { few = omega arith; zeros = λ j h l. zero_at j (omega (arith, length-replicate 27 zero64)) }

  pub zero_normal : c ≤ 27 → Normal c (cst_dv zero64)
  unfolding cst_dv
  zero_normal h = tidy_normal c (cst_dv zero64) h (length-replicate 27 zero64) (cst_tidy zero64)

  choose_tidy : (b : Bool) (x y : Dv) → Tidy c x → Tidy c y → Tidy c (cond b x y)
  choose_tidy true x y p q = p
  choose_tidy false x y p q = q

  pub var_tidy : (q : List Float) (i : ℕ) → i < c → Tidy c (var_dv q i)
  unfolding var_dv
  var_tidy q i h =
      choose_tidy (leb i 26 && ltb i (length q)) _ _
      (record {
        few = omega arith;
        zeros = λ j a l. get_or-set_other (replicate 27 zero64) i j one64 nan (λ e. absurd (omega arith))
            ∙ zero_at j (omega (arith, length-set (replicate 27 zero64) i one64, length-replicate 27 zero64));
      })
      (cst_tidy zero64)

  pub root_tidy : (a : Dv) → Tidy c a → Tidy c (root_dv a)
  unfolding root_dv
  root_tidy a p =
      choose_tidy (le a.v zero64) (cst_dv zero64) _ (cst_tidy zero64)
      (map_tidy (root_of a.v) (div binary64 (of_bits binary64 0x3fe0_0000_0000_0000) (root_of a.v)) a p)

  pub off_tidy : Tidy c dual.off
  off_tidy = record { few = omega arith; zeros = λ j h l. absurd (omega arith) }

  pub tidy_kept : Kept dual (Tidy c) (Tidy c)
  unfolding add_dv sub_dv mul_dv div_dv neg_dv zip_dv
  tidy_kept = record {
    knot = λ x y. zip_tidy _ _ x y;
    plus = λ x y. zip_tidy _ _ x y;
    minus = λ x y. zip_tidy _ _ x y;
    times = λ x y. zip_tidy _ _ x y;
    over = λ x y. zip_tidy _ _ x y;
    opp = λ x. map_tidy _ _ x;
    cst = λ v p. cst_tidy v;
    off = off_tidy;
  }
