-- Slices of cells as a list of values: what stands in it, and what writing a cell makes of it. Assumes nothing.
use mathlib.Core.Path.{◌≡◌, refl, sym, ap, ◌∙◌, subst}
use mathlib.Core.Bool.{Bool, true, false}
use mathlib.Core.List.{List}
use Prim.Native.Nat.{ℕ, zero, suc, ◌+◌, ◌-◌, ◌*◌, ◌≤◌, ◌<◌, min, max}
use native.Mathlib.Nat.{add-zero, min-eq_left}
use native.Mathlib.Omega.{arith}
use lib.ListN.{length, get_or, set, take, drop, length-set, length-drop}
use lib.Seq.{paste, length-take-le, get_or-set_same, get_or-set_other, ext_get_or}
use lib.Dec.{eqb}
use borrow.Author.Tests.{eqb-true, eqb-false, lt-ltb, le-ltb}
use lib.Ieee.{Float, binary64, nan, add, sub, mul, div}
use Rattle.meaning.proofs.Tests.{by_two}
use Rattle.meaning.proofs.Filling.{length-listed, nth_listed}
use Rattle.partials.specs.declared.Dv.{Dv}
use Rattle.partials.specs.Dual.{dual, part_of, partials, zip_dv, cst_dv, sub_dv, mul_dv, div_dv}
use Rattle.meaning.specs.Loops.{turns}
use Rattle.cells.specs.Cell.{value_of, cell_at, headed, doubles_of, read_at, doubles_with, counts_with}
use Rattle.cells.specs.Normal.{Normal}
use Rattle.cells.proofs.Values.{value_same, value_part}
use Rattle.cells.proofs.Cells.{There, put_same, put_other, read_there, with_long, counts-long, with_same, with_other, back_paste, lent_at}
use borrow.Rule.Slice.PartMut.{put_mid}
use Rattle.solve.specs.Elimination.{less_by}
use Rattle.solve.proofs.Lists.{row_le}
use Rattle.solve_partials.specs.Held.{held, Room, valued, Clean, count_at, at}
use Rattle.solve_partials.proofs.Products.{zip_values}

module _ (c : ℕ) (w : List Float) (ns : List ℕ) where
  pub held-long : length (held c w ns) ≡ length ns
  unfolding held
  held-long = length-listed 0 (length ns) (cell_at c w ns)

  pub held-at : (k : ℕ) → k < length ns → at c w ns k ≡ cell_at c w ns k
  unfolding held
  held-at k h = nth_listed (length ns) k (cell_at c w ns) dual.off h

  -- two slices hold the same but in cell k
  held_set : (w' : List Float) (ns' : List ℕ) (k : ℕ) (v : Dv) → length ns' ≡ length ns → k < length ns → cell_at c w' ns' k ≡ v
      → ((i : ℕ) → (i ≡ k → ⊥) → cell_at c w' ns' i ≡ cell_at c w ns i) → held c w' ns' ≡ set (held c w ns) k v
  unfolding held
  held_set w' ns' k v l h e o =
      let H = held c w ns in
      let long : length (set H k v) ≡ length ns = length-set H k v ∙ held-long in
      ext_get_or dual.off (held c w' ns') (set H k v) (length-listed 0 (length ns') (cell_at c w' ns') ∙ l ∙ sym long)
      (λ i b.
      let in' : i < length ns' = omega (arith, length-listed 0 (length ns') (cell_at c w' ns')) in
      nth_listed (length ns') i (cell_at c w' ns') dual.off in'
      ∙ by_two (eqb i k)
      (λ q. let s = eqb-true i k q in rw s (e ∙ sym (get_or-set_same H k v dual.off (omega (arith, held-long)))))
      (λ q. let s = eqb-false i k q in o i s ∙ sym (get_or-set_other H k i v dual.off s ∙ held-at i (omega arith))))

  module _ (r : Room c w ns) (k : ℕ) (h : k < length ns) where
    pub ends : k * (c + 1) + (c + 1) ≤ length w
    ends = omega (arith, row_le k (length ns) (c + 1) h, r.room)

    pub there : There (length w) (length ns) c k
    there = record { narrow = r.narrow; low = omega (arith, r.few); byte = h; room = ends }

    pub held-read : read_at c w ns k ≡ at c w ns k
    held-read = read_there c w ns k there ∙ sym (held-at k h)

    -- cell k replaced by the doubles y with n partials
    pub held_paste : (y : List Float) (n : ℕ) → length y ≡ c + 1 → n ≤ c → held c (paste w (k * (c + 1)) y (c + 1)) (set ns k n) ≡ set (held c w ns) k (valued y n)
    held_paste y n l few =
        held_set (paste w (k * (c + 1)) y (c + 1)) (set ns k n) k (valued y n) (length-set ns k n) h
        (put_same c w y ns k n h ends l ∙ ap (valued y) (min-eq_left few))
        (put_other c w y ns k n h ends l)

    pub held_with : (d : Dv) → Normal c d → held c (doubles_with c w ns k d) (counts_with c w ns k d) ≡ set (held c w ns) k d
    held_with d q =
        held_set (doubles_with c w ns k d) (counts_with c w ns k d) k d (counts-long c w ns k there d) h (with_same c w ns k there d q) (with_other c w ns k there d)

    pub room_with : (d : Dv) → Room c (doubles_with c w ns k d) (counts_with c w ns k d)
    room_with d =
        record {
          narrow = r.narrow;
          few = omega (arith, r.few, counts-long c w ns k there d);
          room = rw (counts-long c w ns k there d, with_long c w ns k there d) r.room;
        }

-- ---- values that lie in a cell as they are
module _ (c : ℕ) (h : c ≤ 27) where
  -- the value d 0 with n partials
  pub value_normal : (d : ℕ → Float) (n : ℕ) → n ≤ c → Normal c (value_of d n)
  unfolding value_of
  value_normal d n l =
      record {
        few = l;
        whole = value_same n d (headed (d 0) (part_of (value_of d n))) (λ j b. each j b);
      }
    where
      each : (j : ℕ) → j ≤ n → d j ≡ headed (d 0) (part_of (value_of d n)) j
      each zero b = refl
      each (suc j) b = sym (value_part d n (omega arith) j ∙ rw (lt-ltb j n (omega arith)))

  -- two such put together
  pub zip_normal : (f : Float → Float → Float) (v : Float) (x y : Dv) → Normal c x → Normal c y → Normal c (zip_dv f v x y)
  zip_normal f v x y p q =
      rw (p.whole, q.whole, zip_values f v _ _ x.n y.n (omega (arith, p.few)) (omega (arith, q.few)))
      (value_normal _ (max x.n y.n) (omega (arith, p.few, q.few)))

  pub mul_normal : (x y : Dv) → Normal c x → Normal c y → Normal c (mul_dv x y)
  unfolding mul_dv
  mul_normal x y = zip_normal (λ p q. add binary64 (mul binary64 p y.v) (mul binary64 x.v q)) (mul binary64 x.v y.v) x y

  pub div_normal : (x y : Dv) → Normal c x → Normal c y → Normal c (div_dv x y)
  unfolding div_dv
  div_normal x y =
      zip_normal (λ p q. sub binary64 (div binary64 p y.v) (div binary64 (mul binary64 x.v q) (mul binary64 y.v y.v))) (div binary64 x.v y.v) x y

  pub cst_normal : (x : Float) → Normal c (cst_dv x)
  unfolding cst_dv value_of partials turns
  cst_normal x = record { few = omega arith; whole = refl }

  pub cell_normal : (w : List Float) (ns : List ℕ) (k : ℕ) → Normal c (cell_at c w ns k)
  unfolding cell_at
  cell_normal w ns k = value_normal (λ j. get_or w (k * (c + 1) + j) nan) (min (get_or ns k 0) c) (omega arith)

-- the value of a cell alone
pub held-value : (c : ℕ) (w : List Float) (ns : List ℕ) (k : ℕ) → k < length ns → (at c w ns k).v ≡ get_or w (k * (c + 1)) nan
unfolding cell_at value_of
held-value c w ns k h = ap (λ (d : Dv). d.v) (held-at c w ns k h) ∙ ap (λ (j : ℕ). get_or w j nan) (add-zero (k * (c + 1)))

-- ---- what the functions on cells cite
module _ {c : ℕ} {w : List Float} {ns : List ℕ} (r : Room c w ns) where
  pub at_normal : (k : ℕ) → k < length ns → Normal c (at c w ns k)
  at_normal k h = subst (Normal c) (sym (held-at c w ns k h)) (cell_normal c r.narrow w ns k)

  -- cell i over cell j
  pub over_normal : (i j : ℕ) → i < length ns → j < length ns → Normal c (div_dv (at c w ns i) (at c w ns j))
  over_normal i j h g = div_normal c r.narrow (at c w ns i) (at c w ns j) (at_normal i h) (at_normal j g)

  -- two cells replaced
  pub two_put : {w₁ w₂ : List Float} {ns₁ ns₂ : List ℕ} (i j : ℕ) → i < length ns → j < length ns → (x y : Dv) → Normal c x → Normal c y
      → w₁ ≡ doubles_with c w ns i x → ns₁ ≡ counts_with c w ns i x → w₂ ≡ doubles_with c w₁ ns₁ j y → ns₂ ≡ counts_with c w₁ ns₁ j y
      → held c w₂ ns₂ ≡ set (set (held c w ns) i x) j y
  two_put {w₁} {w₂} {ns₁} {ns₂} i j h g x y nx ny e₁ n₁ e₂ n₂ =
      let one : held c w₁ ns₁ ≡ set (held c w ns) i x = (λ t. held c (e₁ t) (n₁ t)) ∙ held_with c w ns r i h x nx in
      let room = subst (λ (l : List ℕ). Room c w₁ l) (sym n₁) (subst (λ (l : List Float). Room c l (counts_with c w ns i x)) (sym e₁) (room_with c w ns r i h x)) in
      let long : length ns₁ ≡ length ns = ap length n₁ ∙ counts-long c w ns i (there c w ns r i h) x in
      (λ t. held c (e₂ t) (n₂ t)) ∙ held_with c w₁ ns₁ room j (omega arith) y ny ∙ (λ t. set (one t) j y)

-- a cell that comes back, less a product
pub back_cell : {c : ℕ} {w : List Float} {ns : List ℕ} → Room c w ns → (k : ℕ) → k < length ns → (y : List Float) (n : ℕ) → length y ≡ c + 1 → n ≤ c
    → held c (put_mid (k * (c + 1)) (k * (c + 1) + (c + 1) - k * (c + 1)) w y) (set ns k n) ≡ set (held c w ns) k (valued y n)
back_cell {c} {w} {ns} r k h y n l few =
    ap (λ (t : List Float). held c t (set ns k n)) (back_paste w y (k * (c + 1)) (c + 1) l) ∙ held_paste c w ns r k h y n l few

-- a cell as it is lent
pub lent_cell : {c : ℕ} {w : List Float} {ns : List ℕ} → Room c w ns → (k : ℕ) → k < length ns
    → valued (take (k * (c + 1) + (c + 1) - k * (c + 1)) (drop (k * (c + 1)) w)) (count_at c ns k) ≡ at c w ns k
unfolding cell_at
lent_cell {c} {w} {ns} r k h =
    value_same (count_at c ns k) _ _ (λ j b. lent_at w (k * (c + 1)) (c + 1) j nan (omega arith)) ∙ sym (held-at c w ns k h)

pub lent-long : {c : ℕ} {w : List Float} {ns : List ℕ} → Room c w ns → (k : ℕ) → k < length ns
    → length (take (k * (c + 1) + (c + 1) - k * (c + 1)) (drop (k * (c + 1)) w)) ≡ c + 1
lent-long {c} {w} {ns} r k h =
    let e : k * (c + 1) + (c + 1) - k * (c + 1) ≡ c + 1 = omega arith in
    rw e (length-take-le (c + 1) (drop (k * (c + 1)) w) (omega (arith, length-drop (k * (c + 1)) w, ends c w ns r k h)))

-- x less f times y, by the side on which it stands
pub in_matrix : {b : Bool} → b ≡ true → (f x y : Dv) → sub_dv x (mul_dv f y) ≡ less_by dual b f x y
in_matrix e f x y = rw e

pub in_sides : {b : Bool} → b ≡ false → (f x y : Dv) → sub_dv x (mul_dv y f) ≡ less_by dual b f x y
in_sides e f x y = rw e

-- the doubles of a value that lies in a cell as it is
module _ (c : ℕ) (d : Dv) (h : c ≤ 27) (n : Normal c d) where
  pub doubles_back : valued (doubles_of 27 d) d.n ≡ d
  unfolding doubles_of
  doubles_back =
      value_same d.n _ _ (λ j b. nth_listed 28 j (headed d.v (part_of d)) nan (omega (arith, n.few))) ∙ sym n.whole

  pub doubles_clean : Clean (doubles_of 27 d) d.n
  unfolding doubles_of
  doubles_clean zero g l = absurd (omega arith)
  doubles_clean (suc j) g l =
      nth_listed 28 (suc j) (headed d.v (part_of d)) nan l ∙ rw (le-ltb j (min d.n 27) (omega arith))
