-- Cells that are filled one after the other: none yet, one, some and then more, and the rows that they make up. Assumes nothing.
use mathlib.Core.Path.{◌≡◌, refl, sym, ap, ◌∙◌, subst}
use mathlib.Core.Bool.{Bool, true, ◌&&◌, and-true, and_assoc}
use mathlib.Core.List.{List, [], ◌∷◌, ◌++◌}
use Prim.Native.Nat.{ℕ, zero, suc, ◌+◌, ◌-◌, ◌*◌, ◌≤◌, ◌<◌, min}
use native.Mathlib.Nat.{mul-le-mul_right, add-mul, one-mul, zero-mul, suc-mul, add_comm, add_assoc, zero-add, add-zero, add-suc}
use native.Mathlib.Numerals.{add-one}
use native.Mathlib.Omega.{arith}
use borrow.Author.Tests.{ltb-true, ltb-false}
use lib.Dec.{ltb}
use lib.ListN.{length, get_or, set, take, drop, length-append}
use lib.Seq.{paste, ext_get_or, drop_at, drop-drop, length_paste_head}
use lib.Ieee.{Float}
use Rattle.meaning.specs.Table.{at1}
use Rattle.meaning.specs.Scalar.{zero64}
use Rattle.meaning.specs.Search.{every, listed}
use Rattle.meaning.proofs.Tests.{by_two}
use Rattle.meaning.proofs.Every.{every-none, every_same, all}
use Rattle.meaning.proofs.Filling.{length-listed, nth_listed}
use Rattle.partials.specs.declared.Dv.{Dv}
use Rattle.partials.specs.Dual.{cst_dv, fine_dv, dual}
use Rattle.solve.specs.Rows.{flat, rows_of, Shaped}
use Rattle.solve.proofs.Flat.{rows_of-flat, read_cell}
use Rattle.cells.specs.Cell.{cell_at, doubles_of, doubles_with, counts_with}
use Rattle.cells.specs.Normal.{Normal}
use Rattle.cells.proofs.Cells.{There, there_is, doubles-long, with_long, counts-long, with_same, with_other}
use Rattle.fit_partials.specs.Stored.{Laid, Stored, Room}
use Rattle.fit_partials.proofs.Tidy.{zero_fine}

-- a test of n indices and then of j more
every_join : (n j : ℕ) (p : ℕ → Bool) → every (n + j) p ≡ (every n p && every j (λ i. p (n + i)))
unfolding every
every_join n zero p = ap (λ (k : ℕ). every k p) (add-zero n) ∙ sym (and-true (every n p))
every_join n (suc j) p =
    ap (λ (k : ℕ). every k p) (add-suc n j) ∙ ap (λ (b : Bool). b && p (n + j)) (every_join n j p) ∙ and_assoc (every n p) (every j (λ i. p (n + i))) (p (n + j))

-- ---- past a cell that is written nothing is touched

paste_rest : {A : Type 0} (w y : List A) (a s : ℕ) → a + s ≤ length w → length y ≡ s → drop (a + s) (paste w a y s) ≡ drop (a + s) w
paste_rest w y a s h l = drop_at (take a w ++ take s y) (drop (a + s) w) (a + s) (length_paste_head w a y s (omega arith) (omega arith))

set_rest : {A : Type 0} (l : List A) (k : ℕ) (v : A) → drop (k + 1) (set l k v) ≡ drop (k + 1) l
set_rest {A = A} l k v = ap (λ (n : ℕ). drop n (set l k v)) (add-one k) ∙ go l k ∙ ap (λ (n : ℕ). drop n l) (sym (add-one k))
  where
    go : (l : List A) (k : ℕ) → drop (suc k) (set l k v) ≡ drop (suc k) l
    go [] k = refl
    go (x ∷ l) zero = refl
    go (x ∷ l) (suc k) = go l k

-- what agrees past a place agrees past a later one
rest_on : {A : Type 0} (x y : List A) (a b n : ℕ) → n ≡ a + b → drop a x ≡ drop a y → drop n x ≡ drop n y
rest_on {A} x y a b n e q =
    let back : (l : List A) → drop n l ≡ drop b (drop a l) = λ l. ap (λ (k : ℕ). drop k l) e ∙ sym (drop-drop b a l) in
    back x ∙ ap (drop b) q ∙ sym (back y)

-- one cell more
next_cell : (k s : ℕ) → (k + 1) * s ≡ k * s + s
next_cell k s = add-mul k 1 s ∙ ap (λ (n : ℕ). k * s + n) (one-mul s)

doubles-past : (c : ℕ) (w : List Float) (ns : List ℕ) (k : ℕ) (d : Dv) → There (length w) (length ns) c k
    → drop ((k + 1) * (c + 1)) (doubles_with c w ns k d) ≡ drop ((k + 1) * (c + 1)) w
unfolding doubles_with
doubles-past c w ns k d t =
    rw (there_is (length w) (length ns) c k t, next_cell k (c + 1)) (paste_rest w (doubles_of c d) (k * (c + 1)) (c + 1) t.room (doubles-long c d))

counts_past : (c : ℕ) (w : List Float) (ns : List ℕ) (k : ℕ) (d : Dv) → There (length w) (length ns) c k
    → drop (k + 1) (counts_with c w ns k d) ≡ drop (k + 1) ns
unfolding counts_with
counts_past c w ns k d t = rw (there_is (length w) (length ns) c k t) (set_rest ns k (min d.n c))

-- how many numbers rows have
rows_long : {A : Type 0} (M : List (List A)) (s : ℕ) → ((r : ℕ) → r < length M → length (get_or M r []) ≡ s) → length (flat M []) ≡ length M * s
unfolding flat
rows_long [] s h = sym (zero-mul s)
rows_long {A} (x ∷ M) s h =
    length-append x (flat M [])
    ∙ (λ i. h zero (omega arith) i + rows_long M s (λ r l. h (suc r) (omega arith)) i)
    ∙ add_comm s (length M * s)
    ∙ sym (suc-mul (length M) s)

-- room for a cell, and for a part of more
pub room_there : (c k : ℕ) (w : List Float) (ns : List ℕ) → Room c k 1 w ns → There (length w) (length ns) c k
room_there c k w ns r = record {
  narrow = r.narrow;
  low = omega (arith, r.few);
  byte = omega (arith, r.bytes);
  room = omega (arith, r.doubles, next_cell k (c + 1));
}

pub room_part : (c at n a j : ℕ) {w w' : List Float} {ns ns' : List ℕ} → Room c at n w ns → a + j ≤ at + n → length w' ≡ length w → length ns' ≡ length ns
    → Room c a j w' ns'
room_part c at n a j r h e q = record {
  narrow = r.narrow;
  few = omega (arith, r.few);
  bytes = omega (arith, r.bytes);
  doubles = let l = mul-le-mul_right (c + 1) h in omega (arith, r.doubles, l);
}

module _ (c : ℕ) where
  pub laid_none : (at : ℕ) (f : ℕ → Dv) (w : List Float) (ns : List ℕ) → Laid c at 0 f w ns w ns
  laid_none at f w ns = record { doubles = refl; bytes = refl; done = λ k h. absurd (omega arith); kept = λ i h. refl; past = refl; past_bytes = refl }

  pub laid_one : (w : List Float) (ns : List ℕ) (k : ℕ) (d : Dv) {w' : List Float} {ns' : List ℕ} → There (length w) (length ns) c k → Normal c d
      → w' ≡ doubles_with c w ns k d → ns' ≡ counts_with c w ns k d → Laid c k 1 (λ j. d) w ns w' ns'
  laid_one w ns k d t h e q = rw (e, q) (record {
    doubles = with_long c w ns k t d;
    bytes = counts-long c w ns k t d;
    done = λ j b. let z : k + j ≡ k = omega arith in rw z (with_same c w ns k t d h);
    kept = λ i b. with_other c w ns k t d i (λ z. absurd (omega arith));
    past = doubles-past c w ns k d t;
    past_bytes = counts_past c w ns k d t;
  })

  pub laid_join : (at n j : ℕ) (f g : ℕ → Dv) {w w₁ w₂ : List Float} {ns ns₁ ns₂ : List ℕ} → Laid c at n f w ns w₁ ns₁
      → Laid c (at + n) j g w₁ ns₁ w₂ ns₂ → ((k : ℕ) → k < j → g k ≡ f (n + k)) → Laid c at (n + j) f w ns w₂ ns₂
  laid_join at n j f g {w} {w₁} {w₂} {ns} {ns₁} {ns₂} a b e = record {
    doubles = b.doubles ∙ a.doubles;
    bytes = b.bytes ∙ a.bytes;
    done = λ k h. by_two (ltb k n)
        (λ q. let l = ltb-true k n q in b.kept (at + k) (omega arith) ∙ a.done k l)
        (λ q.
        let l = ltb-false k n q in
        let r : at + k ≡ at + n + (k - n) = omega arith in
        let s : n + (k - n) ≡ k = omega arith in
        ap (cell_at c w₂ ns₂) r ∙ b.done (k - n) (omega arith) ∙ e (k - n) (omega arith) ∙ ap f s);
    kept = λ i h. b.kept i (omega arith) ∙ a.kept i h;
    past = ap (λ (m : ℕ). drop (m * (c + 1)) w₂) (sym (add_assoc at n j)) ∙ b.past
        ∙ rest_on w₁ w ((at + n) * (c + 1)) (j * (c + 1)) _ (add-mul (at + n) j (c + 1)) a.past
        ∙ ap (λ (m : ℕ). drop (m * (c + 1)) w) (add_assoc at n j);
    past_bytes = ap (λ (m : ℕ). drop m ns₂) (sym (add_assoc at n j)) ∙ b.past_bytes ∙ rest_on ns₁ ns (at + n) j _ refl a.past_bytes
        ∙ ap (λ (m : ℕ). drop m ns) (add_assoc at n j);
  }

  -- the same numbers otherwise
  pub laid_same : (at n : ℕ) (f g : ℕ → Dv) {w w' : List Float} {ns ns' : List ℕ} → ((k : ℕ) → k < n → f k ≡ g k)
      → Laid c at n f w ns w' ns' → Laid c at n g w ns w' ns'
  laid_same at n f g e a =
      record { doubles = a.doubles; bytes = a.bytes; done = λ k h. a.done k h ∙ e k h; kept = a.kept; past = a.past; past_bytes = a.past_bytes }

  -- ---- with the verdict on them

  pub stored_none : (at : ℕ) (f : ℕ → Dv) (w : List Float) (ns : List ℕ) → Stored c at 0 f w ns w ns true
  stored_none at f w ns = record { laid = laid_none at f w ns; judged = every-none _ }

  pub stored_join : (at n j : ℕ) (f g : ℕ → Dv) {w w₁ w₂ : List Float} {ns ns₁ ns₂ : List ℕ} {p q fine : Bool} → Stored c at n f w ns w₁ ns₁ p
      → Stored c (at + n) j g w₁ ns₁ w₂ ns₂ q → ((k : ℕ) → k < j → g k ≡ f (n + k)) → fine ≡ (p && q) → Stored c at (n + j) f w ns w₂ ns₂ fine
  stored_join at n j f g a b e v = record {
    laid = laid_join at n j f g a.laid b.laid e;
    judged = v ∙ (λ t. a.judged t && (b.judged ∙ every_same j _ _ (λ k h. ap fine_dv (e k h))) t) ∙ sym (every_join n j (λ k. fine_dv (f k)));
  }

  -- the same numbers otherwise
  pub stored_as : (at n : ℕ) (f g : ℕ → Dv) {w w' : List Float} {ns ns' : List ℕ} {fine : Bool} → ((k : ℕ) → k < n → f k ≡ g k)
      → Stored c at n f w ns w' ns' fine → Stored c at n g w ns w' ns' fine
  stored_as at n f g e a = record { laid = laid_same at n f g e a.laid; judged = a.judged ∙ every_same n _ _ (λ k h. ap fine_dv (e k h)) }

  -- zeros are finite, and stand where the row has them
  pub blank_stored : (at n : ℕ) (f : ℕ → Dv) {w w' : List Float} {ns ns' : List ℕ} → Laid c at n (λ j. cst_dv zero64) w ns w' ns'
      → ((k : ℕ) → k < n → f k ≡ cst_dv zero64) → Stored c at n f w ns w' ns' true
  blank_stored at n f a e = record { laid = laid_same at n _ f (λ k h. sym (e k h)) a; judged = sym (all n _ (λ k h. ap fine_dv (e k h) ∙ zero_fine)) }

  -- no row yet
  pub laid_start : (s : ℕ) (f : ℕ → Dv) (w : List Float) (ns : List ℕ) → Laid c 0 (0 * s) f w ns w ns
  laid_start s f w ns = subst (λ (n : ℕ). Laid c 0 n f w ns w ns) (sym (zero-mul s)) (laid_none 0 f w ns)

  -- one row more
  pub laid-row : (m s r : ℕ) (M : List (List Dv)) {w w₁ w₂ : List Float} {ns ns₁ ns₂ : List ℕ} → Shaped m s M → r < m
      → Laid c 0 (r * s) (at1 dual (flat M [])) w ns w₁ ns₁ → Laid c (r * s) s (at1 dual (get_or M r [])) w₁ ns₁ w₂ ns₂
      → Laid c 0 ((r + 1) * s) (at1 dual (flat M [])) w ns w₂ ns₂
  laid-row m s r M {w} {w₁} {w₂} {ns} {ns₁} {ns₂} sh h a b =
      let z : r * s ≡ 0 + r * s = sym (zero-add (r * s)) in
      subst (λ (n : ℕ). Laid c 0 n (at1 dual (flat M [])) w ns w₂ ns₂) (sym (next_cell r s))
      (laid_join 0 (r * s) s (at1 dual (flat M [])) (at1 dual (get_or M r [])) a
      (subst (λ (k : ℕ). Laid c k s (at1 dual (get_or M r [])) w₁ ns₁ w₂ ns₂) z b)
      (λ k l. sym (read_cell [] (flat M []) r refl sh h k l dual.off)))

  -- the rows that are laid from the first cell on
  pub laid-rows : (m s : ℕ) (M : List (List Dv)) {w w' : List Float} {ns ns' : List ℕ} → Shaped m s M → Laid c 0 (m * s) (at1 dual (flat M [])) w ns w' ns'
      → rows_of m s (listed 0 (m * s) (cell_at c w' ns')) ≡ M
  laid-rows m s M {w} {w'} {ns} {ns'} sh a =
      let long : length (flat M []) ≡ m * s = rows_long M s (λ r l. sh.each r (omega (arith, sh.count))) ∙ ap (λ (k : ℕ). k * s) sh.count in
      ap (rows_of m s)
      (ext_get_or dual.off (listed 0 (m * s) (cell_at c w' ns')) (flat M []) (length-listed 0 (m * s) (cell_at c w' ns') ∙ sym long)
      (λ i h.
      let l : i < m * s = omega (arith, length-listed 0 (m * s) (cell_at c w' ns')) in
      nth_listed (m * s) i (cell_at c w' ns') dual.off l ∙ ap (cell_at c w' ns') (sym (zero-add i)) ∙ a.done i l))
      ∙ rows_of-flat [] sh
