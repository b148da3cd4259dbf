-- The rows of the system: from what the code reads of a span, and as they make up the definition's. Assumes nothing.
use mathlib.Core.Path.{◌≡◌, refl, sym, ap, ◌∙◌, subst}
use mathlib.Core.Bool.{Bool, true, false, ◌&&◌, and-true}
use mathlib.Core.List.{List, [], flatten}
use Prim.Native.Nat.{ℕ, ◌+◌, ◌-◌, ◌*◌, ◌≤◌, ◌<◌}
use borrow.Author.Tests.{eqb-true, eqb-false, leb-true, leb-false, eq-eqb, ne_eqb, le-leb, lt-leb}
use lib.Dec.{eqb, leb}
use native.Mathlib.Nat.{zero-add}
use native.Mathlib.Omega.{arith}
use lib.ListN.{length, get_or}
use lib.Ieee.{Float}
use Rattle.meaning.specs.Scalar.{Ops, zero64, one64}
use Rattle.meaning.specs.Table.{at1}
use Rattle.meaning.specs.Search.{every}
use Rattle.meaning.proofs.Tests.{no, by_two}
use Rattle.meaning.proofs.Every.{every_same}
use Rattle.meaning.proofs.Filling.{nth_listed}
use Rattle.partials.specs.declared.Dv.{Dv}
use Rattle.partials.specs.Dual.{cst_dv, fine_dv, dual}
use Rattle.span.specs.Counting.{counted_of}
use Rattle.basis.specs.Basis.{derivatives_of, basis_of, window}
use Rattle.basis.proofs.Window.{basis_window}
use Rattle.solve.specs.Rows.{Shaped}
use Rattle.solve.specs.Stored.{all_fine}
use Rattle.solve.proofs.Stored.{fine-flat, fine-each}
use Rattle.plane.specs.Vector.{Vector}
use Rattle.fit.specs.Parameters.{point_at}
use Rattle.fit.specs.System.{origin, spread, with_sides, row_at, row_of, fit_row, fit_rows}
use Rattle.fit.proofs.Rows.{fit_row-at, fit_rows_shaped}
use Rattle.fit.proofs.Spread.{column_is, elsewhere, sides_are}
use Rattle.fit_partials.specs.Variables.{variables_of}
use Rattle.fit_partials.specs.Stored.{Laid, Stored, side_of, found_row, found_fit_row, found_fit_rows, of_point, station_of, span_row}
use Rattle.fit_partials.proofs.Laid.{laid_same, stored_join, blank_stored}

-- the four numbers of a span, spread over a row, are the definition's row
pub four-row : {A : Type 0} (o : Ops A) (sp : Float → ℕ) (ks : List A) (t : A) (d : ℕ) {i : ℕ} {six : List A} {ders : List (List A)}
    → i ≡ sp (o.val t) → 3 ≤ i → i ≤ 65 → six ≡ window o ks i → ders ≡ derivatives_of o six 2 t d → spread o (get_or ders d []) i ≡ row_at o sp ks t d
unfolding row_at
four-row {A} o sp ks t d {i} {six} {ders} e g h w b =
    let rows : ders ≡ basis_of o ks i t d = b ∙ ap (λ (l : List A). derivatives_of o l 2 t d) w ∙ basis_window o ks i t d g h in
    ap (λ (r : List (List A)). spread o (get_or r d []) i) rows ∙ ap (λ (j : ℕ). spread o (get_or (basis_of o ks j t d) d []) j) e

-- number k of a row
pub row_number : (ks : List Dv) (us : List Float) (m : ℕ) (t : Dv) (d : ℕ) (b : Vector Dv) (k : ℕ) → k < m + 2
    → with_sides dual m (row_at dual (counted_of us m) ks t d) b k ≡ at1 dual (found_row ks us m t d b) k
unfolding found_row row_of
row_number ks us m t d b k h = sym (nth_listed (m + 2) k (with_sides dual m (row_at dual (counted_of us m) ks t d) b) dual.off h)

module _ (ks : List Dv) (us : List Float) (ps : List Dv) (q : List Float) (n : ℕ) where
  pub found-row_at : (r : ℕ) → r < n + 2 → get_or (found_fit_rows ks us ps q n) r [] ≡ found_fit_row ks us ps q n r
  unfolding found_fit_rows found_fit_row
  found-row_at = fit_row-at dual (counted_of us (n + 2)) ks (at1 dual ps) (variables_of q) n

  pub found_shaped : Shaped (n + 2) (n + 2 + 2) (found_fit_rows ks us ps q n)
  unfolding found_fit_rows
  found_shaped = fit_rows_shaped dual (counted_of us (n + 2)) ks (at1 dual ps) (variables_of q) n

  pub found-verdict : every (n + 2) (λ r. all_fine dual (found_fit_row ks us ps q n r)) ≡ all_fine dual (flatten (found_fit_rows ks us ps q n))
  unfolding found_fit_rows found_fit_row fit_rows
  found-verdict =
      let row = fit_row dual (counted_of us (n + 2)) ks (at1 dual ps) (variables_of q) n in
      sym (fine-flat dual 0 (n + 2) row ∙ every_same (n + 2) _ _ (λ r l. ap (λ (k : ℕ). all_fine dual (row k)) (zero-add r)))

  -- the verdict on a row, index by index
  row-verdict : (r : ℕ) → r < n + 2 → all_fine dual (found_fit_row ks us ps q n r) ≡ every (n + 2 + 2) (λ k. fine_dv (at1 dual (found_fit_row ks us ps q n r) k))
  row-verdict r h =
      fine-each dual (found_fit_row ks us ps q n r)
      ∙ ap (λ (k : ℕ). every k (λ i. fine_dv (at1 dual (found_fit_row ks us ps q n r) i))) (ap length (sym (found-row_at r h)) ∙ found_shaped.each r h)

  -- ---- each row
  module _ (r : ℕ) {t : Dv} where
    first-row : r ≡ 0 → t ≡ dual.cst zero64 → found_row ks us (n + 2) t 2 (origin dual) ≡ found_fit_row ks us ps q n r
    unfolding found_row found_fit_row fit_row
    first-row e z = rw (eq-eqb r 0 e, z)

    point_row : (r ≡ 0 → ⊥) → r ≤ n → t ≡ at1 dual ps (r - 1) → found_row ks us (n + 2) t 0 (point_at dual (variables_of q) (r - 1)) ≡ found_fit_row ks us ps q n r
    unfolding found_row found_fit_row fit_row
    point_row g h e = rw (ne_eqb r 0 g, le-leb r n h, e)

    last_row : (r ≡ 0 → ⊥) → n < r → t ≡ dual.cst one64 → found_row ks us (n + 2) t 2 (origin dual) ≡ found_fit_row ks us ps q n r
    unfolding found_row found_fit_row fit_row
    last_row g h e = rw (ne_eqb r 0 g, lt-leb r n h, e)

  -- from what the code reads for it: the span of t, and its six knots
  module _ (r : ℕ) {six : List Dv} {i : ℕ} (t : Dv) (e : i ≡ counted_of us (n + 2) t.v) (low : 3 ≤ i) (high : i ≤ 65) (w : six ≡ window dual ks i) where
    span-number : (d : ℕ) (b : Vector Dv) (k : ℕ) → k < n + 2 + 2
        → with_sides dual (n + 2) (spread dual (get_or (derivatives_of dual six 2 t d) d []) i) b k ≡ at1 dual (found_row ks us (n + 2) t d b) k
    span-number d b k h =
        ap (λ (g : ℕ → Dv). with_sides dual (n + 2) g b k) (four-row dual (counted_of us (n + 2)) ks t d e low high w refl)
        ∙ row_number ks us (n + 2) t d b k h

    pub span-row : at1 dual ps 0 ≡ dual.cst zero64 → at1 dual ps (n - 1) ≡ dual.cst one64 → t ≡ at1 dual ps (station_of n r) → (k : ℕ) → k < n + 2 + 2
        → span_row six i t q n r k ≡ at1 dual (found_fit_row ks us ps q n r) k
    unfolding span_row
    span-row first last at k h =
        by_two (eqb r 0)
        (λ z.
        let row = first-row r (eqb-true r 0 z) (at ∙ rw z first) in
        rw z (span-number 2 (origin dual) k h ∙ ap (λ (l : List Dv). at1 dual l k) row))
        (λ z.
        by_two (leb r n)
        (λ y.
        let row = point_row r (eqb-false r 0 z) (leb-true r n y) (at ∙ rw (z, y)) in
        rw (z, y) (span-number 0 (point_at dual (variables_of q) (r - 1)) k h ∙ ap (λ (l : List Dv). at1 dual l k) row))
        (λ y.
        let row = last_row r (eqb-false r 0 z) (leb-false r n y) (at ∙ rw (z, y) last) in
        rw (z, y) (span-number 2 (origin dual) k h ∙ ap (λ (l : List Dv). at1 dual l k) row)))

-- row r of the system as it is stored, with the verdict on it
pub row-found : (c n r : ℕ) (ks : List Dv) (us : List Float) (ps : List Dv) (q : List Float) {w w' : List Float} {ns ns' : List ℕ} {fine : Bool}
    → r < n + 2 → Stored c (r * (n + 2 + 2)) (n + 2 + 2) (at1 dual (found_fit_row ks us ps q n r)) w ns w' ns' fine
    → Laid c (r * (n + 2 + 2)) (n + 2 + 2) (at1 dual (get_or (found_fit_rows ks us ps q n) r [])) w ns w' ns' × (fine ≡ all_fine dual (found_fit_row ks us ps q n r))
row-found c n r ks us ps q high stored =
    let whole = found-row_at ks us ps q n r high in (
      laid_same c (r * (n + 2 + 2)) (n + 2 + 2) _ _ (λ k h. ap (λ (l : List Dv). at1 dual l k) (sym whole)) stored.laid,
      stored.judged ∙ sym (row-verdict ks us ps q n r high),
    )

-- ---- which row is one of a point, and the row of either kind

pub of_point_lem : (n r : ℕ) → of_point n r ≡ true → (r ≡ 0 → ⊥) × (r ≤ n)
of_point_lem n r h =
    by_two (eqb r 0) (λ z. absurd (no (rw z at h)))
    (λ z. (eqb-false r 0 z, leb-true r n (rw z at h)))

module _ (six : List Dv) (i : ℕ) (t : Dv) (q : List Float) (n r : ℕ) {four : List Dv} {b : Vector Dv} where
  pub point_numbers : of_point n r ≡ true → four ≡ get_or (derivatives_of dual six 2 t 0) 0 [] → b ≡ point_at dual (variables_of q) (r - 1)
      → (k : ℕ) → with_sides dual (n + 2) (spread dual four i) b k ≡ span_row six i t q n r k
  unfolding span_row
  point_numbers h f e k = rw (h, f, e) refl

  pub end_numbers : of_point n r ≡ false → four ≡ get_or (derivatives_of dual six 2 t 2) 2 [] → b ≡ origin dual
      → (k : ℕ) → with_sides dual (n + 2) (spread dual four i) b k ≡ span_row six i t q n r k
  unfolding span_row
  end_numbers h f e k = rw (h, f, e) refl

-- ---- the cells of a row: blank ones, four numbers in the columns a to a + 3, blank ones again, and the right sides
module _ (c at a m : ℕ) (four : List Dv) (b : Vector Dv) (high : a + 3 < m) where
  abbrev row : ℕ → Dv
  row = with_sides dual m (spread dual four (a + 3)) b

  side_is : (k : ℕ) → side_of b k ≡ row (m + k)
  side_is k =
      by_two (eqb k 0)
      (λ t. let e : m + k ≡ m = omega (arith, eqb-true k 0 t) in rw (t, eq-eqb (m + k) m e) refl)
      (λ t. let g : m + k ≡ m → ⊥ = λ e. eqb-false k 0 t (omega arith) in rw (t, ne_eqb (m + k) m g) refl)
      ∙ sym (sides_are dual four a m b high (m + k) (omega arith))

  pub row_stored : {i : ℕ} {w w₁ w₂ w₃ w₄ : List Float} {ns ns₁ ns₂ ns₃ ns₄ : List ℕ} {p q fine : Bool} → a + 3 ≡ i → Laid c at a (λ j. cst_dv zero64) w ns w₁ ns₁
      → Stored c (at + a) 4 (at1 dual four) w₁ ns₁ w₂ ns₂ p → Laid c (at + (a + 4)) (m - (a + 4)) (λ j. cst_dv zero64) w₂ ns₂ w₃ ns₃
      → Stored c (at + m) 2 (side_of b) w₃ ns₃ w₄ ns₄ q → fine ≡ (p && q) → Stored c at (m + 2) (with_sides dual m (spread dual four i) b) w ns w₄ ns₄ fine
  row_stored {i} {w} {w₁} {w₂} {w₃} {w₄} {ns} {ns₁} {ns₂} {ns₃} {ns₄} {p} {q} {fine} span front four-in back sides verdict =
      let blank = elsewhere dual four a m b high in
      let first = blank_stored c at a row front (λ k h. blank k (omega arith) (λ j l e. omega arith)) in
      let second = stored_join c at a 4 row (at1 dual four) first four-in (λ k h. sym (column_is dual four a m b high (a + k) k (omega arith) refl)) refl in
      let rest = blank_stored c (at + (a + 4)) (m - (a + 4)) (λ k. row (a + 4 + k)) back (λ k h. blank (a + 4 + k) (omega arith) (λ j l e. omega arith)) in
      let third = stored_join c at (a + 4) (m - (a + 4)) row (λ k. row (a + 4 + k)) second rest (λ k h. refl) (sym (and-true p)) in
      let e : a + 4 + (m - (a + 4)) ≡ m = omega arith in
      let whole = stored_join c at m 2 row (side_of b) (subst (λ (n : ℕ). Stored c at n row w ns w₃ ns₃ p) e third) sides (λ k h. side_is k) verdict in
      subst (λ (j : ℕ). Stored c at (m + 2) (with_sides dual m (spread dual four j) b) w ns w₄ ns₄ fine) span whole
