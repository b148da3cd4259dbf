-- A pivot that compares equal to 0 is refused: its row stays as it is to the end, and the answers of that row are products with 1 over it, which is not finite.
-- Assumes nothing.
use mathlib.Core.Path.{◌≡◌, refl, sym, ap, ◌∙◌}
use mathlib.Core.Bool.{true, false, ◌&&◌}
use mathlib.Core.List.{List, []}
use mathlib.Core.Logic.{inl, inr, ⊎_elim}
use Prim.Native.Nat.{ℕ, zero, suc, ◌+◌, ◌-◌, ◌≤◌, ◌<◌}
use native.Mathlib.Nat.{le_refl, le_of_suc-le-suc, not-suc-le-zero, eq-or-lt_of_le}
use native.Mathlib.Numerals.{add-one}
use native.Mathlib.Omega.{arith}
use lib.ListN.{length, get_or, set, length-set}
use lib.Seq.{get_or-set_same, get_or-set_other}
use lib.Ieee.{Float, nan, eq, div, binary64}
use lib.Ieee.Scale.{finite}
use Rattle.meaning.specs.Scalar.{Ops, plain, zero64, one64}
use Rattle.meaning.specs.Table.{at2}
use Rattle.solve.specs.Rows.{Shaped}
use Rattle.solve.specs.Pivot.{pivot}
use Rattle.solve.specs.Elimination.{pivoted, column_done, eliminated}
use Rattle.solve.specs.Substitution.{remains, answer, answered, answered_up, backed}
use Rattle.solve.specs.Stored.{solved_ok}
use Rattle.solve.specs.Verdicts.{column_ok, eliminated_ok, answered_ok, answered_up_ok, backed_ok}
use Rattle.meaning.proofs.Tests.{no, refuted, and_left, and_right}
use Rattle.meaning.proofs.Every.{each}
use Rattle.solve.proofs.Lists.{turns_keep}
use Rattle.solve.proofs.Flat.{same, swapped-first, swapped_other}
use Rattle.solve.proofs.Pivots.{pivot_ge, pivot_lt}
use Rattle.solve.proofs.Steps.{rows_at, row-above, eliminated_next, eliminated_shaped}
use Rattle.solve.proofs.Stored.{solved_along}
use Rattle.solve_laws.proofs.Zeros.{over_zero, times_wild}

module _ {A : Type 0} (o : Ops A) (m s : ℕ) where
  -- ---- the rows that column c's step leaves: the pivot row, which comes to stand at c, and those above it
  module _ (M : List (List A)) (sh : Shaped m s M) (c : ℕ) (C : c < m) where
    above : (r : ℕ) → r ≤ c → get_or (column_done o m c M) r [] ≡ get_or (pivoted o m c M) r []
    unfolding column_done
    above r h =
        let N = pivoted o m c M in
        rows_at o m c (get_or N c []) m N r (omega arith) ∙ row-above o m c (get_or N c []) m N r h

    pivot-row : get_or (column_done o m c M) c [] ≡ get_or M (pivot o m c M) []
    unfolding pivoted
    pivot-row = above c (le_refl c) ∙ swapped-first M c (pivot o m c M) (omega (arith, sh.count)) (omega (arith, sh.count, pivot_lt o m c M C))

    row_kept : (r : ℕ) → r < c → get_or (column_done o m c M) r [] ≡ get_or M r []
    unfolding pivoted
    row_kept r h =
        above r (omega arith)
        ∙ swapped_other M c (pivot o m c M) (omega (arith, sh.count)) (omega (arith, sh.count, pivot_lt o m c M C)) r (λ e. omega arith) (λ e. omega (arith, pivot_ge o m c M C))

  module _ (M : List (List A)) (sh : Shaped m s M) where
    -- row c once its column is done
    pub finished : (c n : ℕ) → c < n → n ≤ m → get_or (eliminated o m n M) c [] ≡ get_or (eliminated o m c M) (pivot o m c (eliminated o m c M)) []
    finished c zero h l = absurd (not-suc-le-zero h)
    finished c (suc n) h l =
        let E = eliminated o m n M in
        let shE = eliminated_shaped o m s n M (omega arith) sh in
        rw (← add-one n, eliminated_next o m n M) (elim (eq-or-lt_of_le (le_of_suc-le-suc h)) [
          | inl e ↦ rw e (pivot-row E shE n l)
          | inr g ↦ row_kept E shE n l c g ∙ finished c n g (omega arith)
        ])

    -- ---- back substitution stores right sides only
    pub matrix_kept : (i k n : ℕ) → k < m → n ≤ m → at2 o (backed o m n M) i k ≡ at2 o M i k
    unfolding backed answered
    matrix_kept i k n h l = (turns_keep (answered_up o m) (λ N. (length N ≡ m) × (at2 o N i k ≡ at2 o M i k)) m n M step l (sh.count, refl)).1
      where
        step : (j : ℕ) (N : List (List A)) → j < m → (length N ≡ m) × (at2 o N i k ≡ at2 o M i k)
            → (length (answered_up o m j N) ≡ m) × (at2 o (answered_up o m j N) i k ≡ at2 o M i k)
        step j N g p =
            let r = m - 1 - j in
            let x = answer o N r m r j in
            let y = answer o N r (m + 1) r j in
            let R = set (set (get_or N r []) m x) (m + 1) y in (
              length-set N r R ∙ p.0,
              ⊎_elim
                  (λ (e : i ≡ r). ap (λ (t : List A). get_or t k o.off) (ap (λ (q : ℕ). get_or (set N r R) q []) e ∙ get_or-set_same N r R [] (omega (arith, p.0)))
                  ∙ get_or-set_other (set (get_or N r []) m x) (m + 1) k y o.off (λ q. omega arith) ∙ get_or-set_other (get_or N r []) m k x o.off (λ q. omega arith)
                  ∙ ap (λ (q : ℕ). at2 o N q k) (sym e))
                  (λ (e : i ≡ r → ⊥). ap (λ (t : List A). get_or t k o.off) (get_or-set_other N r i R [] e))
                  (same i r) ∙ p.1,
            )

-- ---- what an accepted solve says of every column and of every row
module _ {A : Type 0} (o : Ops A) (m : ℕ) (M : List (List A)) (sh : Shaped m (m + 2) M) (ok : solved_ok o m M ≡ true) where
  along : (eliminated_ok o m m M && backed_ok o m m (eliminated o m m M)) ≡ true
  along = sym (solved_along o m M sh) ∙ ok

  pub columns_fine : (c : ℕ) → c < m → column_ok o m c (eliminated o m c M) ≡ true
  unfolding eliminated_ok
  columns_fine = each m (λ c. column_ok o m c (eliminated o m c M)) (and_left (eliminated_ok o m m M) (backed_ok o m m (eliminated o m m M)) along)

  pub answers_fine : (i : ℕ) → i < m → answered_up_ok o m i (backed o m i (eliminated o m m M)) ≡ true
  unfolding backed_ok
  answers_fine = each m (λ i. answered_up_ok o m i (backed o m i (eliminated o m m M))) (and_right (eliminated_ok o m m M) (backed_ok o m m (eliminated o m m M)) along)

answer_wild : (M : List (List Float)) (r c d n : ℕ) → eq (at2 plain M r d) zero64 ≡ true → finite (answer plain M r c d n) ≡ false
unfolding answer
answer_wild M r c d n h = times_wild (remains plain M r c d n) (div binary64 one64 (at2 plain M r d)) (over_zero one64 (at2 plain M r d) h)

-- a pivot that compares equal to 0
pub pivot_refused : (m : ℕ) (M : List (List Float)) → Shaped m (m + 2) M → (c : ℕ) → c < m
    → eq (at2 plain (eliminated plain m c M) (pivot plain m c (eliminated plain m c M)) c) zero64 ≡ true → solved_ok plain m M ≡ false
unfolding answered_ok
pivot_refused m M sh c C z = refuted (solved_ok plain m M) (λ ok.
    let E = eliminated plain m m M in
    let i = m - 1 - c in
    let N = backed plain m i E in
    let r : m - 1 - i ≡ c = omega arith in
    let at : at2 plain N (m - 1 - i) (m - 1 - i) ≡ at2 plain (eliminated plain m c M) (pivot plain m c (eliminated plain m c M)) c =
    ap (λ (k : ℕ). at2 plain N k k) r
    ∙ matrix_kept plain m (m + 2) E (eliminated_shaped plain m (m + 2) m M (le_refl m) sh) c c i C (omega arith)
    ∙ ap (λ (t : List Float). get_or t c nan) (finished plain m (m + 2) M sh c m C (le_refl m)) in
    no
    (sym (answer_wild N (m - 1 - i) m (m - 1 - i) i (ap (λ (x : Float). eq x zero64) at ∙ z))
    ∙ and_left (finite (answer plain N (m - 1 - i) m (m - 1 - i) i)) (finite (answer plain N (m - 1 - i) (m + 1) (m - 1 - i) i)) (answers_fine plain m M sh ok i (omega arith))))
