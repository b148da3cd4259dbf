-- What a turn of each of the elimination's loops makes of the rows, over any scalar. Assumes nothing.
use mathlib.Core.Path.{◌≡◌, refl, sym, ap, ◌∙◌}
use mathlib.Core.Bool.{Bool, true}
use mathlib.Core.List.{List, []}
use Prim.Native.Nat.{ℕ, ◌+◌, ◌≤◌, ◌<◌}
use native.Mathlib.Omega.{arith}
use lib.ListN.{length, get_or, set}
use lib.Dec.{leb, ltb}
use lib.Ieee.{eq}
use borrow.Author.Tests.{lt-ltb, le-ltb, le-leb, lt-leb}
use Rattle.meaning.specs.Scalar.{Ops, zero64}
use Rattle.meaning.specs.Table.{at1}
use Rattle.meaning.specs.Search.{every}
use Rattle.solve.specs.Rows.{Shaped}
use Rattle.solve.specs.Left.{Becomes}
use Rattle.solve.specs.Pivot.{pivot}
use Rattle.solve.specs.Elimination.{less_by, less_at, subtracted, reduced, row_after, reduced_rows, exchanged, pivoted, column_done, eliminated}
use Rattle.solve.specs.Verdicts.{fine_at, reduced_ok, row_fine, reduced_rows_ok, column_ok}
use Rattle.meaning.proofs.Filling.{length-listed, nth_listed}
use Rattle.meaning.proofs.Every.{all}
use Rattle.solve.proofs.Lists.{blend, blend_next, blend_start, blend_get, length_cond, turns_next, turns_keep}
use Rattle.solve.proofs.Flat.{swapped_shaped}
use Rattle.solve.proofs.Pivots.{pivot_lt}

-- ---- a row t less f times the row p
module _ {A : Type 0} (o : Ops A) (n col : ℕ) (f : A) (p t : List A) where
  pub sub_length : length (subtracted o n col f p t) ≡ length t
  unfolding subtracted
  sub_length = length-listed 0 (length t) (less_at o n col f p t)

  pub sub_at : (k : ℕ) (d : A) → k < length t → get_or (subtracted o n col f p t) k d ≡ less_at o n col f p t k
  unfolding subtracted
  sub_at k d h = nth_listed (length t) k (less_at o n col f p t) d h

  pub sub_start : col ≤ length t → t ≡ blend col (subtracted o n col f p t) t
  unfolding less_at
  sub_start h =
      sym (blend_start (subtracted o n col f p t) t col o.off sub_length
      (λ i l. sub_at i o.off (omega arith) ∙ rw (lt-ltb i col l)))

  -- the number that the loop works out at k, where it has made u of t
  pub sub_value : (u : List A) (k : ℕ) (v : A) → u ≡ blend k (subtracted o n col f p t) t → col ≤ k → v ≡ less_by o (ltb k n) f (at1 o u k) (at1 o p k)
      → v ≡ less_at o n col f p t k
  unfolding less_at
  sub_value u k v e h q =
      let read : at1 o u k ≡ at1 o t k = rw e (blend_get (subtracted o n col f p t) t k o.off sub_length) in
      q ∙ ap (λ (x : A). less_by o (ltb k n) f x (at1 o p k)) read ∙ sym (rw (le-ltb k col h))

  pub sub_turn : (u : List A) (k : ℕ) (v : A) → u ≡ blend k (subtracted o n col f p t) t → k < length t → v ≡ less_at o n col f p t k
      → set u k v ≡ blend (k + 1) (subtracted o n col f p t) t
  sub_turn u k v e h w = blend_next (subtracted o n col f p t) t u k v o.off e sub_length h (w ∙ sym (sub_at k o.off h))

  pub fine_start : true ≡ every col (fine_at o n col f p t)
  unfolding fine_at
  fine_start = sym (all col (fine_at o n col f p t) (λ i l. rw (lt-ltb i col l)))

  pub fine-at : (k : ℕ) → col ≤ k → o.fine (less_at o n col f p t k) ≡ fine_at o n col f p t k
  unfolding fine_at
  fine-at k h = rw (le-ltb k col h)

-- ---- the rows below the pivot row p
module _ {A : Type 0} (o : Ops A) (n col : ℕ) (p : List A) where
  pub reduced-length : (t : List A) → length (reduced o n col p t) ≡ length t
  unfolding reduced
  reduced-length t =
      let f = o.over (at1 o t col) (at1 o p col) in
      length_cond (eq (o.val (at1 o t col)) zero64) t (subtracted o n col f p t) (length t) refl (sub_length o n col f p t)

  module _ (m : ℕ) (M : List (List A)) where
    pub rows-length : length (reduced_rows o m n col p M) ≡ m
    unfolding reduced_rows
    rows-length = length-listed 0 m (row_after o n col p M)

    pub rows_at : (r : ℕ) → r < m → get_or (reduced_rows o m n col p M) r [] ≡ row_after o n col p M r
    unfolding reduced_rows
    rows_at r h = nth_listed m r (row_after o n col p M) [] h

    pub row-above : (r : ℕ) → r ≤ col → row_after o n col p M r ≡ get_or M r []
    unfolding row_after
    row-above r h = rw (le-leb r col h)

    pub row_below : (r : ℕ) → col < r → row_after o n col p M r ≡ reduced o n col p (get_or M r [])
    unfolding row_after
    row_below r h = rw (lt-leb r col h)

    pub rows_start : col < m → length M ≡ m → M ≡ blend (col + 1) (reduced_rows o m n col p M) M
    rows_start h l =
        sym (blend_start (reduced_rows o m n col p M) M (col + 1) [] (rows-length ∙ sym l)
        (λ i g. rows_at i (omega arith) ∙ row-above i (omega arith)))

    -- the row that the loop reads at r is still M's
    pub rows-read : (r : ℕ) → length M ≡ m → get_or (blend r (reduced_rows o m n col p M) M) r [] ≡ get_or M r []
    rows-read r l = blend_get (reduced_rows o m n col p M) M r [] (rows-length ∙ sym l)

    pub rows_turn : (r : ℕ) → col < r → r < m → length M ≡ m
        → set (blend r (reduced_rows o m n col p M) M) r (reduced o n col p (get_or (blend r (reduced_rows o m n col p M) M) r [])) ≡ blend (r + 1) (reduced_rows o m n col p M) M
    rows_turn r h g l =
        blend_next (reduced_rows o m n col p M) M (blend r (reduced_rows o m n col p M) M) r _ [] refl (rows-length ∙ sym l) (omega arith)
        (ap (reduced o n col p) (rows-read r l) ∙ sym (rows_at r g ∙ row_below r h))

    pub rows_fine_start : true ≡ every (col + 1) (row_fine o n col p M)
    unfolding row_fine
    rows_fine_start = sym (all (col + 1) (row_fine o n col p M) (λ i g. rw (le-leb i col (omega arith))))

    pub rows-fine_at : (r : ℕ) → col < r → reduced_ok o n col p (get_or M r []) ≡ row_fine o n col p M r
    unfolding row_fine
    rows-fine_at r h = rw (lt-leb r col h)

    pub rows_shaped : (s : ℕ) → Shaped m s M → Shaped m s (reduced_rows o m n col p M)
    unfolding row_after
    rows_shaped s sh = record {
      count = rows-length;
      each = λ r h. ap length (rows_at r h) ∙ length_cond (leb r col) _ _ s (sh.each r h) (reduced-length (get_or M r []) ∙ sh.each r h);
    }

-- ---- the columns
module _ {A : Type 0} (o : Ops A) (m : ℕ) where
  pub pivoted_shaped : (s col : ℕ) (M : List (List A)) → col < m → Shaped m s M → Shaped m s (pivoted o m col M)
  unfolding pivoted
  pivoted_shaped s col M h sh = swapped_shaped M m s col (pivot o m col M) h (pivot_lt o m col M h) sh

  pub column_shaped : (s col : ℕ) (M : List (List A)) → col < m → Shaped m s M → Shaped m s (column_done o m col M)
  unfolding column_done
  column_shaped s col M h sh =
      let N = pivoted o m col M in
      rows_shaped o m col (get_or N col []) m N s (pivoted_shaped s col M h sh)

  pub eliminated-none : (M : List (List A)) → eliminated o m 0 M ≡ M
  unfolding eliminated
  eliminated-none M = refl

  pub eliminated_next : (n : ℕ) (M : List (List A)) → eliminated o m (n + 1) M ≡ column_done o m n (eliminated o m n M)
  unfolding eliminated
  eliminated_next n M = turns_next (column_done o m) n M

  pub eliminated_shaped : (s n : ℕ) (M : List (List A)) → n ≤ m → Shaped m s M → Shaped m s (eliminated o m n M)
  unfolding eliminated
  eliminated_shaped s n M h sh = turns_keep (column_done o m) (Shaped m s) m n M (λ k N l. column_shaped s k N l) h sh

-- ---- a column's step, by the row that a search found
pub column_comes : {A : Type 0} (o : Ops A) (m col : ℕ) (M : List (List A)) {best : ℕ} {N L : List (List A)} {q : Bool}
    → best ≡ pivot o m col M → N ≡ exchanged M col best
    → Becomes (λ K. reduced_rows o m m col (get_or K col []) K) (λ K. reduced_rows_ok o m m col (get_or K col []) K) N L q
    → Becomes (column_done o m col) (column_ok o m col) M L q
unfolding pivoted column_done column_ok
column_comes o m col M is e does =
    let moved = e ∙ ap (exchanged M col) is in (
      does.0 ∙ ap (λ (K : List (List _)). reduced_rows o m m col (get_or K col []) K) moved,
      does.1 ∙ ap (λ (K : List (List _)). reduced_rows_ok o m m col (get_or K col []) K) moved,
    )
