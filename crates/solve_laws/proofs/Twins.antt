-- Two rows that agree in every column are refused. Column by column the two stay alike, until one of them is the pivot row: then the other's
-- multiplier is 1, and what it leaves compares equal to 0 in every later column. Such a row is never a pivot row, since a pivot that
-- compares equal to 0 is refused; so it is left over once all columns are done, where no row is left. Assumes nothing.
use mathlib.Core.Path.{◌≡◌, refl, sym, ap, ◌∙◌, subst}
use mathlib.Core.Bool.{Bool, true, false, ◌&&◌, cond}
use mathlib.Core.List.{List, []}
use mathlib.Core.Logic.{◌⊎◌, inl, inr, ⊎_elim}
use Prim.Native.Nat.{ℕ, zero, suc, ◌+◌, ◌≤◌, ◌<◌}
use native.Mathlib.Nat.{le_refl, eq-or-lt_of_le}
use native.Mathlib.Numerals.{add-one}
use native.Mathlib.Omega.{arith}
use borrow.Author.Tests.{lt-ltb, le-ltb, eq-eqb, ne_eqb}
use lib.Dec.{T, eqb}
use lib.ListN.{length, get_or}
use lib.Ieee.{Float, nan, eq, sub, mul, div, binary64, fits}
use lib.Ieee.Fits.{cond-fits, sub-fits}
use lib.Ieee.Scale.{finite}
use Rattle.meaning.specs.Scalar.{plain, zero64}
use Rattle.meaning.specs.Table.{at1, at2}
use Rattle.solve.specs.Rows.{Shaped}
use Rattle.solve.specs.Pivot.{pivot}
use Rattle.solve.specs.Elimination.{less_at, subtracted, reduced, pivoted, column_done, eliminated}
use Rattle.solve.specs.Stored.{solved_ok}
use Rattle.solve.specs.Verdicts.{fine_at, subtracted_ok, reduced_ok, row_fine, reduced_rows_ok, column_ok}
use Rattle.meaning.proofs.Tests.{no, refuted, and_left, and_right}
use Rattle.meaning.proofs.Every.{each}
use Rattle.solve.proofs.Flat.{same, swapped-first, swapped_second, swapped_other}
use Rattle.solve.proofs.Pivots.{pivot_ge, pivot_lt}
use Rattle.solve.proofs.Steps.{sub_at, fine-at, rows_at, row_below, rows-fine_at, eliminated-none, eliminated_next, eliminated_shaped}
use Rattle.solve_laws.proofs.Zeros.{self_quotient, less_once}
use Rattle.solve_laws.proofs.Refused.{columns_fine, pivot_refused}

-- ---- one row under one pivot row

-- number j of a row once column c is eliminated: x and y are its own in the columns c and j, p and q the pivot row's
abbrev after : Float → Float → Float → Float → Float
after x y p q = cond (eq x zero64) y (sub binary64 y (mul binary64 (div binary64 x p) q))

module _ (m c : ℕ) (p t : List Float) (long : m ≤ length t) (j : ℕ) (g : c ≤ j) (h : j < m) where
  less_at_lem : (f : Float) → less_at plain m c f p t j ≡ sub binary64 (at1 plain t j) (mul binary64 f (at1 plain p j))
  unfolding less_at
  less_at_lem f = rw (le-ltb j c g, lt-ltb j m h)

  reduced-at : at1 plain (reduced plain m c p t) j ≡ after (at1 plain t c) (at1 plain t j) (at1 plain p c) (at1 plain p j)
  unfolding reduced
  reduced-at = by (eq (at1 plain t c) zero64)
    where
      by : (b : Bool) → at1 plain (cond b t (subtracted plain m c (div binary64 (at1 plain t c) (at1 plain p c)) p t)) j
          ≡ cond b (at1 plain t j) (sub binary64 (at1 plain t j) (mul binary64 (div binary64 (at1 plain t c) (at1 plain p c)) (at1 plain p j)))
      by true = refl
      by false = sub_at plain m c (div binary64 (at1 plain t c) (at1 plain p c)) p t j nan (omega arith) ∙ less_at_lem (div binary64 (at1 plain t c) (at1 plain p c))

  -- where it is not skipped: its multiplier and what it stores are finite
  module _ (n : eq (at1 plain t c) zero64 ≡ false) (ok : reduced_ok plain m c p t ≡ true) where
    abbrev f : Float
    f = div binary64 (at1 plain t c) (at1 plain p c)

    taken : (finite f && subtracted_ok plain m c f p t) ≡ true
    unfolding reduced_ok
    taken = rw n at ok

    multiplier_fine : finite f ≡ true
    multiplier_fine = and_left (finite f) (subtracted_ok plain m c f p t) taken

    stored_fine_lem : finite (sub binary64 (at1 plain t j) (mul binary64 f (at1 plain p j))) ≡ true
    unfolding subtracted_ok
    stored_fine_lem =
        ap finite (sym (less_at_lem f)) ∙ fine-at plain m c f p t j g
        ∙ each (length t) (fine_at plain m c f p t) (and_right (finite f) (subtracted_ok plain m c f p t) taken) j (omega arith)

-- what is left of y where the pivot row has the same numbers: x in column c, y here
left_over : (x y : Float) → eq x zero64 ≡ false → finite (div binary64 x x) ≡ true → T (fits binary64 y) → finite (sub binary64 y (mul binary64 (div binary64 x x) y)) ≡ true
    → eq (after x y x y) zero64 ≡ true
left_over x y n f d s = let e = self_quotient x n f in rw (n, e) (less_once y d (rw e at s))

-- ---- the rows that are still to be reduced, once c columns are done

record Twins (m c : ℕ) (D : List (List Float)) : Type 0 where
  a : ℕ
  b : ℕ
  a_ge : c ≤ a
  a_lt : a < m
  b_ge : c ≤ b
  b_lt : b < m
  apart : a ≡ b → ⊥
  equal : (j : ℕ) → c ≤ j → j < m → at2 plain D a j ≡ at2 plain D b j
  double : (j : ℕ) → c ≤ j → j < m → T (fits binary64 (at2 plain D a j))

-- a row of which nothing is left
record Spent (m c : ℕ) (D : List (List Float)) : Type 0 where
  a : ℕ
  a_ge : c ≤ a
  a_lt : a < m
  all : (j : ℕ) → c ≤ j → j < m → eq (at2 plain D a j) zero64 ≡ true

-- where a row other than p stands once the rows c and p are exchanged
unfoldable to : ℕ → ℕ → ℕ → ℕ
to c p a = cond (eqb a c) p a

by_to : (c p a : ℕ) (P : ℕ → Type 0) → (a ≡ c → P p) → ((a ≡ c → ⊥) → P a) → P (to c p a)
unfolding to
by_to c p a P h g = ⊎_elim (λ (e : a ≡ c). rw (eq-eqb a c e) (h e)) (λ (n : a ≡ c → ⊥). rw (ne_eqb a c n) (g n)) (same a c)

to-apart : (c p a b : ℕ) → (a ≡ p → ⊥) → (b ≡ p → ⊥) → to c p a ≡ to c p b → a ≡ b
to-apart c p a b h g = by_to c p a (λ k. k ≡ to c p b → a ≡ b)
    (λ q. by_to c p b (λ k. p ≡ k → a ≡ b) (λ r e. q ∙ sym r) (λ r e. absurd (g (sym e))))
    (λ q. by_to c p b (λ k. a ≡ k → a ≡ b) (λ r e. absurd (h e)) (λ r e. e))

-- ---- column c's step
module _ (m c : ℕ) (D : List (List Float)) (sh : Shaped m (m + 2) D) (C : c < m) where
  abbrev p : ℕ
  p = pivot plain m c D

  p_lt : p < m
  p_lt = pivot_lt plain m c D C

  -- a row a other than the pivot row
  module _ (a : ℕ) (g : c ≤ a) (h : a < m) (n : a ≡ p → ⊥) where
    to_lt : to c p a < m
    to_lt = by_to c p a (λ k. k < m) (λ e. p_lt) (λ e. h)

    to_ge : c + 1 ≤ to c p a
    to_ge = by_to c p a (λ k. c + 1 ≤ k) (λ e. past p (pivot_ge plain m c D C) (λ q. n (e ∙ q))) (λ e. past a g (λ q. e (sym q)))
      where
        past : (k : ℕ) → c ≤ k → (c ≡ k → ⊥) → c + 1 ≤ k
        past k l q = elim (eq-or-lt_of_le l) [ inl e ↦ absurd (q e) | inr e ↦ omega arith ]

    row-to : get_or (pivoted plain m c D) (to c p a) [] ≡ get_or D a []
    unfolding pivoted
    row-to = by_to c p a (λ k. get_or (pivoted plain m c D) k [] ≡ get_or D a [])
        (λ e. swapped_second D c p (omega (arith, sh.count)) (omega (arith, sh.count, p_lt)) ∙ ap (λ (k : ℕ). get_or D k []) (sym e))
        (λ e. swapped_other D c p (omega (arith, sh.count)) (omega (arith, sh.count, p_lt)) a e n)

    pivot-at : get_or (pivoted plain m c D) c [] ≡ get_or D p []
    unfolding pivoted
    pivot-at = swapped-first D c p (omega (arith, sh.count)) (omega (arith, sh.count, p_lt))

    -- what becomes of it, and that its numbers are finite
    row_done : get_or (column_done plain m c D) (to c p a) [] ≡ reduced plain m c (get_or D p []) (get_or D a [])
    unfolding column_done
    row_done =
        let N = pivoted plain m c D in
        rows_at plain m c (get_or N c []) m N (to c p a) to_lt ∙ row_below plain m c (get_or N c []) m N (to c p a) (omega (arith, to_ge))
        ∙ λ i. reduced plain m c (pivot-at i) (row-to i)

    row_fine_lem : column_ok plain m c D ≡ true → reduced_ok plain m c (get_or D p []) (get_or D a []) ≡ true
    unfolding column_ok reduced_rows_ok
    row_fine_lem ok =
        let N = pivoted plain m c D in
        sym (λ i. reduced_ok plain m c (pivot-at i) (row-to i))
        ∙ rows-fine_at plain m c (get_or N c []) m N (to c p a) (omega (arith, to_ge))
        ∙ each m (row_fine plain m c (get_or N c []) N) ok (to c p a) to_lt

    long : m ≤ length (get_or D a [])
    long = omega (arith, sh.each a h)

    number-done : (j : ℕ) → c + 1 ≤ j → j < m
        → at2 plain (column_done plain m c D) (to c p a) j ≡ after (at2 plain D a c) (at2 plain D a j) (at2 plain D p c) (at2 plain D p j)
    number-done j u v = ap (λ (t : List Float). get_or t j nan) row_done ∙ reduced-at m c (get_or D p []) (get_or D a []) long j (omega arith) v

  module _ (ok : column_ok plain m c D ≡ true) (Z : eq (at2 plain D p c) zero64 ≡ false) where
    spent_next : Spent m c D → Spent m (c + 1) (column_done plain m c D)
    spent_next z =
        let here = z.all c (le_refl c) C in
        let n : z.a ≡ p → ⊥ = λ e. no (sym (sym here ∙ ap (λ (k : ℕ). eq (at2 plain D k c) zero64) e ∙ Z)) in
        record {
          a = to c p z.a;
          a_ge = to_ge z.a z.a_ge z.a_lt n;
          a_lt = to_lt z.a z.a_ge z.a_lt n;
          all = λ j u v. rw (number-done z.a z.a_ge z.a_lt n j u v, here) (z.all j (omega arith) v);
        }

    -- row b has the pivot row's numbers
    spends : (b : ℕ) → c ≤ b → b < m → (b ≡ p → ⊥) → ((j : ℕ) → c ≤ j → j < m → at2 plain D p j ≡ at2 plain D b j)
        → ((j : ℕ) → c ≤ j → j < m → T (fits binary64 (at2 plain D b j))) → Spent m (c + 1) (column_done plain m c D)
    spends b g h n e d =
        let x = at2 plain D b c in
        let Zb : eq x zero64 ≡ false = ap (λ (z : Float). eq z zero64) (sym (e c (le_refl c) C)) ∙ Z in
        let fine = row_fine_lem b g h n ok in
        record {
          a = to c p b;
          a_ge = to_ge b g h n;
          a_lt = to_lt b g h n;
          all = λ j u v.
              let y = at2 plain D b j in
              let w : c ≤ j = omega arith in
              ap (λ (z : Float). eq z zero64) (number-done b g h n j u v ∙ λ i. after x y (e c (le_refl c) C i) (e j w v i))
              ∙ left_over x y Zb
              (ap (λ (z : Float). finite (div binary64 x z)) (sym (e c (le_refl c) C)) ∙ multiplier_fine m c (get_or D p []) (get_or D b []) (long b g h n) j w v Zb fine)
              (d j w v)
              (sym (λ i. finite (sub binary64 y (mul binary64 (div binary64 x (e c (le_refl c) C i)) (e j w v i)))) ∙ stored_fine_lem m c (get_or D p []) (get_or D b []) (long b g h n) j w v Zb fine);
        }

    twins_next : Twins m c D → Twins m (c + 1) (column_done plain m c D) ⊎ Spent m (c + 1) (column_done plain m c D)
    twins_next t = ⊎_elim
        (λ (e : t.a ≡ p). inr (spends t.b t.b_ge t.b_lt (λ q. t.apart (e ∙ sym q)) (λ j u v. ap (λ (k : ℕ). at2 plain D k j) (sym e) ∙ t.equal j u v)
        (λ j u v. subst (λ (z : Float). T (fits binary64 z)) (t.equal j u v) (t.double j u v))))
        (λ (n : t.a ≡ p → ⊥). ⊎_elim
        (λ (e : t.b ≡ p). inr (spends t.a t.a_ge t.a_lt n (λ j u v. ap (λ (k : ℕ). at2 plain D k j) (sym e) ∙ sym (t.equal j u v)) t.double))
        (λ (q : t.b ≡ p → ⊥). inl (record {
          a = to c p t.a;
          b = to c p t.b;
          a_ge = to_ge t.a t.a_ge t.a_lt n;
          a_lt = to_lt t.a t.a_ge t.a_lt n;
          b_ge = to_ge t.b t.b_ge t.b_lt q;
          b_lt = to_lt t.b t.b_ge t.b_lt q;
          apart = λ e. t.apart (to-apart c p t.a t.b n q e);
          equal = λ j u v. number-done t.a t.a_ge t.a_lt n j u v
              ∙ (λ i. after (t.equal c (le_refl c) C i) (t.equal j (omega arith) v i) (at2 plain D p c) (at2 plain D p j))
              ∙ sym (number-done t.b t.b_ge t.b_lt q j u v);
          double = λ j u v. rw (number-done t.a t.a_ge t.a_lt n j u v)
              (cond-fits binary64 (eq (at2 plain D t.a c) zero64) (at2 plain D t.a j) _ (t.double j (omega arith) v) (sub-fits binary64 (at2 plain D t.a j) _));
        }))
        (same t.b p))
        (same t.a p)

-- ---- the whole elimination, where it is accepted
module _ (m : ℕ) (M : List (List Float)) (sh : Shaped m (m + 2) M) (ok : solved_ok plain m M ≡ true) where
  not_zero : (c : ℕ) → c < m → eq (at2 plain (eliminated plain m c M) (pivot plain m c (eliminated plain m c M)) c) zero64 ≡ false
  not_zero c h = refuted _ (λ z. no (sym (pivot_refused m M sh c h z) ∙ ok))

  reaches : (n : ℕ) → n ≤ m → Twins m 0 M → Twins m n (eliminated plain m n M) ⊎ Spent m n (eliminated plain m n M)
  reaches zero h t = rw (eliminated-none plain m M) (inl t)
  reaches (suc n) h t =
      let E = eliminated plain m n M in
      let shE = eliminated_shaped plain m (m + 2) n M (omega arith) sh in
      rw (← add-one n, eliminated_next plain m n M) (⊎_elim
      (λ (u : Twins m n E). twins_next m n E shE h (columns_fine plain m M sh ok n h) (not_zero n h) u)
      (λ (z : Spent m n E). inr (spent_next m n E shE h (columns_fine plain m M sh ok n h) (not_zero n h) z))
      (reaches n (omega arith) t))

  none : Twins m 0 M → ⊥
  none t = ⊎_elim
      (λ (u : Twins m m (eliminated plain m m M)). out u.a u.a_ge u.a_lt)
      (λ (z : Spent m m (eliminated plain m m M)). out z.a z.a_ge z.a_lt)
      (reaches m (le_refl m) t)
    where
      out : (a : ℕ) → m ≤ a → a < m → ⊥
      out a h g = omega arith

-- two rows below m, the same in every column; of their numbers it asks that they are doubles, finite or not
pub twins_refused : (m : ℕ) (M : List (List Float)) → Shaped m (m + 2) M → (a b : ℕ) → a < m → b < m → (a ≡ b → ⊥)
    → ((j : ℕ) → j < m → at2 plain M a j ≡ at2 plain M b j) → ((j : ℕ) → j < m → T (fits binary64 (at2 plain M a j))) → solved_ok plain m M ≡ false
twins_refused m M sh a b h g n e d =
    refuted (solved_ok plain m M) (λ ok. none m M sh ok (record {
      a = a;
      b = b;
      a_ge = omega arith;
      a_lt = h;
      b_ge = omega arith;
      b_lt = g;
      apart = n;
      equal = λ j u v. e j v;
      double = λ j u v. d j v;
    }))
