-- Of each column one row has the pivot, and no other: the row that a loop finds has it. Assumes nothing.
use mathlib.Core.Path.{◌≡◌, refl, sym, ap, ◌∙◌, subst}
use mathlib.Core.Bool.{true, not}
use mathlib.Core.List.{List}
use mathlib.Core.Logic.{inl, inr}
use Prim.Native.Nat.{ℕ, zero, suc, ◌+◌, ◌-◌, ◌≤◌, ◌<◌}
use native.Mathlib.Nat.{eq-or-lt_of_le}
use native.Mathlib.Omega.{arith}
use borrow.Author.Tests.{ltb-true, ltb-false, leb-false, le-ltb, lt-leb}
use lib.Dec.{leb, ltb}
use lib.Ieee.{Float}
use Rattle.meaning.specs.Scalar.{Ops}
use Rattle.meaning.specs.Number.{smaller, at_least}
use Rattle.meaning.specs.Loops.{turns, run}
use Rattle.meaning.specs.Table.{at2}
use Rattle.meaning.proofs.Tests.{no, refuted, by_two}
use Rattle.meaning.proofs.Every.{all, each}
use Rattle.meaning.proofs.Searching.{seek_is}
use Rattle.meaning.proofs.Sizes.{at_least_refl, at_least_total, at_least_trans}
use Rattle.solve.specs.Best.{better, best_among}
use Rattle.solve.specs.Pivot.{gives_way, has_pivot, pivot}

module _ {A : Type 0} (o : Ops A) where
  -- the number in row p and column col is at least that in row r, by size
  abbrev pub as_great : ℕ → List (List A) → ℕ → ℕ → Type 0
  as_great col M p r = at_least (o.val (at2 o M p col)) (o.val (at2 o M r col)) ≡ true

  -- row p of m has the pivot of column col: from the diagonal down no entry is greater in size, and none after it as great
  pub record Pivot (m col : ℕ) (M : List (List A)) (p : ℕ) : Type 0 where
    pub from : col ≤ p
    pub within : p < m
    pub greatest : (r : ℕ) → col ≤ r → r < m → as_great col M p r
    pub last : (r : ℕ) → p < r → r < m → as_great col M r p → ⊥

-- ---- a loop over the rows
module _ {A : Type 0} (o : Ops A) (col : ℕ) (M : List (List A)) where
  abbrev size : ℕ → Float
  size r = o.val (at2 o M r col)

  -- the last row of n + 1, or one of the n before it
  last_or : (n : ℕ) (P : ℕ → Type 0) → P n → ((r : ℕ) → r < n → P r) → (r : ℕ) → r < n + 1 → P r
  last_or n P e h r l = elim (eq-or-lt_of_le l) [ inl q ↦ (let z : r ≡ n = omega arith in rw z e) | inr q ↦ h r (omega arith) ]

  -- the first n rows have their pivot in row b: what comes of it with row n
  more : (n b : ℕ) → col ≤ n → Pivot o n col M b → Pivot o (n + 1) col M (better o M col n b)
  more n b c h =
      by_two (at_least (size n) (size b))
      (λ e. rw e (record {
        from = c;
        within = omega arith;
        greatest = λ r g l. last_or n (λ k. col ≤ k → as_great o col M n k) (λ _. at_least_refl (size n))
            (λ k l g. at_least_trans (size n) (size b) (size k) e (h.greatest k g l)) r l g;
        last = λ r g l. absurd (omega arith);
      }))
      (λ e. rw e (record {
        from = h.from;
        within = omega (arith, h.within);
        greatest = λ r g l. last_or n (λ k. col ≤ k → as_great o col M b k) (λ _. at_least_total (size n) (size b) e) (λ k l g. h.greatest k g l) r l g;
        last = λ r g l. last_or n (λ k. b < k → as_great o col M k b → ⊥) (λ _ q. no (sym e ∙ q)) (λ k l g. h.last k g l) r l g;
      }))

  alone : Pivot o (col + 1) col M col
  alone =
      record {
        from = omega arith;
        within = omega arith;
        greatest = λ r g l. let z : r ≡ col = omega arith in rw z (at_least_refl (size col));
        last = λ r g l. absurd (omega arith);
      }

  best_has : (n m : ℕ) → m ≡ col + 1 + n → Pivot o m col M (turns (col + 1) n (better o M col) col)
  unfolding turns
  best_has zero m e = let z : m ≡ col + 1 = omega arith in rw z alone
  best_has (suc n) m e =
      let z : m ≡ col + 1 + n + 1 = omega arith in
      rw z (more (col + 1 + n) (turns (col + 1) n (better o M col) col) (omega arith) (best_has n (col + 1 + n) refl))

-- ---- the definition's row
module _ {A : Type 0} (o : Ops A) (m col : ℕ) (M : List (List A)) where
  abbrev entry : ℕ → Float
  entry r = o.val (at2 o M r col)

  pub one_pivot : (p q : ℕ) → Pivot o m col M p → Pivot o m col M q → p ≡ q
  one_pivot p q h g =
      by_two (ltb p q) (λ l. absurd (h.last q (ltb-true p q l) g.within (g.greatest p h.from h.within)))
      (λ l. by_two (ltb q p) (λ r. absurd (g.last p (ltb-true q p r) h.within (h.greatest q g.from g.within)))
      (λ r. omega (arith, ltb-false p q l, ltb-false q p r)))

  -- the test tells it
  to_test : (p : ℕ) → Pivot o m col M p → has_pivot o m col M p ≡ true
  unfolding has_pivot
  to_test p h =
      all m _ (λ r l. by_two (ltb r col) (λ e. rw e)
      (λ e. rw e (by_two (leb r p) (λ b. rw b (h.greatest r (ltb-false r col e) l))
      (λ b. rw b (by_two (smaller (entry r) (entry p)) (λ t. t) (λ t. absurd (h.last r (leb-false r p b) l (ap not t))))))))

  of_test : (p : ℕ) → col ≤ p → p < m → has_pivot o m col M p ≡ true → Pivot o m col M p
  unfolding has_pivot
  of_test p c l ok =
      record {
        from = c;
        within = l;
        greatest = λ r g u. by_two (leb r p) (λ b. rw b at (way r g u)) (λ b. at_least_total (entry r) (entry p) (ap not (rw b at (way r g u))));
        last = λ r g u q. no (sym (ap not (rw (lt-leb r p g) at (way r (omega arith) u))) ∙ q);
      }
    where
      way : (r : ℕ) → col ≤ r → r < m → gives_way o col M p r ≡ true
      way r g u = rw (le-ltb r col g) at (each m _ ok r u)

  module _ (h : col < m) where
    abbrev best : ℕ
    best = best_among o M col col (m - 1 - col)

    best_pivot : Pivot o m col M best
    unfolding best_among
    best_pivot = best_has o col M (m - 1 - col) m (omega arith)

    pub best_is : best ≡ pivot o m col M
    unfolding pivot
    best_is =
        seek_is (has_pivot o m col M) col m best
        (record {
          low = best_pivot.from;
          high = omega (arith, best_pivot.within);
          before = λ i g l. refuted _ (λ e. apart i l (one_pivot i best (of_test i g (omega (arith, best_pivot.within)) e) best_pivot));
          found = λ _. to_test best best_pivot;
        })
      where
        apart : (i : ℕ) → i < best → i ≡ best → ⊥
        apart i l e = omega arith

    -- the row that a loop leaves
    pub found_is : {b : ℕ} → b ≡ run (col + 1) m (better o M col) col → b ≡ pivot o m col M
    unfolding best_among
    found_is q =
        let e : m - (col + 1) ≡ m - 1 - col = omega arith in
        q ∙ ap (λ (n : ℕ). turns (col + 1) n (better o M col) col) e ∙ best_is

    pub pivot_is : Pivot o m col M (pivot o m col M)
    pivot_is = subst (Pivot o m col M) best_is best_pivot

    pub pivot_ge : col ≤ pivot o m col M
    pivot_ge = pivot_is.from

    pub pivot_lt : pivot o m col M < m
    pivot_lt = pivot_is.within
