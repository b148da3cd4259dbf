-- The verdict that a solve joins step by step is that on the list of all that it stores. Assumes nothing.
use mathlib.Core.Path.{◌≡◌, refl, sym, ap, ◌∙◌}
use mathlib.Core.Bool.{Bool, true, ◌&&◌, cond, and_assoc}
use mathlib.Core.List.{List, [], ◌∷◌, ◌++◌, flatten}
use mathlib.Core.Logic.{inl, inr, ⊎_elim}
use Prim.Native.Nat.{ℕ, zero, suc, ◌+◌, ◌-◌, ◌≤◌, ◌<◌}
use native.Mathlib.Nat.{le_refl, le_of_suc-le-suc, eq-or-lt_of_le, add-zero, zero-add, suc-add, add-suc}
use native.Mathlib.Numerals.{add-one}
use native.Mathlib.Omega.{arith}
use borrow.Author.Tests.{lt-ltb, le-ltb}
use lib.Dec.{ltb, leb-suc-suc}
use lib.ListN.{length, get_or, set, drop, length-set}
use lib.Seq.{get_or-set_same, get_or-set_other}
use lib.Ieee.{eq}
use Rattle.meaning.specs.Scalar.{Ops, zero64}
use Rattle.meaning.specs.Table.{at1, at2}
use Rattle.meaning.specs.Search.{listed, every}
use Rattle.meaning.proofs.Tests.{by_two}
use Rattle.meaning.proofs.Filling.{length-listed, nth_listed}
use Rattle.meaning.proofs.Every.{every_same, every_front, every-past, every_back, every_both}
use Rattle.solve.specs.Rows.{Shaped}
use Rattle.solve.specs.Left.{Becomes}
use Rattle.solve.specs.Elimination.{subtracted, reduced, pivoted, eliminated}
use Rattle.solve.specs.Substitution.{answer, answered, backed, solved}
use Rattle.solve.specs.Stored.{all_fine, stored_by_row, stored_by_column, stored_by_solve, solved_ok}
use Rattle.solve.specs.Verdicts.{fine_at, subtracted_ok, reduced_ok, row_fine, reduced_rows_ok, column_ok, eliminated_ok, answered_ok, backed_ok}
use Rattle.solve.proofs.Flat.{same}
use Rattle.solve.proofs.Steps.{sub_length, sub_at, rows_fine_start, rows-fine_at, eliminated_shaped}
use Rattle.solve.proofs.Answers.{backed_next, backed_shaped}

-- ---- every number of a list is finite: of two lists, of a list by its index, of lists joined, and of a list past its front
module _ {A : Type 0} (o : Ops A) where
  pub fine_append : (l k : List A) → all_fine o (l ++ k) ≡ (all_fine o l && all_fine o k)
  unfolding all_fine
  fine_append [] k = refl
  fine_append (x ∷ l) k = ap (λ (b : Bool). o.fine x && b) (fine_append l k) ∙ sym (and_assoc (o.fine x) (all_fine o l) (all_fine o k))

  pub fine-each : (l : List A) → all_fine o l ≡ every (length l) (λ i. o.fine (at1 o l i))
  unfolding all_fine every
  fine-each [] = refl
  fine-each (x ∷ l) = ap (λ (b : Bool). o.fine x && b) (fine-each l) ∙ sym (every_front (length l) (λ i. o.fine (at1 o (x ∷ l) i)))

  pub fine-listed : (d : ℕ) (f : ℕ → A) → all_fine o (listed 0 d f) ≡ every d (λ k. o.fine (f k))
  fine-listed d f =
      fine-each (listed 0 d f)
      ∙ ap (λ (n : ℕ). every n (λ i. o.fine (at1 o (listed 0 d f) i))) (length-listed 0 d f)
      ∙ every_same d _ _ (λ k l. ap o.fine (nth_listed d k f o.off l))

  pub fine-flat : (i d : ℕ) (f : ℕ → List A) → all_fine o (flatten (listed i d f)) ≡ every d (λ k. all_fine o (f (i + k)))
  unfolding all_fine flatten listed every
  fine-flat i zero f = refl
  fine-flat i (suc d) f =
      fine_append (f i) (flatten (listed (suc i) d f))
      ∙ (λ j. all_fine o (f (sym (add-zero i) j)) && fine-flat (suc i) d f j)
      ∙ ap (λ (b : Bool). all_fine o (f (i + 0)) && b) (every_same d _ _ (λ k l. ap (λ (n : ℕ). all_fine o (f n)) (suc-add i k ∙ sym (add-suc i k))))
      ∙ sym (every_front d (λ k. all_fine o (f (i + k))))

  fine_drop : (col : ℕ) (l : List A) → all_fine o (drop col l) ≡ every (length l) (λ k. cond (ltb k col) true (o.fine (at1 o l k)))
  unfolding all_fine every
  fine_drop zero l = fine-each l ∙ every_same (length l) _ _ (λ k h. rw (le-ltb k 0 (omega arith)))
  fine_drop (suc c) [] = refl
  fine_drop (suc c) (x ∷ l) =
      let rest = every (length l) (λ k. cond (ltb (suc k) (suc c)) true (o.fine (at1 o l k))) in
      fine_drop c l
      ∙ every_same (length l) _ _ (λ k h. ap (λ (b : Bool). cond b true (o.fine (at1 o l k))) (sym (leb-suc-suc (suc k) c)))
      ∙ ap (λ (b : Bool). cond b true (o.fine x) && rest) (sym (lt-ltb 0 (suc c) (omega arith)))
      ∙ sym (every_front (length l) (λ k. cond (ltb k (suc c)) true (o.fine (at1 o (x ∷ l) k))))

-- ---- the elimination
module _ {A : Type 0} (o : Ops A) where
  pub sub_stored : (n col : ℕ) (f : A) (p t : List A) → all_fine o (drop col (subtracted o n col f p t)) ≡ subtracted_ok o n col f p t
  unfolding subtracted_ok fine_at
  sub_stored n col f p t =
      fine_drop o col (subtracted o n col f p t)
      ∙ ap (λ (k : ℕ). every k (λ i. cond (ltb i col) true (o.fine (at1 o (subtracted o n col f p t) i)))) (sub_length o n col f p t)
      ∙ every_same (length t) _ _ (λ k h. ap (λ (x : A). cond (ltb k col) true (o.fine x)) (sub_at o n col f p t k o.off h))

  row_stored : (n col : ℕ) (p t : List A) → all_fine o (stored_by_row o n col p t) ≡ reduced_ok o n col p t
  unfolding stored_by_row reduced_ok reduced all_fine
  row_stored n col p t =
      let f = o.over (at1 o t col) (at1 o p col) in
      by_two (eq (o.val (at1 o t col)) zero64) (λ e. rw e) (λ e. rw e (ap (λ (b : Bool). o.fine f && b) (sub_stored n col f p t)))

  column_stored : (m col : ℕ) (M : List (List A)) → col < m → all_fine o (stored_by_column o m col M) ≡ column_ok o m col M
  unfolding stored_by_column column_ok reduced_rows_ok
  column_stored m col M h =
      let N = pivoted o m col M in
      let p = get_or N col [] in
      let e : m ≡ col + 1 + (m - 1 - col) = omega arith in
      fine-flat o (col + 1) (m - 1 - col) (λ r. stored_by_row o m col p (get_or N r []))
      ∙ every_same (m - 1 - col) _ _ (λ k l. row_stored m col p (get_or N (col + 1 + k) []) ∙ rows-fine_at o m col p m N (col + 1 + k) (omega arith))
      ∙ sym (every-past (col + 1) (m - 1 - col) (row_fine o m col p N) (sym (rows_fine_start o m col p m N)))
      ∙ ap (λ (k : ℕ). every k (row_fine o m col p N)) (sym e)

  columns_stored : (m : ℕ) (M : List (List A)) → all_fine o (flatten (listed 0 m (λ col. stored_by_column o m col (eliminated o m col M)))) ≡ eliminated_ok o m m M
  unfolding eliminated_ok
  columns_stored m M =
      fine-flat o 0 m (λ col. stored_by_column o m col (eliminated o m col M))
      ∙ every_same m _ _ (λ k l. ap (λ (c : ℕ). all_fine o (stored_by_column o m c (eliminated o m c M))) (zero-add k) ∙ column_stored m k (eliminated o m k M) l)

-- ---- the answers, each stored once
module _ {A : Type 0} (o : Ops A) (m : ℕ) where
  -- both numbers of row r that a step stores, and those of another row
  module _ (N : List (List A)) (r d n : ℕ) where
    abbrev row : List A
    row = set (set (get_or N r []) m (answer o N r m d n)) (m + 1) (answer o N r (m + 1) d n)

    own : Shaped m (m + 2) N → r < m
        → (at2 o (answered o m N r d n) r m ≡ answer o N r m d n) × (at2 o (answered o m N r d n) r (m + 1) ≡ answer o N r (m + 1) d n)
    unfolding answered
    own sh h =
        let x = answer o N r m d n in
        let y = answer o N r (m + 1) d n in
        let R = set (get_or N r []) m x in
        let at = get_or-set_same N r row [] (omega (arith, sh.count)) in
        let long : length R ≡ m + 2 = length-set (get_or N r []) m x ∙ sh.each r h in (
          ap (λ (t : List A). get_or t m o.off) at ∙ get_or-set_other R (m + 1) m y o.off (λ q. omega arith)
              ∙ get_or-set_same (get_or N r []) m x o.off (omega (arith, sh.each r h)),
          ap (λ (t : List A). get_or t (m + 1) o.off) at ∙ get_or-set_same R (m + 1) y o.off (omega arith),
        )

    other : (k c : ℕ) → (k ≡ r → ⊥) → at2 o (answered o m N r d n) k c ≡ at2 o N k c
    unfolding answered
    other k c e = ap (λ (t : List A). get_or t c o.off) (get_or-set_other N r k row [] e)

  module _ (E : List (List A)) (sh : Shaped m (m + 2) E) where
    -- answer i from the last row up, in column c
    abbrev answer_up : ℕ → ℕ → A
    answer_up i c = answer o (backed o m i E) (m - 1 - i) c (m - 1 - i) i

    stays : (n : ℕ) → n ≤ m → (i : ℕ) → i < n
        → (at2 o (backed o m n E) (m - 1 - i) m ≡ answer_up i m) × (at2 o (backed o m n E) (m - 1 - i) (m + 1) ≡ answer_up i (m + 1))
    stays zero l i h = absurd (omega arith)
    stays (suc n) l i h =
        let N = backed o m n E in
        let a = m - 1 - n in
        rw (← add-one n, backed_next o m n E) (⊎_elim
        (λ (e : i ≡ n). rw e (own N a a n (backed_shaped o m (m + 2) n E (omega arith) sh) (omega arith)))
        (λ (e : i ≡ n → ⊥).
        let apart : m - 1 - i ≡ a → ⊥ = λ q. e (omega arith) in
        let old = stays n (omega arith) i (past i n h e) in
        (other N a a n (m - 1 - i) m apart ∙ old.0, other N a a n (m - 1 - i) (m + 1) apart ∙ old.1))
        (same i n))
      where
        past : (i n : ℕ) → i < suc n → (i ≡ n → ⊥) → i < n
        past i n h e = elim (eq-or-lt_of_le (le_of_suc-le-suc h)) [ inl q ↦ absurd (e q) | inr q ↦ q ]

    -- a column of answers, from the last row up
    column_stored_up : (c : ℕ) → ((i : ℕ) → i < m → at2 o (backed o m m E) (m - 1 - i) c ≡ answer_up i c)
        → all_fine o (listed 0 m (λ r. at2 o (backed o m m E) r c)) ≡ every m (λ i. o.fine (answer_up i c))
    column_stored_up c e =
        let N = backed o m m E in
        fine-listed o m (λ r. at2 o N r c)
        ∙ every_back m (λ r. o.fine (at2 o N r c))
        ∙ every_same m _ _ (λ i l. ap o.fine (e i l))

    answers_stored : (all_fine o (listed 0 m (λ r. at2 o (backed o m m E) r m)) && all_fine o (listed 0 m (λ r. at2 o (backed o m m E) r (m + 1))))
        ≡ backed_ok o m m E
    unfolding backed_ok answered_ok
    answers_stored =
        (λ j. column_stored_up m (λ i l. (stays m (le_refl m) i l).0) j && column_stored_up (m + 1) (λ i l. (stays m (le_refl m) i l).1) j)
        ∙ every_both m (λ i. o.fine (answer_up i m)) (λ i. o.fine (answer_up i (m + 1)))

-- ---- the whole solve
pub solved_along : {A : Type 0} (o : Ops A) (m : ℕ) (M : List (List A)) → Shaped m (m + 2) M
    → solved_ok o m M ≡ (eliminated_ok o m m M && backed_ok o m m (eliminated o m m M))
unfolding solved_ok stored_by_solve solved
solved_along o m M sh =
    let E = eliminated o m m M in
    let N = backed o m m E in
    let steps = flatten (listed 0 m (λ col. stored_by_column o m col (eliminated o m col M))) in
    let xs = listed 0 m (λ r. at2 o N r m) in
    let ys = listed 0 m (λ r. at2 o N r (m + 1)) in
    fine_append o (steps ++ xs) ys ∙ ap (λ (b : Bool). b && all_fine o ys) (fine_append o steps xs)
    ∙ and_assoc (all_fine o steps) (all_fine o xs) (all_fine o ys)
    ∙ (λ j. columns_stored o m M j && answers_stored o m E (eliminated_shaped o m (m + 2) m M (le_refl m) sh) j)

-- both halves of it, one after the other
pub solve_comes : {A : Type 0} (o : Ops A) (m : ℕ) (M : List (List A)) → Shaped m (m + 2) M → {N L : List (List A)} {p q r : Bool}
    → Becomes (eliminated o m m) (eliminated_ok o m m) M N p → Becomes (backed o m m) (backed_ok o m m) N L q → r ≡ (p && q)
    → Becomes (solved o m) (solved_ok o m) M L r
unfolding solved
solve_comes o m M sh first second both =
    (second.0 ∙ ap (backed o m m) first.0, both ∙ (λ i. first.1 i && (second.1 ∙ ap (backed_ok o m m) first.0) i) ∙ sym (solved_along o m M sh))
