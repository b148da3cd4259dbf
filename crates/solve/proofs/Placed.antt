-- Rows that lie by an order: what stands where, what a row or two numbers that are replaced make of them, and two rows exchanged, for which nothing
-- moves. Over any scalar, for both copies of the solve. Assumes nothing.
use mathlib.Core.Path.{◌≡◌, sym, ap, ◌∙◌}
use mathlib.Core.List.{List, []}
use Prim.Native.Nat.{ℕ, ◌+◌, ◌*◌, ◌≤◌, ◌<◌}
use native.Mathlib.Omega.{arith}
use borrow.Author.Tests.{eqb-true, eqb-false}
use lib.Dec.{eqb}
use lib.ListN.{length, get_or, set, length-set}
use lib.Seq.{ext_get_or, get_or-set_same, get_or-set_other}
use Rattle.meaning.specs.Scalar.{Ops, one64}
use Rattle.meaning.specs.Search.{listed}
use Rattle.meaning.proofs.Tests.{by_two}
use Rattle.meaning.proofs.Filling.{length-listed, nth_listed}
use Rattle.row_order.specs.Order.{place_of, row_at, exchanged_in, Order}
use Rattle.row_order.proofs.Orders.{row_of-place, place_of-row, in_order_lem, other, one_of, other_first, other_second, other_none, exchanged-row}
use Rattle.solve.specs.Rows.{flat, Shaped}
use Rattle.solve.specs.Placed.{laid}
use Rattle.solve.specs.Elimination.{exchanged, pivoted}
use Rattle.solve.specs.Pivot.{pivot}
use Rattle.solve.specs.Substitution.{remains, answer}
use Rattle.solve.proofs.Flat.{read_cell, swapped-first, swapped_second, swapped_other}
use Rattle.solve.proofs.Answers.{write_two}

module _ {A : Type 0} (m : ℕ) (order : List ℕ) (M : List (List A)) where
  pub laid-long : length (laid m order M) ≡ m
  unfolding laid
  laid-long = length-listed 0 m (λ k. get_or M (row_at m order k) [])

  laid-at : (k : ℕ) → k < m → get_or (laid m order M) k [] ≡ get_or M (row_at m order k) []
  unfolding laid
  laid-at k h = nth_listed m k (λ k. get_or M (row_at m order k) []) [] h

  -- what lies at every place is known, and so are the rows
  pub laid_by : (N : List (List A)) → length N ≡ m → ((k : ℕ) → k < m → get_or N k [] ≡ get_or M (row_at m order k) []) → N ≡ laid m order M
  laid_by N l e = ext_get_or [] N (laid m order M) (l ∙ sym laid-long) (λ k h. let g : k < m = omega arith in e k g ∙ sym (laid-at k g))

-- ---- one order
module _ {A : Type 0} {m : ℕ} {order : List ℕ} (o : Order m order) (M : List (List A)) where
  pub laid-row : (r : ℕ) → r < m → get_or (laid m order M) (place_of order r) [] ≡ get_or M r []
  laid-row r h = laid-at m order M (place_of order r) (o.within r h) ∙ ap (λ (k : ℕ). get_or M k []) (row_of-place o r h)

  pub laid_shaped : {s : ℕ} → Shaped m s M → Shaped m s (laid m order M)
  laid_shaped sh = record { count = laid-long m order M; each = λ k h. ap length (laid-at m order M k h) ∙ sh.each (row_at m order k) (o.taken k h) }

  -- row r replaced
  pub laid_set : (r : ℕ) (y : List A) → r < m → length M ≡ m → set (laid m order M) (place_of order r) y ≡ laid m order (set M r y)
  laid_set r y h l =
      let N = laid m order M in
      let p = place_of order r in
      laid_by m order (set M r y) (set N p y) (length-set N p y ∙ laid-long m order M)
      (λ k g. by_two (eqb k p)
      (λ e.
      let q = eqb-true k p e in
      ap (λ (j : ℕ). get_or (set N p y) j []) q
      ∙ get_or-set_same N p y [] (omega (arith, o.within r h, laid-long m order M))
      ∙ sym (ap (λ (j : ℕ). get_or (set M r y) (row_at m order j) []) q ∙ ap (λ (j : ℕ). get_or (set M r y) j []) (row_of-place o r h)
      ∙ get_or-set_same M r y [] (omega arith)))
      (λ e.
      let q = eqb-false k p e in
      get_or-set_other N p k y [] q ∙ laid-at m order M k g
      ∙ sym (get_or-set_other M r (row_at m order k) y [] (λ z. q (sym (place_of-row o k g) ∙ ap (place_of order) z)))))

  -- the row at row r's place, replaced by what a step makes of it
  pub laid_step : (r : ℕ) (step : List A → List A) → r < m → length M ≡ m
      → set (laid m order M) (place_of order r) (step (get_or (laid m order M) (place_of order r) [])) ≡ laid m order (set M r (step (get_or M r [])))
  laid_step r step h l =
      ap (λ (t : List A). set (laid m order M) (place_of order r) (step t)) (laid-row r h) ∙ laid_set r (step (get_or M r [])) h l

  -- ---- in a buffer w that holds the rows
  module _ {s : ℕ} (rest w : List A) (r : ℕ) (e : w ≡ flat (laid m order M) rest) (sh : Shaped m s M) (h : r < m) where
    pub read-placed : (k : ℕ) → k < s → (d : A) → get_or w (place_of order r * s + k) d ≡ get_or (get_or M r []) k d
    read-placed k l d =
        read_cell rest w (place_of order r) e (laid_shaped sh) (o.within r h) k l d ∙ ap (λ (t : List A). get_or t k d) (laid-row r h)

    pub write_placed : (i j : ℕ) (x y : A) → i < s → j < s
        → set (set w (place_of order r * s + i) x) (place_of order r * s + j) y ≡ flat (laid m order (set M r (set (set (get_or M r []) i x) j y))) rest
    write_placed i j x y a b =
        write_two rest w (place_of order r) e (laid_shaped sh) (o.within r h) i j x y a b
        ∙ ap (λ (N : List (List A)). flat N rest) (laid_step r (λ t. set (set t i x) j y) h sh.count)

    -- an answer as the code works it out
    pub answer-placed : (p : Ops A) (c d n : ℕ) (x : A) → d < s → x ≡ remains p M r c d n
        → p.times x (p.over (p.cst one64) (get_or w (place_of order r * s + d) p.off)) ≡ answer p M r c d n
    unfolding answer
    answer-placed p c d n x l q = rw (q, read-placed d l p.off)

-- ---- every row at its own place
pub laid_start : {A : Type 0} (m : ℕ) (M : List (List A)) → m ≤ 66 → length M ≡ m → M ≡ laid m (listed 0 66 (λ r. r)) M
laid_start m M h l =
    let start = in_order_lem m h in
    laid_by m (listed 0 66 (λ r. r)) M M l
    (λ k g.
    let own = nth_listed 66 k (λ r. r) 0 (omega arith) in
    ap (λ (j : ℕ). get_or M j []) (sym (row_of-place start k g) ∙ ap (row_at m (listed 0 66 (λ r. r))) own))

-- ---- two rows exchanged, and the order too: every number lies where it lay
module _ {A : Type 0} {m : ℕ} {order : List ℕ} (o : Order m order) (M : List (List A)) (l : length M ≡ m) where
  pub laid-exchanged : (i j : ℕ) → i < m → j < m → laid m order M ≡ laid m (exchanged_in order i j) (exchanged M i j)
  laid-exchanged i j h g =
      laid_by m (exchanged_in order i j) (exchanged M i j) (laid m order M) (laid-long m order M)
      (λ k b.
      let r = row_at m order k in
      laid-at m order M k b ∙ sym (ap (λ (q : ℕ). get_or (exchanged M i j) q []) (exchanged-row o i j h g k b) ∙ same r))
    where
      same : (r : ℕ) → get_or (exchanged M i j) (other i j r) [] ≡ get_or M r []
      same r =
          let a : i < length M = omega arith in
          let b : j < length M = omega arith in
          one_of i j r
          (λ e. ap (λ (q : ℕ). get_or (exchanged M i j) q []) (other_first i j r e) ∙ swapped_second M i j a b ∙ ap (λ (q : ℕ). get_or M q []) (sym e))
          (λ n e. ap (λ (q : ℕ). get_or (exchanged M i j) q []) (other_second i j r e) ∙ swapped-first M i j a b ∙ ap (λ (q : ℕ). get_or M q []) (sym e))
          (λ n k. ap (λ (q : ℕ). get_or (exchanged M i j) q []) (other_none i j r n k) ∙ swapped_other M i j a b r n k)

-- ---- the row best, as that of column col's pivot, put first in the order
module _ {m : ℕ} {order next : List ℕ} (o : Order m order) (col best : ℕ) (h : col < m) (g : best < m) (e : next ≡ exchanged_in order col best) where
  -- the buffer holds the exchanged rows
  pub next_rows : {A : Type 0} (M : List (List A)) (rest w : List A) → length M ≡ m → {R : List (List A)} → R ≡ exchanged M col best
      → w ≡ flat (laid m order M) rest → w ≡ flat (laid m next R) rest
  next_rows M rest w l is q =
      q
      ∙ ap (λ (N : List (List _)). flat N rest) (laid-exchanged o M l col best h g)
      ∙ (λ i. flat (laid m (sym e i) (sym is i)) rest)

  -- and so those with the pivot's row in row col
  pub pivot_rows : {A : Type 0} (p : Ops A) (M : List (List A)) (rest w : List A) → length M ≡ m → best ≡ pivot p m col M
      → w ≡ flat (laid m order M) rest → w ≡ flat (laid m next (pivoted p m col M)) rest
  unfolding pivoted
  pivot_rows p M rest w l is q = next_rows M rest w l (ap (exchanged M col) (sym is)) q
