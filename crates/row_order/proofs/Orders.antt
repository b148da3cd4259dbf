-- An order of rows stays a permutation: as it begins, and where two rows are exchanged. Assumes nothing.
use mathlib.Core.Path.{◌≡◌, refl, sym, ap, ◌∙◌}
use mathlib.Core.Bool.{true, false, cond}
use mathlib.Core.List.{List}
use Prim.Native.Nat.{ℕ, ◌≤◌, ◌<◌, zero-le}
use native.Mathlib.Omega.{arith}
use borrow.Author.Tests.{eqb-true, eqb-false, lt-ltb}
use lib.Dec.{eqb}
use lib.ListN.{length, set, length-set}
use lib.Seq.{get_or-set_same, get_or-set_other}
use Rattle.meaning.specs.Search.{listed}
use Rattle.meaning.proofs.Tests.{by_two, refuted}
use Rattle.meaning.proofs.Filling.{length-listed, nth_listed}
use Rattle.meaning.proofs.Searching.{seek_is, seek-first}
use Rattle.row_order.specs.Order.{place_of, row_at, exchanged_in, Order}

-- a test of two numbers that are the same
equal : (i j : ℕ) → i ≡ j → eqb i j ≡ true
equal i j e = by_two (eqb i j) (λ q. q) (λ q. absurd (eqb-false i j q e))

-- ---- a row and its place
module _ (m : ℕ) (order : List ℕ) where
  -- the row that is found at a place is the only one there
  only_row : (k r : ℕ) → r < m → place_of order r ≡ k → ((i : ℕ) → i < m → place_of order i ≡ k → i ≡ r) → row_at m order k ≡ r
  unfolding row_at
  only_row k r h e one =
      sym (seek_is (λ i. eqb (place_of order i) k) 0 m r
      (record {
        low = zero-le;
        high = omega arith;
        before = λ i g l. refuted _ (λ q. let z = one i (omega arith) (eqb-true (place_of order i) k q) in omega arith);
        found = λ _. equal (place_of order r) k e;
      }))

  row_there : (k : ℕ) → row_at m order k < m → place_of order (row_at m order k) ≡ k
  unfolding row_at
  row_there k h = eqb-true _ k ((seek-first (λ i. eqb (place_of order i) k) 0 m zero-le).found h)

module _ {m : ℕ} {order : List ℕ} (o : Order m order) where
  -- the row at the place of row r is row r
  pub row_of-place : (r : ℕ) → r < m → row_at m order (place_of order r) ≡ r
  row_of-place r h = only_row m order (place_of order r) r h refl (λ i l e. o.apart i r l h e)

  -- and the place of the row at place k is k
  pub place_of-row : (k : ℕ) → k < m → place_of order (row_at m order k) ≡ k
  place_of-row k h = row_there m order k (o.taken k h)

-- ---- every row at its own place
pub in_order_lem : (m : ℕ) → m ≤ 66 → Order m (listed 0 66 (λ r. r))
in_order_lem m h =
    let at : (r : ℕ) → r < m → place_of (listed 0 66 (λ k. k)) r ≡ r = λ r l. nth_listed 66 r (λ k. k) 0 (omega arith) in
    record {
      few = h;
      long = length-listed 0 66 (λ k. k);
      within = λ r l. rw (at r l) l;
      apart = λ i j l g e. sym (at i l) ∙ e ∙ at j g;
      taken = λ k l. rw (only_row m (listed 0 66 (λ r. r)) k k l (at k l) (λ i g e. sym (at i g) ∙ e)) l;
    }

-- ---- two rows exchanged

-- where row r was before rows i and j were exchanged
abbrev pub other : ℕ → ℕ → ℕ → ℕ
other i j r = cond (eqb r i) j (cond (eqb r j) i r)

module _ (i j : ℕ) where
  -- a row is the first of the two, the second, or neither
  pub one_of : {A : Type 0} (r : ℕ) → (r ≡ i → A) → ((r ≡ i → ⊥) → r ≡ j → A) → ((r ≡ i → ⊥) → (r ≡ j → ⊥) → A) → A
  one_of r a b c =
      by_two (eqb r i) (λ e. a (eqb-true r i e))
      (λ e. by_two (eqb r j) (λ f. b (eqb-false r i e) (eqb-true r j f)) (λ f. c (eqb-false r i e) (eqb-false r j f)))

  unequal : (r k : ℕ) → (r ≡ k → ⊥) → eqb r k ≡ false
  unequal r k n = refuted (eqb r k) (λ e. n (eqb-true r k e))

  pub other_first : (r : ℕ) → r ≡ i → other i j r ≡ j
  other_first r e = rw (equal r i e)

  pub other_second : (r : ℕ) → r ≡ j → other i j r ≡ i
  other_second r e = by_two (eqb r i) (λ q. rw q (sym e ∙ eqb-true r i q)) (λ q. rw (q, equal r j e))

  pub other_none : (r : ℕ) → (r ≡ i → ⊥) → (r ≡ j → ⊥) → other i j r ≡ r
  other_none r n k = rw (unequal r i n, unequal r j k)

  pub other_twice : (r : ℕ) → other i j (other i j r) ≡ r
  other_twice r =
      one_of r
      (λ e. ap (other i j) (other_first r e) ∙ other_second j refl ∙ sym e)
      (λ n e. ap (other i j) (other_second r e) ∙ other_first i refl ∙ sym e)
      (λ n k. ap (other i j) (other_none r n k) ∙ other_none r n k)

  pub other_within : (m r : ℕ) → i < m → j < m → r < m → other i j r < m
  other_within m r h g l =
      one_of r (λ e. rw (other_first r e) g) (λ n e. rw (other_second r e) h) (λ n k. rw (other_none r n k) l)

module _ {m : ℕ} {order : List ℕ} (o : Order m order) (i j : ℕ) (h : i < m) (g : j < m) where
  after : exchanged_in order i j ≡ set (set order i (place_of order j)) j (place_of order i)
  unfolding exchanged_in
  after = rw (lt-ltb i 66 (omega (arith, o.few)), lt-ltb j 66 (omega (arith, o.few)))

  -- row r lies where the other of the two lay
  pub exchanged-place : (r : ℕ) → place_of (exchanged_in order i j) r ≡ place_of order (other i j r)
  exchanged-place r =
      let one = set order i (place_of order j) in
      ap (λ (l : List ℕ). place_of l r) after
      ∙ by_two (eqb r j)
      (λ q.
      let e = eqb-true r j q in
      ap (place_of (set one j (place_of order i))) e
      ∙ get_or-set_same one j (place_of order i) 0 (omega (arith, o.few, o.long, length-set order i (place_of order j)))
      ∙ ap (place_of order) (sym (other_second i j r e)))
      (λ q.
      let k = eqb-false r j q in
      get_or-set_other one j r (place_of order i) 0 k
      ∙ by_two (eqb r i)
      (λ p.
      let e = eqb-true r i p in
      ap (place_of one) e ∙ get_or-set_same order i (place_of order j) 0 (omega (arith, o.few, o.long)) ∙ ap (place_of order) (sym (other_first i j r e)))
      (λ p.
      let n = eqb-false r i p in
      get_or-set_other order i r (place_of order j) 0 n ∙ ap (place_of order) (sym (other_none i j r n k))))

  -- at place k there is the other of the two
  pub exchanged-row : (k : ℕ) → k < m → row_at m (exchanged_in order i j) k ≡ other i j (row_at m order k)
  exchanged-row k l =
      let r = row_at m order k in
      only_row m (exchanged_in order i j) k (other i j r) (other_within i j m r h g (o.taken k l))
      (exchanged-place (other i j r) ∙ ap (place_of order) (other_twice i j r) ∙ place_of-row o k l)
      (λ q b e.
      let same = o.apart (other i j q) r (other_within i j m q h g b) (o.taken k l) (sym (exchanged-place q) ∙ e ∙ sym (place_of-row o k l)) in
      sym (other_twice i j q) ∙ ap (other i j) same)

  pub exchanged_order : Order m (exchanged_in order i j)
  exchanged_order =
      record {
        few = o.few;
        long = ap length after ∙ length-set (set order i (place_of order j)) j (place_of order i) ∙ length-set order i (place_of order j) ∙ o.long;
        within = λ r l. rw (exchanged-place r) (o.within (other i j r) (other_within i j m r h g l));
        apart = λ a b l n e.
            let same = o.apart (other i j a) (other i j b) (other_within i j m a h g l) (other_within i j m b h g n)
            (sym (exchanged-place a) ∙ e ∙ exchanged-place b) in
            sym (other_twice i j a) ∙ ap (other i j) same ∙ other_twice i j b;
        taken = λ k l. rw (exchanged-row k l) (other_within i j m (row_at m order k) h g (o.taken k l));
      }
