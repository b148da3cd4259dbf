-- Rows that lie by an order at the front of a list, read out of it: where a number of them stands, and what a row or two numbers that are replaced, and
-- two rows exchanged make of them. Over any scalar, for both stores of rows. Assumes nothing.
use mathlib.Core.Path.{◌≡◌, refl, sym, ap, ◌∙◌}
use mathlib.Core.List.{List, []}
use Prim.Native.Nat.{ℕ, ◌+◌, ◌-◌, ◌*◌, ◌≤◌, ◌<◌}
use native.Mathlib.Omega.{arith}
use borrow.Author.Tests.{lt-ltb}
use borrow.Rule.Slice.PartMut.{put_mid}
use lib.ListN.{length, get_or, set, take, drop, length-set}
use lib.Seq.{ext_get_or}
use Rattle.meaning.specs.Search.{listed}
use Rattle.meaning.proofs.Filling.{length-listed, nth_listed}
use Rattle.row_order.specs.Order.{place_of, row_at, exchanged_in, exchanged_below, Order}
use Rattle.row_order.proofs.Orders.{place_of-row, in_order_lem, exchanged_order}
use Rattle.solve.specs.Rows.{flat, rows_of, Shaped}
use Rattle.solve.specs.Placed.{laid, rows_by}
use Rattle.solve.specs.Elimination.{exchanged}
use Rattle.solve.proofs.Flat.{rest_of, rows_of-flat, flat-of_rows, rows_shaped_of, shaped_set, swapped_shaped, lent_row, back_row, write_cell}
use Rattle.solve.proofs.Placed.{laid_by, laid-row, laid_shaped, laid_set, laid_step, read-placed, write_placed, laid_start, next_rows}

-- ---- how many there are
pub by_long : {A : Type 0} (m : ℕ) (order : List ℕ) (w : List A) → length (rows_by m order w) ≡ m
unfolding rows_by
by_long m order w = length-listed 0 m (λ r. get_or (rows_of m (m + 2) w) (place_of order r) [])

-- ---- one order
module _ {A : Type 0} {m : ℕ} {order : List ℕ} (o : Order m order) where
  by_at : (w : List A) (r : ℕ) → r < m → get_or (rows_by m order w) r [] ≡ get_or (rows_of m (m + 2) w) (place_of order r) []
  unfolding rows_by
  by_at w r h = nth_listed m r (λ r. get_or (rows_of m (m + 2) w) (place_of order r) []) [] h

  -- the rows of a list in which N lies by the order
  module _ (w : List A) (N : List (List A)) (rest : List A) (e : w ≡ flat (laid m order N) rest) (sh : Shaped m (m + 2) N) where
    pub by_is : rows_by m order w ≡ N
    by_is =
        let lain : rows_of m (m + 2) w ≡ laid m order N = ap (rows_of m (m + 2)) e ∙ rows_of-flat rest (laid_shaped o N sh) in
        ext_get_or [] (rows_by m order w) N (by_long m order w ∙ sym sh.count)
        (λ r h.
        let l : r < m = omega (arith, by_long m order w) in
        by_at w r l ∙ ap (λ (L : List (List A)). get_or L (place_of order r) []) lain ∙ laid-row o N r l)

    pub past_is : drop (m * (m + 2)) w ≡ rest
    past_is = ap (drop (m * (m + 2))) e ∙ rest_of (laid m order N) rest m (m + 2) (laid_shaped o N sh)

  module _ (w : List A) (room : m * (m + 2) ≤ length w) where
    abbrev M : List (List A)
    M = rows_by m order w

    abbrev past : List A
    past = drop (m * (m + 2)) w

    pub by_each : Shaped m (m + 2) M
    by_each = record {
      count = by_long m order w;
      each = λ r h. ap length (by_at w r h) ∙ (rows_shaped_of m (m + 2) w room).each (place_of order r) (o.within r h);
    }

    pub lies : w ≡ flat (laid m order M) past
    lies =
        flat-of_rows m (m + 2) w
        ∙ ap (λ (N : List (List A)). flat N past)
        (laid_by m order M (rows_of m (m + 2) w) (rows_shaped_of m (m + 2) w room).count
        (λ k h.
        sym (by_at w (row_at m order k) (o.taken k h) ∙ ap (λ (p : ℕ). get_or (rows_of m (m + 2) w) p []) (place_of-row o k h))))

    -- ---- row r
    module _ (r : ℕ) (h : r < m) where
      pub read_by : (k : ℕ) → k < m + 2 → (d : A) → get_or w (place_of order r * (m + 2) + k) d ≡ get_or (get_or M r []) k d
      read_by k l d = read-placed o M past w r lies by_each h k l d

      -- it begins at p
      module _ (p : ℕ) (e : p ≡ place_of order r * (m + 2)) where
        -- as it is lent, and as it comes back
        pub lent_by : take (p + (m + 2) - p) (drop p w) ≡ get_or M r []
        lent_by = rw e (lent_row past w (place_of order r) lies (laid_shaped o M by_each) (o.within r h) ∙ laid-row o M r h)

        module _ (y : List A) (l : length y ≡ m + 2) where
          came : put_mid p (p + (m + 2) - p) w y ≡ flat (laid m order (set M r y)) past
          came =
              rw e (back_row past w (place_of order r) lies (laid_shaped o M by_each) (o.within r h) y
              ∙ ap (λ (N : List (List A)). flat N past) (laid_set o M r y h (by_long m order w)))

          pub back_by : rows_by m order (put_mid p (p + (m + 2) - p) w y) ≡ set M r y
          back_by = by_is _ (set M r y) past came (shaped_set r y by_each h l)

          pub back-past : drop (m * (m + 2)) (put_mid p (p + (m + 2) - p) w y) ≡ past
          back-past = past_is _ (set M r y) past came (shaped_set r y by_each h l)

        -- a number replaced
        pub put_by : (k : ℕ) (v : A) → k < m + 2 → rows_by m order (set w (p + k) v) ≡ set M r (set (get_or M r []) k v)
        put_by k v l =
            by_is _ (set M r (set (get_or M r []) k v)) past
            (rw e (write_cell past w (place_of order r) lies (laid_shaped o M by_each) (o.within r h) k l v
            ∙ ap (λ (N : List (List A)). flat N past) (laid_step o M r (λ t. set t k v) h (by_long m order w))))
            (shaped_set r (set (get_or M r []) k v) by_each h (length-set (get_or M r []) k v ∙ by_each.each r h))

        -- two numbers replaced
        module _ (i j : ℕ) (x y : A) (a : i < m + 2) (b : j < m + 2) where
          row : Shaped m (m + 2) (set M r (set (set (get_or M r []) i x) j y))
          row = shaped_set r (set (set (get_or M r []) i x) j y) by_each h (simp length-set (by_each.each r h))

          wrote : set (set w (p + i) x) (p + j) y ≡ flat (laid m order (set M r (set (set (get_or M r []) i x) j y))) past
          wrote = rw e (write_placed o M past w r lies by_each h i j x y a b)

          pub write_by : rows_by m order (set (set w (p + i) x) (p + j) y) ≡ set M r (set (set (get_or M r []) i x) j y)
          write_by = by_is _ _ past wrote row

          pub write-past : drop (m * (m + 2)) (set (set w (p + i) x) (p + j) y) ≡ past
          write-past = past_is _ _ past wrote row

-- ---- two rows exchanged in the order
pub exchanged_by : {A : Type 0} {m : ℕ} {order : List ℕ} (o : Order m order) (w : List A) → m * (m + 2) ≤ length w → (i j : ℕ) → i < m → j < m
    → rows_by m (exchanged_in order i j) w ≡ exchanged (rows_by m order w) i j
exchanged_by {A} {m} {order} o w room i j h g =
    let M = rows_by m order w in
    let past = drop (m * (m + 2)) w in
    by_is (exchanged_order o i j h g) w (exchanged M i j) past
    (next_rows o i j h g refl M past w (by_long m order w) refl (lies o w room))
    (swapped_shaped M m (m + 2) i j h g (by_each o w room))

-- as an order of rows exchanges them
pub turned_by : {A : Type 0} {m : ℕ} {order : List ℕ} (o : Order m order) (w : List A) → m * (m + 2) ≤ length w → (i j : ℕ) {m' : ℕ} {order' : List ℕ} → m' ≡ m
    → order' ≡ exchanged_below m order i j → i < length (rows_by m order w) → j < length (rows_by m order w)
    → rows_by m' order' w ≡ exchanged (rows_by m order w) i j
turned_by {m = m} {order = order} o w room i j few e h g =
    let a : i < m = omega (arith, h, by_long m order w) in
    let b : j < m = omega (arith, g, by_long m order w) in
    let both : exchanged_below m order i j ≡ exchanged_in order i j = rw (lt-ltb i m a, lt-ltb j m b) refl in
    (λ t. rows_by (few t) ((e ∙ both) t) w) ∙ exchanged_by o w room i j a b

-- ---- every row at its own place
pub start_by : {A : Type 0} (m : ℕ) (w : List A) → m ≤ 66 → m * (m + 2) ≤ length w → rows_by m (listed 0 66 (λ r. r)) w ≡ rows_of m (m + 2) w
start_by {A} m w h room =
    let sh = rows_shaped_of m (m + 2) w room in
    by_is (in_order_lem m h) w (rows_of m (m + 2) w) (drop (m * (m + 2)) w)
    (flat-of_rows m (m + 2) w ∙ ap (λ (N : List (List A)). flat N (drop (m * (m + 2)) w)) (laid_start m (rows_of m (m + 2) w) h sh.count)) sh
