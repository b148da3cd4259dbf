-- Rows laid one after the other in a flat list: where a row and a number of it stand, what a row or a number that is replaced makes of the rows,
-- and the rows that a list holds. Assumes nothing.
use mathlib.Core.Path.{◌≡◌, refl, sym, ap, ◌∙◌, subst}
use mathlib.Core.Logic.{◌⊎◌, inl, inr, ⊎_elim}
use mathlib.Core.Bool.{Bool, true, false}
use mathlib.Core.List.{List, [], ◌∷◌, ◌++◌, append_assoc}
use Prim.Native.Nat.{ℕ, zero, suc, ◌+◌, ◌-◌, ◌*◌, ◌≤◌, ◌<◌, suc-le-suc}
use native.Mathlib.Nat.{le_of_suc-le-suc, not-suc-le-zero, suc-add, zero-add, zero-mul, suc-mul, add_comm, add_assoc}
use native.Mathlib.Omega.{arith}
use lib.Dec.{eqb}
use borrow.Author.Tests.{eqb-true, eqb-false}
use borrow.Rule.Slice.PartMut.{put_mid, Post-is}
use lib.ListN.{length, get_or, set, take, drop, length-drop, length-set, take-append-drop, get_or-append}
use lib.Seq.{set-append_left, take_at, drop_at, drop-drop, length-take-le, drop-append-add, take-append-add, get_or-append-add, get_or-set_same, get_or-set_other}
use Rattle.solve.specs.Rows.{flat, rows_of, Shaped}
use Rattle.solve.specs.Elimination.{exchanged}

shift : (r s : ℕ) → suc r * s ≡ s + r * s
shift r s = suc-mul r s ∙ add_comm (r * s) s

shift+ : (r s n : ℕ) → suc r * s + n ≡ s + (r * s + n)
shift+ r s n = ap (λ (k : ℕ). k + n) (shift r s) ∙ add_assoc s (r * s) n

width : (r s : ℕ) → r * s + s - r * s ≡ s
width r s = omega arith

same_by : (i r : ℕ) (b : Bool) → eqb i r ≡ b → (i ≡ r) ⊎ (i ≡ r → ⊥)
same_by i r true e = inl (eqb-true i r e)
same_by i r false e = inr (eqb-false i r e)

pub same : (i r : ℕ) → (i ≡ r) ⊎ (i ≡ r → ⊥)
same i r = same_by i r (eqb i r) refl

module _ {A : Type 0} where
  -- every row has s numbers
  record Each (s : ℕ) (M : List (List A)) : Type 0 where
    row : (r : ℕ) → r < length M → length (get_or M r []) ≡ s

  shaped_each : {m s : ℕ} {M : List (List A)} → Shaped m s M → Each s M
  shaped_each {m = m} {M = M} h = record { row = λ r l. h.each r (subst (λ (n : ℕ). r < n) h.count l) }

  each_tail : {s : ℕ} {x : List A} {M : List (List A)} → Each s (x ∷ M) → Each s M
  each_tail e = record { row = λ r h. e.row (suc r) (suc-le-suc h) }

  each_head : {s : ℕ} {x : List A} {M : List (List A)} → Each s (x ∷ M) → length x ≡ s
  each_head e = e.row zero (omega arith)

  past : (x ys : List A) (s n : ℕ) → length x ≡ s → drop (s + n) (x ++ ys) ≡ drop n ys
  past x ys s n e = subst (λ (k : ℕ). drop (k + n) (x ++ ys) ≡ drop n ys) e (drop-append-add x ys n)

  upto : (x ys : List A) (s n : ℕ) → length x ≡ s → take (s + n) (x ++ ys) ≡ x ++ take n ys
  upto x ys s n e = subst (λ (k : ℕ). take (k + n) (x ++ ys) ≡ x ++ take n ys) e (take-append-add x ys n)

  -- ---- a row and a number of it
  drop_rows : (M : List (List A)) (rest : List A) (r s : ℕ) → Each s M → r < length M → drop (r * s) (flat M rest) ≡ get_or M r [] ++ flat (drop (suc r) M) rest
  unfolding flat
  drop_rows [] rest r s e h = absurd (not-suc-le-zero h)
  drop_rows (x ∷ M) rest zero s e h = ap (λ (n : ℕ). drop n (x ++ flat M rest)) (zero-mul s)
  drop_rows (x ∷ M) rest (suc r) s e h =
      ap (λ (n : ℕ). drop n (x ++ flat M rest)) (shift r s)
      ∙ past x (flat M rest) s (r * s) (each_head e)
      ∙ drop_rows M rest r s (each_tail e) (le_of_suc-le-suc h)

  row_part : (M : List (List A)) (rest : List A) (r s : ℕ) → Each s M → r < length M → take s (drop (r * s) (flat M rest)) ≡ get_or M r []
  row_part M rest r s e h = ap (take s) (drop_rows M rest r s e h) ∙ take_at (get_or M r []) (flat (drop (suc r) M) rest) s (e.row r h)

  cell : (M : List (List A)) (rest : List A) (r k s : ℕ) (d : A) → Each s M → r < length M → k < s → get_or (flat M rest) (r * s + k) d ≡ get_or (get_or M r []) k d
  unfolding flat
  cell [] rest r k s d e h l = absurd (not-suc-le-zero h)
  cell (x ∷ M) rest zero k s d e h l =
      ap (λ (n : ℕ). get_or (x ++ flat M rest) (n + k) d) (zero-mul s)
      ∙ ap (λ (n : ℕ). get_or (x ++ flat M rest) n d) (zero-add k)
      ∙ get_or-append x (flat M rest) d k (subst (λ (n : ℕ). k < n) (sym (each_head e)) l)
  cell (x ∷ M) rest (suc r) k s d e h l =
      ap (λ (n : ℕ). get_or (x ++ flat M rest) n d) (shift+ r s k)
      ∙ subst (λ (n : ℕ). get_or (x ++ flat M rest) (n + (r * s + k)) d ≡ get_or (flat M rest) (r * s + k) d) (each_head e) (get_or-append-add x (flat M rest) (r * s + k) d)
      ∙ cell M rest r k s d (each_tail e) (le_of_suc-le-suc h) l

  -- ---- a row replaced, and a number replaced
  row_put : (M : List (List A)) (rest : List A) (r s : ℕ) (y : List A) → Each s M → r < length M
      → take (r * s) (flat M rest) ++ y ++ drop (r * s + s) (flat M rest) ≡ flat (set M r y) rest
  unfolding flat
  row_put [] rest r s y e h = absurd (not-suc-le-zero h)
  row_put (x ∷ M) rest zero s y e h =
      ap (λ (n : ℕ). take n (x ++ flat M rest) ++ y ++ drop (n + s) (x ++ flat M rest)) (zero-mul s)
      ∙ ap (λ (n : ℕ). y ++ drop n (x ++ flat M rest)) (zero-add s)
      ∙ ap (λ (l : List A). y ++ l) (drop_at x (flat M rest) s (each_head e))
  row_put (x ∷ M) rest (suc r) s y e h =
      ap (λ (n : ℕ). take n (x ++ flat M rest) ++ y ++ drop (n + s) (x ++ flat M rest)) (shift r s)
      ∙ ap (λ (n : ℕ). take (s + r * s) (x ++ flat M rest) ++ y ++ drop n (x ++ flat M rest)) (add_assoc s (r * s) s)
      ∙ ap (λ (l : List A). l ++ y ++ drop (s + (r * s + s)) (x ++ flat M rest)) (upto x (flat M rest) s (r * s) (each_head e))
      ∙ ap (λ (l : List A). x ++ take (r * s) (flat M rest) ++ y ++ l) (past x (flat M rest) s (r * s + s) (each_head e))
      ∙ append_assoc (x ++ take (r * s) (flat M rest)) y (drop (r * s + s) (flat M rest))
      ∙ append_assoc x (take (r * s) (flat M rest)) (y ++ drop (r * s + s) (flat M rest))
      ∙ ap (λ (l : List A). x ++ l) (sym (append_assoc (take (r * s) (flat M rest)) y (drop (r * s + s) (flat M rest))))
      ∙ ap (λ (l : List A). x ++ l) (row_put M rest r s y (each_tail e) (le_of_suc-le-suc h))

  set_append_right : (x ys : List A) (n : ℕ) (v : A) → set (x ++ ys) (length x + n) v ≡ x ++ set ys n v
  set_append_right [] ys n v = ap (λ (k : ℕ). set ys k v) (zero-add n)
  set_append_right (a ∷ x) ys n v = ap (λ (k : ℕ). set (a ∷ (x ++ ys)) k v) (suc-add (length x) n) ∙ ap (λ (l : List A). a ∷ l) (set_append_right x ys n v)

  cell_put : (M : List (List A)) (rest : List A) (r k s : ℕ) (v : A) → Each s M → r < length M → k < s
      → set (flat M rest) (r * s + k) v ≡ flat (set M r (set (get_or M r []) k v)) rest
  unfolding flat
  cell_put [] rest r k s v e h l = absurd (not-suc-le-zero h)
  cell_put (x ∷ M) rest zero k s v e h l =
      ap (λ (n : ℕ). set (x ++ flat M rest) (n + k) v) (zero-mul s)
      ∙ ap (λ (n : ℕ). set (x ++ flat M rest) n v) (zero-add k)
      ∙ set-append_left x (flat M rest) k v (subst (λ (n : ℕ). k < n) (sym (each_head e)) l)
  cell_put (x ∷ M) rest (suc r) k s v e h l =
      ap (λ (n : ℕ). set (x ++ flat M rest) n v) (shift+ r s k)
      ∙ subst (λ (n : ℕ). set (x ++ flat M rest) (n + (r * s + k)) v ≡ x ++ set (flat M rest) (r * s + k) v) (each_head e) (set_append_right x (flat M rest) (r * s + k) v)
      ∙ ap (λ (t : List A). x ++ t) (cell_put M rest r k s v (each_tail e) (le_of_suc-le-suc h) l)

  -- ---- what lies past the rows
  past-rows : (M : List (List A)) (rest : List A) (s : ℕ) → Each s M → drop (length M * s) (flat M rest) ≡ rest
  unfolding flat
  past-rows [] rest s e = ap (λ (n : ℕ). drop n rest) (zero-mul s)
  past-rows (x ∷ M) rest s e =
      ap (λ (n : ℕ). drop n (x ++ flat M rest)) (shift (length M) s) ∙ past x (flat M rest) s (length M * s) (each_head e) ∙ past-rows M rest s (each_tail e)

  pub rest_of : (M : List (List A)) (rest : List A) (m s : ℕ) → Shaped m s M → drop (m * s) (flat M rest) ≡ rest
  rest_of M rest m s sh = subst (λ (n : ℕ). drop (n * s) (flat M rest) ≡ rest) sh.count (past-rows M rest s (shaped_each sh))

  -- ---- the rows that a list holds

  -- of rows laid out they are those rows
  rows_back : (M : List (List A)) (rest : List A) (s : ℕ) → Each s M → rows_of (length M) s (flat M rest) ≡ M
  unfolding flat rows_of
  rows_back [] rest s e = refl
  rows_back (x ∷ M) rest s e =
      λ i. take_at x (flat M rest) s (each_head e) i ∷ (ap (rows_of (length M) s) (drop_at x (flat M rest) s (each_head e)) ∙ rows_back M rest s (each_tail e)) i

  pub rows_of-flat : {m s : ℕ} {M : List (List A)} (rest : List A) → Shaped m s M → rows_of m s (flat M rest) ≡ M
  rows_of-flat {m} {s} {M} rest sh = subst (λ (n : ℕ). rows_of n s (flat M rest) ≡ M) sh.count (rows_back M rest s (shaped_each sh))

  -- and laid out again they are the list
  pub flat-of_rows : (m s : ℕ) (l : List A) → l ≡ flat (rows_of m s l) (drop (m * s) l)
  unfolding flat rows_of
  flat-of_rows zero s l = sym (ap (λ (n : ℕ). drop n l) (zero-mul s))
  flat-of_rows (suc m) s l =
      sym (take-append-drop s l)
      ∙ ap (λ (t : List A). take s l ++ t) (flat-of_rows m s (drop s l))
      ∙ ap (λ (t : List A). take s l ++ flat (rows_of m s (drop s l)) t) (drop-drop (m * s) s l ∙ ap (λ (n : ℕ). drop n l) (sym (shift m s)))

  rows-count : (m s : ℕ) (l : List A) → length (rows_of m s l) ≡ m
  unfolding rows_of
  rows-count zero s l = refl
  rows-count (suc m) s l = ap suc (rows-count m s (drop s l))

  rows-each : (m s : ℕ) (l : List A) → m * s ≤ length l → (r : ℕ) → r < m → length (get_or (rows_of m s l) r []) ≡ s
  unfolding rows_of
  rows-each zero s l h r b = absurd (not-suc-le-zero b)
  rows-each (suc m) s l h zero b = length-take-le s l (omega (arith, shift m s))
  rows-each (suc m) s l h (suc r) b = rows-each m s (drop s l) (omega (arith, shift m s, length-drop s l)) r (le_of_suc-le-suc b)

  pub rows_shaped_of : (m s : ℕ) (l : List A) → m * s ≤ length l → Shaped m s (rows_of m s l)
  rows_shaped_of m s l h = record { count = rows-count m s l; each = rows-each m s l h }

  -- ---- shapes that stay
  pub shaped_set : {m s : ℕ} {M : List (List A)} (r : ℕ) (y : List A) → Shaped m s M → r < m → length y ≡ s → Shaped m s (set M r y)
  shaped_set {M = M} r y sh h l = record {
    count = length-set M r y ∙ sh.count;
    each = λ i g. ⊎_elim
        (λ (q : i ≡ r). rw (q, get_or-set_same M r y [] (omega (arith, sh.count))) l)
        (λ (q : i ≡ r → ⊥). rw (get_or-set_other M r i y [] q) (sh.each i g))
        (same i r);
  }

  pub swapped_shaped : (M : List (List A)) (m s i j : ℕ) → i < m → j < m → Shaped m s M → Shaped m s (exchanged M i j)
  unfolding exchanged
  swapped_shaped M m s i j h g sh = shaped_set j (get_or M i []) (shaped_set i (get_or M j []) sh h (sh.each j g)) g (sh.each i h)

  -- ---- the rows once two of them are exchanged
  module _ (M : List (List A)) (i j : ℕ) (h : i < length M) (g : j < length M) where
    pub swapped_second : get_or (exchanged M i j) j [] ≡ get_or M i []
    unfolding exchanged
    swapped_second = get_or-set_same (set M i (get_or M j [])) j (get_or M i []) [] (omega (arith, length-set M i (get_or M j [])))

    pub swapped-first : get_or (exchanged M i j) i [] ≡ get_or M j []
    unfolding exchanged
    swapped-first = ⊎_elim
        (λ (e : i ≡ j). ap (λ (k : ℕ). get_or (exchanged M i j) k []) e ∙ swapped_second ∙ ap (λ (k : ℕ). get_or M k []) e)
        (λ (n : i ≡ j → ⊥). get_or-set_other (set M i (get_or M j [])) j i (get_or M i []) [] n ∙ get_or-set_same M i (get_or M j []) [] h)
        (same i j)

    pub swapped_other : (r : ℕ) → (r ≡ i → ⊥) → (r ≡ j → ⊥) → get_or (exchanged M i j) r [] ≡ get_or M r []
    unfolding exchanged
    swapped_other r p q = get_or-set_other (set M i (get_or M j [])) j r (get_or M i []) [] q ∙ get_or-set_other M i r (get_or M j []) [] p

-- ---- a buffer w that holds the rows M: row r as it is lent and as it comes back
module _ {A : Type 0} {m s : ℕ} {M : List (List A)} (rest w : List A) (r : ℕ) (e : w ≡ flat M rest) (sh : Shaped m s M) (h : r < m) where
  inside : r < length M
  inside = subst (λ (n : ℕ). r < n) (sym sh.count) h

  pub lent_row : take (r * s + s - r * s) (drop (r * s) w) ≡ get_or M r []
  lent_row = rw (width r s, e) (row_part M rest r s (shaped_each sh) inside)

  pub back_row : (y : List A) → put_mid (r * s) (r * s + s - r * s) w y ≡ flat (set M r y) rest
  back_row y =
      rw (Post-is (r * s) (r * s + s) w (omega arith), e) (sym (append_assoc (take (r * s) (flat M rest)) y (drop (r * s + s) (flat M rest))) ∙ row_put M rest r s y (shaped_each sh) inside)

  -- number k of row r, read and written
  module _ (k : ℕ) (l : k < s) where
    pub read_cell : (d : A) → get_or w (r * s + k) d ≡ get_or (get_or M r []) k d
    read_cell d = rw e (cell M rest r k s d (shaped_each sh) inside l)

    pub write_cell : (v : A) → set w (r * s + k) v ≡ flat (set M r (set (get_or M r []) k v)) rest
    write_cell v = rw e (cell_put M rest r k s v (shaped_each sh) inside l)
