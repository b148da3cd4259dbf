-- What a solve answers of a column, of a verdict, and of slices that begin with the rows. Assumes nothing.
use mathlib.Core.Path.{◌≡◌, refl, sym, ap, ◌∙◌}
use mathlib.Core.Bool.{Bool, true, false}
use mathlib.Core.List.{List, [], ◌∷◌}
use Prim.Native.Nat.{ℕ, zero, suc, ◌+◌, ◌-◌, ◌*◌, ◌≤◌, ◌<◌, min}
use native.Mathlib.Nat.{le_of_suc-le-suc, not-suc-le-zero}
use native.Mathlib.Omega.{arith}
use lib.ListN.{length, get_or, take, drop, replicate}
use lib.Seq.{ext_get_or, get_or-append-add, get_or-drop, get_or-take, length-take-le}
use lib.Dec.{leb}
use borrow.Author.Tests.{leb-true}
use lib.Ieee.{Float, nan}
use Rattle.meaning.specs.Scalar.{zero64}
use Rattle.meaning.specs.Table.{at2}
use Rattle.meaning.specs.Search.{listed}
use Rattle.meaning.proofs.Tests.{and_left, and_right}
use Rattle.meaning.proofs.Filling.{length-listed, nth_listed}
use Rattle.partials.specs.declared.Dv.{Dv}
use Rattle.partials.specs.Dual.{cst_dv, dual}
use Rattle.cells.specs.Cell.{cell_at}
use Rattle.cells.proofs.Values.{value_same}
use Rattle.solve.specs.Substitution.{solved}
use Rattle.solve.specs.Stored.{solved_ok}
use Rattle.solve.specs.Outcome.{column, zeros, no_solution, solution_of}
use Rattle.solve.proofs.Lists.{row_le}
use Rattle.solve.proofs.Answers.{column-length, column-at}
use Rattle.solve_partials.specs.Held.{held, Room}
use Rattle.solve_partials.specs.Outcome.{fits, room_of, four, four_of}
use Rattle.solve_partials.specs.View.{no_four}

module _ {A : Type 0} where
  -- what is read within a list does not hang on what is read past it
  any_past : (l : List A) (i : ℕ) (d e : A) → i < length l → get_or l i d ≡ get_or l i e
  any_past [] i d e h = absurd (not-suc-le-zero h)
  any_past (x ∷ l) zero d e h = refl
  any_past (x ∷ l) (suc i) d e h = any_past l i d e (le_of_suc-le-suc h)

  all_same : (n i : ℕ) (z : A) → get_or (replicate n z) i z ≡ z
  all_same zero i z = refl
  all_same (suc n) zero z = refl
  all_same (suc n) (suc i) z = all_same n i z

-- ---- a column of m rows, +0.0 past them
module _ (m : ℕ) (M : List (List Dv)) (b : ℕ) (h : m ≤ 66) where
  pub column_in : (r : ℕ) → r < m → get_or (column dual m M b (zeros dual)) r (cst_dv zero64) ≡ at2 dual M r b
  column_in r l =
      any_past (column dual m M b (zeros dual)) r (cst_dv zero64) dual.off (omega (arith, column-length dual m M b (zeros dual) h))
      ∙ column-at dual m M b (zeros dual) h r l

  pub column-past : (r : ℕ) → m ≤ r → cst_dv zero64 ≡ get_or (column dual m M b (zeros dual)) r (cst_dv zero64)
  unfolding column
  column-past r l =
      let L = listed 0 m (λ r. at2 dual M r b) in
      let e : length L + (r - m) ≡ r = omega (arith, length-listed 0 m (λ r. at2 dual M r b)) in
      sym (ap (λ (k : ℕ). get_or (column dual m M b (zeros dual)) k (cst_dv zero64)) (sym e)
      ∙ get_or-append-add L (drop m (zeros dual)) (r - m) (cst_dv zero64)
      ∙ get_or-drop m (zeros dual) (r - m) (cst_dv zero64)
      ∙ all_same 66 (m + (r - m)) (cst_dv zero64))

-- ---- the four answers, by the verdict
pub none_is : (at : ℕ) → no_four ≡ four_of at (no_solution dual)
unfolding four_of listed
none_is at =
    let s : (i : ℕ) → cst_dv zero64 ≡ get_or (zeros dual) (at + i) (cst_dv zero64) = λ i. sym (all_same 66 (at + i) (cst_dv zero64)) in
    λ t. record { xs = s 0 t ∷ s 1 t ∷ s 2 t ∷ s 3 t ∷ []; ys = s 0 t ∷ s 1 t ∷ s 2 t ∷ s 3 t ∷ []; fine = false }

module _ (m at : ℕ) (M : List (List Dv)) where
  pub fine-four : {fine : Bool} {xs ys : List Dv} → fine ≡ solved_ok dual m M → fine ≡ true
      → xs ≡ four at (column dual m (solved dual m M) m (zeros dual)) → ys ≡ four at (column dual m (solved dual m M) (m + 1) (zeros dual))
      → record { xs = xs; ys = ys; fine = true } ≡ four_of at (solution_of dual m M)
  unfolding four_of solution_of
  fine-four e t x y = rw (sym e ∙ t) (λ i. record { xs = x i; ys = y i; fine = true })

  pub none-four : {fine : Bool} → fine ≡ solved_ok dual m M → fine ≡ false → no_four ≡ four_of at (solution_of dual m M)
  unfolding solution_of
  none-four e t = rw (sym e ∙ t) (none_is at)

-- ---- slices that begin with the rows
pub record Fits (m c doubles bytes : ℕ) : Type 0 where
  pub some : 1 ≤ m
  pub few : m ≤ 14
  pub narrow : c ≤ 27
  pub counts : room_of m ≤ bytes
  pub room : room_of m * (c + 1) ≤ doubles

pub fitting : (m c doubles bytes : ℕ) → fits m c doubles bytes ≡ true → Fits m c doubles bytes
fitting m c doubles bytes h =
    let a = and_right (leb 1 m) _ h in
    let b = and_right (leb m 14) _ a in
    let d = and_right (leb c 27) _ b in
    record {
      some = leb-true 1 m (and_left (leb 1 m) _ h);
      few = leb-true m 14 (and_left (leb m 14) _ a);
      narrow = leb-true c 27 (and_left (leb c 27) _ b);
      counts = leb-true (room_of m) bytes (and_left (leb (room_of m) bytes) _ d);
      room = leb-true (room_of m * (c + 1)) doubles (and_right (leb (room_of m) bytes) _ d);
    }

module _ (c n : ℕ) (w : List Float) (ns : List ℕ) (h : n ≤ length ns) (g : n * (c + 1) ≤ length w) where
  front_long : length (take n ns) ≡ n
  front_long = length-take-le n ns h

  front_cell : (k : ℕ) → k < n → cell_at c (take (n * (c + 1)) w) (take n ns) k ≡ cell_at c w ns k
  unfolding cell_at
  front_cell k l =
      rw (get_or-take n ns k 0 l)
      (value_same (min (get_or ns k 0) c) _ _ (λ j b. get_or-take (n * (c + 1)) w (k * (c + 1) + j) nan (omega (arith, row_le k n (c + 1) l))))

  -- the part of both slices that n cells take up
  pub held_front : held c (take (n * (c + 1)) w) (take n ns) ≡ listed 0 n (cell_at c w ns)
  unfolding held
  held_front =
      ap (λ (k : ℕ). listed 0 k (cell_at c (take (n * (c + 1)) w) (take n ns))) front_long
      ∙ ext_get_or dual.off (listed 0 n (cell_at c (take (n * (c + 1)) w) (take n ns))) (listed 0 n (cell_at c w ns))
      (length-listed 0 n (cell_at c (take (n * (c + 1)) w) (take n ns)) ∙ sym (length-listed 0 n (cell_at c w ns)))
      (λ i l.
      let b : i < n = omega (arith, length-listed 0 n (cell_at c (take (n * (c + 1)) w) (take n ns))) in
      nth_listed n i (cell_at c (take (n * (c + 1)) w) (take n ns)) dual.off b ∙ front_cell i b ∙ sym (nth_listed n i (cell_at c w ns) dual.off b))

  pub front_room : c ≤ 27 → n ≤ 224 → Room c (take (n * (c + 1)) w) (take n ns)
  front_room a b =
      record { narrow = a; few = omega (arith, front_long); room = rw (front_long, length-take-le (n * (c + 1)) w g) (omega arith) }
