-- A row of the system from its six numbers: the others are +0.0, and finite. Assumes nothing.
use mathlib.Core.Path.{◌≡◌, refl, sym, ap, ◌∙◌}
use mathlib.Core.Bool.{Bool, true, false, ◌&&◌, cond}
use mathlib.Core.List.{List, [], ◌∷◌}
use Prim.Native.Nat.{ℕ, zero, suc, ◌+◌, ◌-◌, ◌≤◌, ◌<◌}
use native.Mathlib.Omega.{arith}
use borrow.Author.Tests.{eqb-true, eqb-false, ne_eqb}
use lib.Dec.{eqb}
use lib.ListN.{length, get_or, set, replicate, length-set, length-replicate, get_or-replicate}
use lib.Seq.{paste, paste-zero, paste-suc, ext_get_or, get_or-set_same, get_or-set_other}
use native.Mathlib.Nat.{zero-add}
use Rattle.std.specs.List.{list_all}
use lib.Ieee.{Float, nan, of_bits}
use lib.Ieee.Scale.{finite}
use Rattle.meaning.specs.Scalar.{Ops, plain, zero64}
use Rattle.meaning.specs.Table.{at1}
use Rattle.meaning.specs.Search.{listed}
use Rattle.meaning.specs.Loops.{turns}
use Rattle.meaning.proofs.Tests.{by_two}
use Rattle.meaning.proofs.Filling.{length-listed, nth_listed}
use Rattle.plane.specs.Vector.{Vector}
use Rattle.solve.specs.Stored.{all_fine}
use Rattle.fit.specs.System.{spread, with_sides}
use Rattle.fit.specs.Stored.{four_put, sides_put, Stored}
use Rattle.fit.proofs.Spread.{column_is, elsewhere, sides_are}

-- ---- a list by its entries

record Entries (n : ℕ) (f : ℕ → Float) (l : List Float) : Type 0 where
  long : length l ≡ n
  each : (k : ℕ) → k < n → get_or l k nan ≡ f k

zeros_entries : (n : ℕ) → Entries n (λ k. zero64) (replicate n zero64)
zeros_entries n = record { long = length-replicate n zero64; each = λ k h. get_or-replicate n k zero64 nan h }

-- with another entry j
abbrev but : ℕ → Float → (ℕ → Float) → ℕ → Float
but j v f k = cond (eqb k j) v (f k)

put_entries : {n : ℕ} {f : ℕ → Float} {l : List Float} (j : ℕ) (v : Float) → j < n → Entries n f l → Entries n (but j v f) (set l j v)
put_entries {n} {f} {l} j v h e =
    record {
      long = length-set l j v ∙ e.long;
      each = λ k b.
          by_two (eqb k j)
          (λ t. let q = eqb-true k j t in rw t (rw q (get_or-set_same l j v nan (omega (arith, e.long)))))
          (λ t. rw t (get_or-set_other l j k v nan (eqb-false k j t) ∙ e.each k b));
    }

-- a copy into a list, number by number
pub copied : (n : ℕ) (four : List Float) (at : ℕ) (l : List Float) → n ≤ length four → at + n ≤ length l
    → paste l at four n ≡ turns 0 n (λ j t. set t (at + j) (at1 plain four j)) l
unfolding turns
copied zero four at l h k = sym (paste-zero l at four)
copied (suc n) four at l h k =
    sym (paste-suc l at four n nan (omega arith) (omega arith))
    ∙ ap (λ (t : List Float). set t (at + n) (at1 plain four n)) (copied n four at l (omega arith) (omega arith))
    ∙ ap (λ (j : ℕ). set (turns 0 n (λ j t. set t (at + j) (at1 plain four j)) l) (at + j) (at1 plain four j)) (sym (zero-add n))

-- ---- the row

module _ (four : List Float) (a m : ℕ) (b : Vector Float) (high : a + 3 < m) where
  abbrev numbers : ℕ → Float
  numbers =
      let f : ℕ → Float = at1 plain four in
      but (m + 1) b.y (but m b.x (but (a + 3) (f 3) (but (a + 2) (f 2) (but (a + 1) (f 1) (but (a + 0) (f 0) (λ k. zero64))))))

  six_entries : Entries (m + 2) numbers (sides_put m b (four_put four a (replicate (m + 2) zero64)))
  unfolding sides_put four_put turns
  six_entries =
      put_entries (m + 1) b.y (omega arith) (put_entries m b.x (omega arith)
      (put_entries (a + 3) _ (omega arith) (put_entries (a + 2) _ (omega arith)
      (put_entries (a + 1) _ (omega arith) (put_entries (a + 0) _ (omega arith) (zeros_entries (m + 2)))))))

  abbrev row : ℕ → Float
  row = with_sides plain m (spread plain four (a + 3)) b

  -- what stands in its columns
  column : (k j : ℕ) → j ≤ 3 → k ≡ a + j → row k ≡ at1 plain four j
  column = column_is plain four a m b high

  nowhere : (k : ℕ) → k < m → ((j : ℕ) → j ≤ 3 → k ≡ a + j → ⊥) → row k ≡ zero64
  nowhere = elsewhere plain four a m b high

  sides : (k : ℕ) → m ≤ k → row k ≡ cond (eqb k m) b.x b.y
  sides = sides_are plain four a m b high

  -- where k is none of the six, and where it is one
  same_number : (k : ℕ) → k < m + 2 → numbers k ≡ row k
  same_number k h =
      by_two (eqb k (m + 1)) (λ t. rw t (sym (sides k (omega (arith, eqb-true k (m + 1) t)) ∙ rw (ne_eqb k m (omega (arith, eqb-true k (m + 1) t))) refl)))
      (λ t.
      rw t (by_two (eqb k m) (λ u. rw u (sym (sides k (omega (arith, eqb-true k m u)) ∙ rw u refl)))
      (λ u.
      let inside : k < m = omega (arith, eqb-false k (m + 1) t, eqb-false k m u) in
      rw u (columns k inside))))
    where
      columns : (k : ℕ) → k < m → but (a + 3) (at1 plain four 3) (but (a + 2) (at1 plain four 2) (but (a + 1) (at1 plain four 1) (but (a + 0) (at1 plain four 0) (λ j. zero64)))) k ≡ row k
      columns k h =
          by_two (eqb k (a + 3)) (λ t. rw t (sym (column k 3 (omega arith) (eqb-true k (a + 3) t))))
          (λ t3.
          rw t3 (by_two (eqb k (a + 2)) (λ t. rw t (sym (column k 2 (omega arith) (eqb-true k (a + 2) t))))
          (λ t2.
          rw t2 (by_two (eqb k (a + 1)) (λ t. rw t (sym (column k 1 (omega arith) (eqb-true k (a + 1) t))))
          (λ t1.
          rw t1 (by_two (eqb k (a + 0)) (λ t. rw t (sym (column k 0 (omega arith) (eqb-true k (a + 0) t))))
          (λ t0. rw t0 (sym (nowhere k h (λ j l e. omega (arith, eqb-false k (a + 3) t3, eqb-false k (a + 2) t2, eqb-false k (a + 1) t1, eqb-false k (a + 0) t0)))))))))))

  -- the row that is put together is the system's
  pub six-row : sides_put m b (four_put four a (replicate (m + 2) zero64)) ≡ listed 0 (m + 2) row
  six-row =
      ext_get_or nan _ (listed 0 (m + 2) row) (six_entries.long ∙ sym (length-listed 0 (m + 2) row))
      (λ k h.
      let low : k < m + 2 = omega (arith, six_entries.long) in
      six_entries.each k low ∙ same_number k low ∙ sym (nth_listed (m + 2) k row nan low))

-- ---- its verdict

fine-zeros : (n : ℕ) → all_fine plain (replicate n zero64) ≡ true
unfolding all_fine of_bits
fine-zeros zero = refl
fine-zeros (suc n) = fine-zeros n

pub all-fine : {A : Type 0} (o : Ops A) (l : List A) → list_all o.fine l ≡ all_fine o l
unfolding all_fine
all-fine o [] = refl
all-fine o (x ∷ l) = ap (λ (b : Bool). o.fine x && b) (all-fine o l)

and_swap : (a b c : Bool) → a && (b && c) ≡ b && (a && c)
and_swap true b c = refl
and_swap false true c = refl
and_swap false false c = refl

-- a number in the place of +0.0
fine_set : (l : List Float) (k : ℕ) (x : Float) → k < length l → get_or l k nan ≡ zero64 → all_fine plain (set l k x) ≡ (finite x && all_fine plain l)
unfolding all_fine of_bits
fine_set [] k x h z = absurd (omega arith)
fine_set (y ∷ l) zero x h z = rw z refl
fine_set (y ∷ l) (suc k) x h z = ap (λ (q : Bool). finite y && q) (fine_set l k x (omega arith) z) ∙ and_swap (finite y) (finite x) (all_fine plain l)

-- from j on there is nothing but +0.0 yet
record Blank (n j : ℕ) (l : List Float) (fine : Bool) : Type 0 where
  long : length l ≡ n
  blank : (k : ℕ) → j ≤ k → k < n → get_or l k nan ≡ zero64
  verdict : all_fine plain l ≡ fine

put_blank : {n j : ℕ} {l : List Float} {fine : Bool} (p : ℕ) (x : Float) → j ≤ p → p < n → Blank n j l fine → Blank n (p + 1) (set l p x) (finite x && fine)
put_blank {n} {j} {l} {fine} p x low high b =
    record {
      long = length-set l p x ∙ b.long;
      blank = λ k h t. get_or-set_other l p k x nan (λ e. omega arith) ∙ b.blank k (omega arith) t;
      verdict = fine_set l p x (omega (arith, b.long)) (b.blank p low high) ∙ ap (λ (q : Bool). finite x && q) b.verdict;
    }

-- the six, the last that is put first
abbrev pub six_of : List Float → Vector Float → List Float
six_of four b = let f : ℕ → Float = at1 plain four in b.y ∷ b.x ∷ f 3 ∷ f 2 ∷ f 1 ∷ f 0 ∷ []

module _ (four : List Float) (a m : ℕ) (b : Vector Float) (high : a + 3 < m) where
  six_blank : Blank (m + 2) (m + 1 + 1) (sides_put m b (four_put four a (replicate (m + 2) zero64))) (all_fine plain (six_of four b))
  unfolding sides_put four_put turns all_fine
  six_blank =
      let none : Blank (m + 2) 0 (replicate (m + 2) zero64) true =
      record { long = length-replicate (m + 2) zero64; blank = λ k h t. get_or-replicate (m + 2) k zero64 nan t; verdict = fine-zeros (m + 2) } in
      put_blank (m + 1) b.y (omega arith) (omega arith) (put_blank m b.x (omega arith) (omega arith)
      (put_blank (a + 3) _ (omega arith) (omega arith) (put_blank (a + 2) _ (omega arith) (omega arith)
      (put_blank (a + 1) _ (omega arith) (omega arith) (put_blank (a + 0) _ (omega arith) (omega arith) none)))))

  -- all of it is finite where the six are
  pub six-fine : all_fine plain (listed 0 (m + 2) (with_sides plain m (spread plain four (a + 3)) b)) ≡ all_fine plain (six_of four b)
  six-fine = ap (all_fine plain) (sym (six-row four a m b high)) ∙ six_blank.verdict

-- what a row of m + 2 numbers holds once it is cleared and the six are put, with the verdict on them
pub six_stored : (four : List Float) (i m : ℕ) (b : Vector Float) → 3 ≤ i → i < m → {n : ℕ} {t₁ t₂ t₃ : List Float} {q : Bool} → n ≡ m + 2
    → t₁ ≡ replicate n zero64 → t₂ ≡ four_put four (i - 3) t₁ → t₃ ≡ sides_put m b t₂ → q ≡ list_all finite (six_of four b)
    → Stored (listed 0 (m + 2) (with_sides plain m (spread plain four i) b)) t₃ q
six_stored four i m b low high e clear put sides judged =
    let back : i - 3 + 3 ≡ i = omega arith in
    let room : i - 3 + 3 < m = omega arith in
    let row : ℕ → List Float = λ j. listed 0 (m + 2) (with_sides plain m (spread plain four j) b) in
    record {
      held = sides ∙ ap (sides_put m b) (put ∙ ap (four_put four (i - 3)) (clear ∙ ap (λ (n : ℕ). replicate n zero64) e)) ∙ six-row four (i - 3) m b room ∙ ap row back;
      judged = judged ∙ all-fine plain (six_of four b) ∙ sym (six-fine four (i - 3) m b room) ∙ ap (λ (j : ℕ). all_fine plain (row j)) back;
    }
