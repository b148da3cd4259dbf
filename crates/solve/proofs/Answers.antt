-- Back substitution: a row's answers as the code works them out and stores them, and what every row answered keeps. Assumes nothing.
use mathlib.Core.Path.{◌≡◌, refl, sym, ap, ◌∙◌}
use mathlib.Core.List.{List, [], ◌++◌}
use Prim.Native.Nat.{ℕ, ◌+◌, ◌-◌, ◌*◌, ◌≤◌, ◌<◌}
use native.Mathlib.Omega.{arith}
use lib.ListN.{length, get_or, set, drop, length-set, length-append, length-drop, get_or-append}
use lib.Seq.{get_or-set_same, set-set, get_or-append-add, get_or-drop}
use Rattle.meaning.specs.Scalar.{Ops, one64}
use Rattle.meaning.specs.Table.{at2}
use Rattle.solve.specs.Rows.{flat, Shaped}
use Rattle.solve.specs.Substitution.{less_term, remains, answer, answered, answered_up, backed}
use Rattle.solve.specs.Outcome.{column}
use Rattle.meaning.specs.Search.{listed}
use Rattle.meaning.proofs.Filling.{length-listed, nth_listed}
use Rattle.solve.proofs.Lists.{turns_next, turns_keep}
use Rattle.solve.proofs.Flat.{shaped_set, write_cell}

module _ {A : Type 0} (o : Ops A) (M : List (List A)) (r c d : ℕ) where
  pub remains-none : remains o M r c d 0 ≡ at2 o M r c
  unfolding remains
  remains-none = refl

  -- one row more is taken off
  pub remains_next : (n : ℕ) → remains o M r c d (n + 1) ≡ less_term o M r c d n (remains o M r c d n)
  unfolding remains
  remains_next n = turns_next (less_term o M r c d) n (at2 o M r c)

-- by the row that is taken off, where row r's own number stands at r
module _ {A : Type 0} (o : Ops A) (M : List (List A)) (r c : ℕ) where
  pub remains-first : remains o M r c r (r + 1 - (r + 1)) ≡ at2 o M r c
  remains-first = let e : r + 1 - (r + 1) ≡ 0 = omega arith in ap (remains o M r c r) e ∙ remains-none o M r c r

  pub remains_below : (k : ℕ) → r < k
      → remains o M r c r (k + 1 - (r + 1)) ≡ o.minus (remains o M r c r (k - (r + 1))) (o.times (at2 o M k c) (at2 o M r k))
  remains_below k h =
      let n = k - (r + 1) in
      let e : k + 1 - (r + 1) ≡ n + 1 = omega arith in
      let q : r + 1 + n ≡ k = omega arith in
      ap (remains o M r c r) e ∙ remains_next o M r c r n ∙ ap (λ (i : ℕ). o.minus (remains o M r c r n) (o.times (at2 o M i c) (at2 o M r i))) q

-- answer c of the row with i rows below it, as the code works it out
pub answer-up : {A : Type 0} (o : Ops A) (m : ℕ) (M : List (List A)) (i c : ℕ) → i < m → {x y : A} → x ≡ remains o M (m - 1 - i) c (m - 1 - i) (m - 1 - (m - 1 - i))
    → y ≡ at2 o M (m - 1 - i) (m - 1 - i) → o.times x (o.over (o.cst one64) y) ≡ answer o M (m - 1 - i) c (m - 1 - i) i
unfolding answer
answer-up o m M i c h p q =
    let r = m - 1 - i in
    let e : m - 1 - r ≡ i = omega arith in
    (λ t. o.times ((p ∙ ap (remains o M r c r) e) t) (o.over (o.cst one64) (q t)))

-- ---- in a buffer w that holds the rows M
module _ {A : Type 0} {m s : ℕ} {M : List (List A)} (rest w : List A) (r : ℕ) (e : w ≡ flat M rest) (sh : Shaped m s M) (h : r < m) where
  -- two numbers stored in a row
  pub write_two : (i j : ℕ) (x y : A) → i < s → j < s → set (set w (r * s + i) x) (r * s + j) y ≡ flat (set M r (set (set (get_or M r []) i x) j y)) rest
  write_two i j x y a b =
      let R = set (get_or M r []) i x in
      let N = set M r R in
      let long : r < length M = omega (arith, sh.count) in
      let shN = shaped_set r R sh h (length-set (get_or M r []) i x ∙ sh.each r h) in
      write_cell rest (set w (r * s + i) x) r (write_cell rest w r e sh h i a x) shN h j b y
      ∙ ap (λ (Q : List A). flat (set N r (set Q j y)) rest) (get_or-set_same M r R [] long)
      ∙ ap (λ (Q : List (List A)). flat Q rest) (set-set M r R (set R j y))

module _ {A : Type 0} (o : Ops A) (m : ℕ) where
  pub answered_shaped : (s k : ℕ) (M : List (List A)) (r d n : ℕ) → r < m → Shaped m s M → Shaped m s (answered o k M r d n)
  unfolding answered
  answered_shaped s k M r d n h sh =
      shaped_set r (set (set (get_or M r []) k (answer o M r k d n)) (k + 1) (answer o M r (k + 1) d n)) sh h (simp length-set (sh.each r h))

  pub backed_next : (n : ℕ) (M : List (List A)) → backed o m (n + 1) M ≡ answered_up o m n (backed o m n M)
  unfolding backed
  backed_next n M = turns_next (answered_up o m) n M

  pub backed_shaped : (s n : ℕ) (M : List (List A)) → n ≤ m → Shaped m s M → Shaped m s (backed o m n M)
  unfolding backed
  backed_shaped s n M h sh =
      turns_keep (answered_up o m) (Shaped m s) m n M (λ i N l. answered_shaped s m N (m - 1 - i) (m - 1 - i) i (omega arith)) h sh

-- ---- a column copied to the front of a list
module _ {A : Type 0} (o : Ops A) (m : ℕ) (M : List (List A)) (c : ℕ) (out : List A) (h : m ≤ length out) where
  pub column-length : length (column o m M c out) ≡ length out
  unfolding column
  column-length = length-append (listed 0 m (λ r. at2 o M r c)) (drop m out) ∙ omega (arith, length-listed 0 m (λ r. at2 o M r c), length-drop m out)

  pub column-at : (r : ℕ) → r < m → get_or (column o m M c out) r o.off ≡ at2 o M r c
  unfolding column
  column-at r l =
      get_or-append (listed 0 m (λ r. at2 o M r c)) (drop m out) o.off r (omega (arith, length-listed 0 m (λ r. at2 o M r c))) ∙ nth_listed m r (λ r. at2 o M r c) o.off l

  pub column-past : (r : ℕ) (d : A) → m ≤ r → get_or (column o m M c out) r d ≡ get_or out r d
  unfolding column
  column-past r d l =
      let L = listed 0 m (λ r. at2 o M r c) in
      let e : length L + (r - m) ≡ r = omega (arith, length-listed 0 m (λ r. at2 o M r c)) in
      let f : m + (r - m) ≡ r = omega arith in
      ap (λ (k : ℕ). get_or (L ++ drop m out) k d) (sym e) ∙ get_or-append-add L (drop m out) (r - m) d ∙ get_or-drop m out (r - m) d ∙ ap (λ (k : ℕ). get_or out k d) f
