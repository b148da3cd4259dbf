-- Sums of steps, parameters and knots: each case of a definition, and that they depend on the numbers they are made of alone. Assumes nothing.
use mathlib.Core.Path.{◌≡◌, refl, sym, ap, ◌∙◌}
use mathlib.Core.Bool.{Bool, true, false, cond}
use mathlib.Core.List.{List, ◌∷◌}
use Prim.Native.Nat.{ℕ, zero, suc, ◌+◌, ◌-◌, ◌≤◌, ◌<◌}
use native.Mathlib.Omega.{arith}
use lib.Dec.{ltb, eqb}
use borrow.Author.Tests.{lt-ltb, le-ltb, ltb-true, eq-eqb, ne_eqb}
use Rattle.meaning.specs.Scalar.{Ops, zero64, one64}
use Rattle.meaning.specs.Loops.{turns}
use Rattle.meaning.specs.Search.{listed}
use Rattle.solve.proofs.Lists.{turns_next}
use Rattle.plane.specs.Vector.{Vector}
use Rattle.fit.specs.Parameters.{point_at, step_of, step_at, sum_of, parameter_at, knot_at, knots_by}

-- turns that do the same leave the same
turns_cong : {S : Type 0} (n : ℕ) (f g : ℕ → S → S) (s : S) → ((i : ℕ) (x : S) → i < n → f i x ≡ g i x) → turns 0 n f s ≡ turns 0 n g s
unfolding turns
turns_cong zero f g s h = refl
turns_cong (suc n) f g s h = ap (f (0 + n)) (turns_cong n f g s (λ i x l. h i x (omega arith))) ∙ h (0 + n) (turns 0 n g s) (omega arith)

-- and lists with the same entries are the same
pub listed_cong : {A : Type 0} (i d : ℕ) (f g : ℕ → A) → ((j : ℕ) → j < i + d → f j ≡ g j) → listed i d f ≡ listed i d g
unfolding listed
listed_cong i zero f g h = refl
listed_cong i (suc d) f g h = λ t. h i (omega arith) t ∷ listed_cong (suc i) d f g (λ j l. h j (omega arith)) t

-- no step at all
pub sum_none : {A : Type 0} (o : Ops A) (st : ℕ → A) → o.cst zero64 ≡ sum_of o st 0
unfolding sum_of turns
sum_none o st = refl

-- two values of a choice agree if its first cases do where it is taken
pub choice_cong : {A : Type 0} (b : Bool) (x y z : A) → (b ≡ true → x ≡ y) → cond b x z ≡ cond b y z
choice_cong true x y z h = h refl
choice_cong false x y z h = refl

module _ {A : Type 0} (o : Ops A) where
  -- the step between two points that were read
  pub step_made : (q : List A) (k : ℕ) {a b : Vector A} {s : A} → a ≡ point_at o q k → b ≡ point_at o q (k + 1) → s ≡ step_of o a b → s ≡ step_at o q k
  unfolding step_at
  step_made q k ha hb e = e ∙ (λ i. step_of o (ha i) (hb i))

  pub parameter_first : (st : ℕ → A) (n k : ℕ) → k ≡ 0 → o.cst zero64 ≡ parameter_at o st n k
  unfolding parameter_at
  parameter_first st n k h = rw (eq-eqb k 0 h)

  pub parameter_inner : (st : ℕ → A) (n k : ℕ) → 1 ≤ k → k < n - 1 → o.over (sum_of o st k) (sum_of o st (n - 1)) ≡ parameter_at o st n k
  unfolding parameter_at
  parameter_inner st n k a b = rw (ne_eqb k 0 (λ z. omega arith), lt-ltb k (n - 1) b)

  pub parameter_past : (st : ℕ → A) (n k : ℕ) → 1 ≤ k → n - 1 ≤ k → o.cst one64 ≡ parameter_at o st n k
  unfolding parameter_at
  parameter_past st n k a b = rw (ne_eqb k 0 (λ z. omega arith), le-ltb k (n - 1) b)

  pub parameter_last : (st : ℕ → A) (n : ℕ) → 2 ≤ n → o.cst one64 ≡ parameter_at o st n (n - 1)
  parameter_last st n h = parameter_past st n (n - 1) (omega arith) (omega arith)

  pub sum_cong : (f g : ℕ → A) (k : ℕ) → ((i : ℕ) → i < k → f i ≡ g i) → sum_of o f k ≡ sum_of o g k
  unfolding sum_of
  sum_cong f g k h = turns_cong (k - 0) (λ i s. o.plus s (f i)) (λ i s. o.plus s (g i)) (o.cst zero64) (λ i x l. ap (o.plus x) (h i (omega arith)))

  -- one step more
  pub sum_next : (st : ℕ → A) (k : ℕ) {x y : A} → x ≡ sum_of o st k → y ≡ o.plus x (st k) → y ≡ sum_of o st (k + 1)
  unfolding sum_of
  sum_next st k q e =
      let f : ℕ → A → A = λ i s. o.plus s (st i) in
      let z = o.cst zero64 in
      let a : k - 0 ≡ k = omega arith in
      let b : k + 1 ≡ k + 1 - 0 = omega arith in
      e ∙ ap (f k) (q ∙ ap (λ (m : ℕ). turns 0 m f z) a) ∙ sym (turns_next f k z) ∙ ap (λ (m : ℕ). turns 0 m f z) b

  pub parameter_cong : (f g : ℕ → A) (n k : ℕ) → ((i : ℕ) → i < n - 1 → f i ≡ g i) → parameter_at o f n k ≡ parameter_at o g n k
  unfolding parameter_at
  parameter_cong f g n k h =
      let all = sum_cong f g (n - 1) h in
      ap (cond (eqb k 0) (o.cst zero64))
      (choice_cong (ltb k (n - 1)) (o.over (sum_of o f k) (sum_of o f (n - 1))) (o.over (sum_of o g k) (sum_of o g (n - 1))) (o.cst one64)
      (λ e. let l : k < n - 1 = ltb-true k (n - 1) e in λ t. o.over (sum_cong f g k (λ i b. h i (omega arith)) t) (all t)))

  pub knot_cong : (p q : ℕ → A) (n j : ℕ) → 1 ≤ n → ((k : ℕ) → k < n → p k ≡ q k) → knot_at o p n j ≡ knot_at o q n j
  unfolding knot_at
  knot_cong p q n j m h =
      ap (cond (ltb j 4) (o.cst zero64))
      (choice_cong (ltb j (n + 2)) (p (j - 3)) (q (j - 3)) (cond (ltb j (n + 6)) (o.cst one64) (o.cst zero64))
      (λ e. let l : j < n + 2 = ltb-true j (n + 2) e in h (j - 3) (omega arith)))

  pub knots_cong : (p q : ℕ → A) (n : ℕ) → 1 ≤ n → ((k : ℕ) → k < n → p k ≡ q k) → knots_by o p n ≡ knots_by o q n
  unfolding knots_by
  knots_cong p q n m h = listed_cong 0 70 (knot_at o p n) (knot_at o q n) (λ j l. knot_cong p q n j m h)
