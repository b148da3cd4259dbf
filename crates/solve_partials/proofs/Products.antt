-- A value less a product, worked out in place on its doubles: what the loops leave is the definition's value. Assumes nothing.
use mathlib.Core.Path.{◌≡◌, refl, sym, ap, ◌∙◌}
use mathlib.Core.Bool.{◌&&◌, cond}
use mathlib.Core.List.{List}
use Prim.Native.Nat.{ℕ, zero, suc, ◌+◌, ◌-◌, ◌≤◌, ◌<◌, max}
use native.Mathlib.Nat.{zero-add, sub-zero}
use native.Mathlib.Numerals.{add-one}
use native.Mathlib.Omega.{arith}
use lib.ListN.{length, get_or, set}
use lib.Seq.{get_or-set_same, get_or-set_other}
use lib.Dec.{ltb}
use borrow.Author.Tests.{ltb-true, ltb-false}
use lib.Ieee.{Float, binary64, nan, add, sub, mul}
use lib.Ieee.Scale.{finite}
use Rattle.meaning.specs.Scalar.{zero64}
use Rattle.meaning.specs.Loops.{turns}
use Rattle.meaning.specs.Search.{every}
use Rattle.meaning.proofs.Tests.{by_two}
use Rattle.partials.specs.declared.Dv.{Dv}
use Rattle.partials.specs.Dual.{count_of, part_of, partials, zip_dv, sub_dv, mul_dv, fine_dv}
use Rattle.cells.specs.Cell.{value_of, headed}
use Rattle.partials.proofs.Laid.{partials_same}
use Rattle.cells.proofs.Values.{value_same, value-count, value-at, value_part}
use Rattle.solve_partials.specs.Sweep.{Swept}
use Rattle.solve_partials.specs.Held.{numbered, valued, Clean, less_product}

-- partial j of n, where it is counted
abbrev pub part : (ℕ → Float) → ℕ → ℕ → Float
part d n j = cond (ltb j n) (d (suc j)) zero64

-- two values put together
zip_of : (f : Float → Float → Float) (v : Float) (x y : Dv) (nx ny : ℕ) (p q : ℕ → Float) → count_of x ≡ nx → count_of y ≡ ny
    → ((j : ℕ) → part_of x j ≡ p j) → ((j : ℕ) → part_of y j ≡ q j) → zip_dv f v x y ≡ value_of (headed v (λ j. f (p j) (q j))) (max nx ny)
unfolding zip_dv value_of
zip_of f v x y nx ny p q cx cy ex ey =
    ap (λ (l : List Float). record { v = v; g = l; n = max (count_of x) (count_of y) })
    (partials_same (max (count_of x) (count_of y)) (λ j. f (part_of x j) (part_of y j)) (λ j. f (p j) (q j)) (λ j l. λ i. f (ex j i) (ey j i)))
    ∙ (λ i. record { v = v; g = partials (max (cx i) (cy i)) (λ j. f (p j) (q j)); n = max (cx i) (cy i) })

pub zip_values : (f : Float → Float → Float) (v : Float) (a b : ℕ → Float) (na nb : ℕ) → na ≤ 27 → nb ≤ 27
    → zip_dv f v (value_of a na) (value_of b nb) ≡ value_of (headed v (λ j. f (part a na j) (part b nb j))) (max na nb)
zip_values f v a b na nb h g =
    zip_of f v (value_of a na) (value_of b nb) na nb (part a na) (part b nb) (value-count a na h) (value-count b nb g) (value_part a na h) (value_part b nb g)

pub sub_values : (a b : ℕ → Float) (na nb : ℕ) → na ≤ 27 → nb ≤ 27
    → sub_dv (value_of a na) (value_of b nb) ≡ value_of (headed (sub binary64 (a 0) (b 0)) (λ j. sub binary64 (part a na j) (part b nb j))) (max na nb)
unfolding sub_dv value_of
sub_values a b na nb h g = zip_values (λ x y. sub binary64 x y) (sub binary64 (a 0) (b 0)) a b na nb h g

pub mul_values : (a b : ℕ → Float) (na nb : ℕ) → na ≤ 27 → nb ≤ 27
    → mul_dv (value_of a na) (value_of b nb)
    ≡ value_of (headed (mul binary64 (a 0) (b 0)) (λ j. add binary64 (mul binary64 (part a na j) (b 0)) (mul binary64 (a 0) (part b nb j)))) (max na nb)
unfolding mul_dv value_of
mul_values a b na nb h g =
    zip_values (λ x y. add binary64 (mul binary64 x (b 0)) (mul binary64 (a 0) y)) (mul binary64 (a 0) (b 0)) a b na nb h g

-- ---- the verdict on a value of n partials
fine-turns : (d : ℕ → Float) (g : List Float) (n k : ℕ) → ((j : ℕ) → j < n → get_or g j nan ≡ d (suc j)) → k ≤ n
    → turns 0 k (λ j b. b && finite (get_or g j nan)) (finite (d 0)) ≡ every (suc k) (λ j. finite (d j))
unfolding turns every
fine-turns d g n zero h l = refl
fine-turns d g n (suc k) h l =
    let e : 0 + k ≡ k = zero-add k in
    λ i. fine-turns d g n k h (omega arith) i && (ap (λ (j : ℕ). finite (get_or g j nan)) e ∙ ap finite (h k (omega arith))) i

value-first : (d : ℕ → Float) (n : ℕ) → (value_of d n).v ≡ d 0
unfolding value_of
value-first d n = refl

pub fine-value : (d : ℕ → Float) (n : ℕ) → n ≤ 27 → fine_dv (value_of d n) ≡ every (n + 1) (λ j. finite (d j))
unfolding fine_dv
fine-value d n h =
    ap (λ (k : ℕ). turns 0 (k - 0) (λ j b. b && finite (get_or (value_of d n).g j nan)) (finite (value_of d n).v)) (value-count d n h)
    ∙ ap (λ (k : ℕ). turns 0 k (λ j b. b && finite (get_or (value_of d n).g j nan)) (finite (value_of d n).v)) (sub-zero n)
    ∙ ap (λ (x : Float). turns 0 n (λ j b. b && finite (get_or (value_of d n).g j nan)) (finite x)) (value-first d n)
    ∙ fine-turns d (value_of d n).g n n (value-at d n h) (omega arith)
    ∙ ap (λ (k : ℕ). every k (λ j. finite (d j))) (sym (add-one n))

-- ---- the loops of a value t of n partials less the product of a and b
module _ (t a b t₁ t₂ t₃ : List Float) (n na nb np top : ℕ) (both : np ≡ max na nb) (all : top ≡ max n np) where
  -- what a partial of t reads as, once those that it lacks are filled
  module _ (h₁ : Swept (λ j. zero64) nan (n + 1) (top + 1) t t₁) where
    filled_part : (j : ℕ) → j < top → numbered t₁ (suc j) ≡ part (numbered t) n j
    filled_part j l =
        by_two (ltb j n) (λ e. rw e (h₁.before (suc j) (omega (arith, ltb-true j n e))))
        (λ e. rw e (h₁.done (suc j) (omega (arith, ltb-false j n e)) (omega arith)))

    module _ (ca : Clean a na) (cb : Clean b nb) (few : top < 28) (h₂ : Swept (less_product t₁ a b) nan 1 (np + 1) t₁ t₂)
        (h₃ : Swept (λ j. sub binary64 (numbered t₂ j) zero64) nan (np + 1) (top + 1) t₂ t₃) (room : 0 < length t₃) where
      clean_part : (x : List Float) (k : ℕ) → Clean x k → (j : ℕ) → j < 27 → numbered x (suc j) ≡ part (numbered x) k j
      clean_part x k c j l = by_two (ltb j k) (λ e. rw e) (λ e. rw e (c (suc j) (omega (arith, ltb-false j k e)) (omega arith)))

      abbrev product : ℕ → Float
      product j = add binary64 (mul binary64 (part (numbered a) na j) (numbered b 0)) (mul binary64 (numbered a 0) (part (numbered b) nb j))

      abbrev stored : List Float
      stored = set t₃ 0 (sub binary64 (numbered t₃ 0) (mul binary64 (numbered a 0) (numbered b 0)))

      kept-first : numbered t₃ 0 ≡ numbered t 0
      kept-first = h₃.before 0 (omega arith) ∙ h₂.before 0 (omega arith) ∙ h₁.before 0 (omega arith)

      stored_part : (j : ℕ) → j < top → numbered stored (suc j) ≡ sub binary64 (part (numbered t) n j) (part (headed (mul binary64 (numbered a 0) (numbered b 0)) product) np j)
      stored_part j l =
          get_or-set_other t₃ 0 (suc j) _ nan (λ e. absurd (omega arith))
          ∙ by_two (ltb j np)
          (λ e.
          let low = ltb-true j np e in
          h₃.before (suc j) (omega arith)
          ∙ h₂.done (suc j) (omega arith) (omega arith)
          ∙ (λ i. sub binary64 (filled_part j l i) (add binary64 (mul binary64 (clean_part a na ca j (omega arith) i) (numbered b 0)) (mul binary64 (numbered a 0) (clean_part b nb cb j (omega arith) i))))
          ∙ rw e)
          (λ e.
          let high = ltb-false j np e in
          h₃.done (suc j) (omega arith) (omega arith)
          ∙ ap (λ (x : Float). sub binary64 x zero64) (h₂.past (suc j) (omega arith) ∙ filled_part j l)
          ∙ rw e)

      stored_at : (j : ℕ) → j ≤ top → numbered stored j ≡ headed (sub binary64 (numbered t 0) (mul binary64 (numbered a 0) (numbered b 0)))
          (λ j. sub binary64 (part (numbered t) n j) (part (headed (mul binary64 (numbered a 0) (numbered b 0)) product) np j)) j
      stored_at zero l = get_or-set_same t₃ 0 _ nan room ∙ ap (λ (x : Float). sub binary64 x (mul binary64 (numbered a 0) (numbered b 0))) kept-first
      stored_at (suc j) l = stored_part j (omega arith)

      pub subtracted-value : valued stored top ≡ sub_dv (valued t n) (mul_dv (valued a na) (valued b nb))
      subtracted-value =
          let first = headed (mul binary64 (numbered a 0) (numbered b 0)) product in
          value_same top _ _ stored_at
          ∙ sym (ap (sub_dv (valued t n)) (mul_values (numbered a) (numbered b) na nb (omega arith) (omega arith) ∙ ap (value_of first) (sym both))
          ∙ sub_values (numbered t) first n np (omega arith) (omega arith)
          ∙ ap (value_of (headed (sub binary64 (numbered t 0) (first 0)) (λ j. sub binary64 (part (numbered t) n j) (part first np j)))) (sym all))
