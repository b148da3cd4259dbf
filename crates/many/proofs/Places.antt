-- A list filled place by place, as a loop fills it, and what stands in each place afterwards. Assumes nothing.
use mathlib.Core.Path.{◌≡◌, refl, sym, ap, ◌∙◌, subst}
use mathlib.Core.List.{List, [], ◌∷◌, ◌++◌, append_assoc}
use Prim.Native.Nat.{ℕ, zero, suc, ◌+◌, ◌*◌, ◌≤◌, ◌<◌}
use native.Mathlib.Nat.{zero-mul, suc-mul, mul-one, mul-le-mul_right, not-suc-le-zero}
use native.Mathlib.Omega.{arith}
use lib.Dec.{eqb}
use borrow.Author.Tests.{eqb-true, eqb-false}
use lib.ListN.{length, get_or, set, take, drop, length-append, length-drop}
use lib.Seq.{take_at, drop_at, drop-append-add, drop-drop, length-take-le, get_or-take, get_or-drop, set_split}
use Rattle.meaning.proofs.Tests.{by_two}
use Rattle.many.specs.Many.{place_of, joined, in_places}

-- place k of n ends within them
pub place_end : (k n w : ℕ) → k < n → k * w + w ≤ n * w
place_end k n w h = subst (λ (m : ℕ). m ≤ n * w) (suc-mul k w) (mul-le-mul_right w h)

module _ {A : Type 0} (w : ℕ) (f : ℕ → List A) (l : List A) where
  -- each of the first n is as long as a place
  abbrev pub Wide : ℕ → Type 0
  Wide n = (k : ℕ) → k < n → length (f k) ≡ w

  pub length-joined : (n : ℕ) → Wide n → length (joined n f) ≡ n * w
  unfolding joined
  length-joined zero h = sym (zero-mul w)
  length-joined (suc n) h =
      length-append (joined n f) (f n) ∙ (λ i. length-joined n (λ k g. h k (omega arith)) i + h n (omega arith) i) ∙ sym (suc-mul n w)

  -- nothing is filled yet
  pub none_filled : l ≡ in_places 0 w f l
  unfolding joined
  none_filled = rw (zero-mul w)

  pub length-places : (n : ℕ) → Wide n → n * w ≤ length l → length (in_places n w f l) ≡ length l
  length-places n h r = length-append (joined n f) (drop (n * w) l) ∙ rw (length-joined n h, length-drop (n * w) l) (omega arith)

  -- the next place still holds what it did
  pub next_place : (n : ℕ) → Wide n → place_of w n (in_places n w f l) ≡ place_of w n l
  next_place n h = ap (take w) (drop_at (joined n f) (drop (n * w) l) (n * w) (length-joined n h))

  -- and is filled
  pub one_filled : (n : ℕ) → Wide n → take (n * w) (in_places n w f l) ++ (f n ++ drop (n * w + w) (in_places n w f l)) ≡ in_places (suc n) w f l
  unfolding joined
  one_filled n h =
      let long = length-joined n h in
      let front = take_at (joined n f) (drop (n * w) l) (n * w) long in
      let back : drop (n * w + w) (in_places n w f l) ≡ drop (suc n * w) l =
      ap (λ (m : ℕ). drop (m + w) (in_places n w f l)) (sym long) ∙ drop-append-add (joined n f) (drop (n * w) l) w ∙ drop-drop w (n * w) l ∙ rw (suc-mul n w) in
      (λ i. front i ++ (f n ++ back i)) ∙ sym (append_assoc (joined n f) (f n) (drop (suc n * w) l))

  -- what stands in place k of n
  filled_with : (n k : ℕ) → Wide n → k < n → (r : List A) → place_of w k (joined n f ++ r) ≡ f k
  unfolding joined
  filled_with zero k h g r = absurd (not-suc-le-zero g)
  filled_with (suc n) k h g r =
      ap (place_of w k) (append_assoc (joined n f) (f n) r)
      ∙ by_two (eqb k n)
      (λ e.
      let q = eqb-true k n e in
      let there = drop_at (joined n f) (f n ++ r) (n * w) (length-joined n (λ j m. h j (omega arith))) in
      rw q (ap (take w) there ∙ take_at (f n) r w (h n (omega arith))))
      (λ e. let q = eqb-false k n e in filled_with n k (λ j m. h j (omega arith)) (omega (arith, q)) (f n ++ r))

  pub place_filled : (n k : ℕ) → Wide n → k < n → place_of w k (in_places n w f l) ≡ f k
  place_filled n k h g = filled_with n k h g (drop (n * w) l)

-- a place is w long where there is room
pub place-long : {A : Type 0} (w k n : ℕ) (l : List A) → n * w ≤ length l → k < n → length (place_of w k l) ≡ w
place-long w k n l h g = length-take-le w (drop (k * w) l) (omega (arith, place_end k n w g, length-drop (k * w) l))

-- places of one entry are filled by index
module _ {A : Type 0} (v : ℕ → A) (l : List A) where
  abbrev alone : ℕ → List A
  alone k = v k ∷ []

  pub one_set : (n : ℕ) → n < length l → {m : List A} → m ≡ in_places n 1 (λ k. v k ∷ []) l → set m n (v n) ≡ in_places (suc n) 1 (λ k. v k ∷ []) l
  one_set n h {m} e =
      let long : length m ≡ length l = ap length e ∙ length-places 1 alone l n (λ k g. refl) (omega arith) in
      let at : n * 1 ≡ n = mul-one n in
      let next : n * 1 + 1 ≡ suc n = omega arith in
      set_split m n (v n) (omega arith)
      ∙ (λ i. take (sym at i) m ++ (v n ∷ drop (sym next i) m))
      ∙ ap (λ (x : List A). take (n * 1) x ++ (v n ∷ drop (n * 1 + 1) x)) e
      ∙ one_filled 1 alone l n (λ k g. refl)

  pub one_stands : (n k : ℕ) (z : A) → k < n → get_or (in_places n 1 (λ k. v k ∷ []) l) k z ≡ v k
  one_stands n k z h =
      let m = in_places n 1 alone l in
      let at : k * 1 + 0 ≡ k = omega arith in
      let there : get_or (place_of 1 k m) 0 z ≡ v k = ap (λ (x : List A). get_or x 0 z) (place_filled 1 alone l n k (λ k g. refl) h) in
      let inner : get_or (place_of 1 k m) 0 z ≡ get_or m k z = get_or-take 1 (drop (k * 1) m) 0 z (omega arith) ∙ get_or-drop (k * 1) m 0 z ∙ rw at in
      sym inner ∙ there
