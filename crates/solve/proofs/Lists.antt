-- A list that a loop rewrites from the front, and turns from 0 on. Assumes nothing.
use mathlib.Core.Path.{◌≡◌, refl, sym, ap, subst}
use mathlib.Core.Bool.{Bool, true, false, cond}
use mathlib.Core.List.{List, [], ◌∷◌, ◌++◌}
use Prim.Native.Nat.{ℕ, zero, suc, ◌+◌, ◌*◌, ◌≤◌, ◌<◌, suc-le-suc}
use native.Mathlib.Nat.{le_of_suc-le-suc, not-suc-le-zero, zero-add, suc_inj, suc-ne-zero, mul-le-mul_right, suc-mul, zero-lt-suc}
use native.Mathlib.Omega.{arith}
use native.Mathlib.Numerals.{add-one}
use lib.ListN.{length, get_or, set, take, drop}
use Rattle.meaning.specs.Loops.{turns}

-- row r ends within m rows of s
pub row_le : (r m s : ℕ) → r < m → r * s + s ≤ m * s
row_le r m s h = subst (λ (n : ℕ). n ≤ m * s) (suc-mul r s) (mul-le-mul_right s h)

module _ {A : Type 0} where
  pub length_cond : (b : Bool) (x y : List A) (n : ℕ) → length x ≡ n → length y ≡ n → length (cond b x y) ≡ n
  length_cond true x y n e f = e
  length_cond false x y n e f = f

  -- ---- a loop that rewrites t into r, from the front: what it has made of t once it is at k
  abbrev pub blend : ℕ → List A → List A → List A
  blend k r t = take k r ++ drop k t

  blend_suc : (r t : List A) (k : ℕ) (d : A) → length r ≡ length t → k < length t → set (blend k r t) k (get_or r k d) ≡ blend (suc k) r t
  blend_suc r [] k d e h = absurd (not-suc-le-zero h)
  blend_suc [] (y ∷ t) k d e h = absurd (suc-ne-zero (length t) (sym e))
  blend_suc (x ∷ r) (y ∷ t) zero d e h = refl
  blend_suc (x ∷ r) (y ∷ t) (suc k) d e h = ap (λ (l : List A). x ∷ l) (blend_suc r t k d (suc_inj e) (le_of_suc-le-suc h))

  -- its store at k
  pub blend_next : (r t₀ t : List A) (k : ℕ) (v d : A) → t ≡ blend k r t₀ → length r ≡ length t₀ → k < length t₀ → v ≡ get_or r k d → set t k v ≡ blend (k + 1) r t₀
  blend_next r t₀ t k v d e l h w = rw (e, w, add-one k) (blend_suc r t₀ k d l h)

  -- what it reads at k is still t's
  pub blend_get : (r t : List A) (k : ℕ) (d : A) → length r ≡ length t → get_or (blend k r t) k d ≡ get_or t k d
  blend_get [] [] zero d e = refl
  blend_get [] [] (suc k) d e = refl
  blend_get (x ∷ r) [] k d e = absurd (suc-ne-zero (length r) e)
  blend_get [] (y ∷ t) k d e = absurd (suc-ne-zero (length t) (sym e))
  blend_get (x ∷ r) (y ∷ t) zero d e = refl
  blend_get (x ∷ r) (y ∷ t) (suc k) d e = blend_get r t k d (suc_inj e)

  -- past the end it has made r
  pub blend_all : (r t : List A) (k : ℕ) → length r ≡ length t → length t ≤ k → blend k r t ≡ r
  blend_all [] [] zero e h = refl
  blend_all [] [] (suc k) e h = refl
  blend_all (x ∷ r) [] k e h = absurd (suc-ne-zero (length r) e)
  blend_all [] (y ∷ t) k e h = absurd (suc-ne-zero (length t) (sym e))
  blend_all (x ∷ r) (y ∷ t) zero e h = absurd (not-suc-le-zero h)
  blend_all (x ∷ r) (y ∷ t) (suc k) e h = ap (λ (l : List A). x ∷ l) (blend_all r t k (suc_inj e) (le_of_suc-le-suc h))

  -- where r begins as t does, nothing is to be done before k
  pub blend_start : (r t : List A) (k : ℕ) (d : A) → length r ≡ length t → ((i : ℕ) → i < k → get_or r i d ≡ get_or t i d) → blend k r t ≡ t
  blend_start [] [] zero d e h = refl
  blend_start [] [] (suc k) d e h = refl
  blend_start (x ∷ r) [] k d e h = absurd (suc-ne-zero (length r) e)
  blend_start [] (y ∷ t) k d e h = absurd (suc-ne-zero (length t) (sym e))
  blend_start (x ∷ r) (y ∷ t) zero d e h = refl
  blend_start (x ∷ r) (y ∷ t) (suc k) d e h =
      λ i. h zero (zero-lt-suc k) i ∷ blend_start r t k d (suc_inj e) (λ n b. h (suc n) (suc-le-suc b)) i

-- ---- turns from 0 on: one more, and what every turn keeps
module _ {S : Type 0} (f : ℕ → S → S) where
  pub turns_next : (n : ℕ) (s : S) → turns 0 (n + 1) f s ≡ f n (turns 0 n f s)
  unfolding turns
  turns_next n s = rw add-one (ap (λ (k : ℕ). f k (turns 0 n f s)) (zero-add n))

  pub turns_keep : (P : S → Type 0) (m n : ℕ) (s : S) → ((k : ℕ) (x : S) → k < m → P x → P (f k x)) → n ≤ m → P s → P (turns 0 n f s)
  unfolding turns
  turns_keep P m zero s h l p = p
  turns_keep P m (suc n) s h l p = h (0 + n) (turns 0 n f s) (omega arith) (turns_keep P m n s h (omega arith) p)
