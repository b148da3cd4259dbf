-- What a chain over a range answers: the test of every index, and the turns of a loop. Assumes nothing.
use mathlib.Core.Path.{◌≡◌, refl, sym, ap, ◌∙◌}
use mathlib.Core.Bool.{Bool, ◌&&◌}
use Prim.Native.Nat.{ℕ, zero, suc, ◌+◌}
use native.Mathlib.Nat.{add-zero, zero-add, sub-zero}
use native.Mathlib.Omega.{arith}
use Rattle.std.specs.List.{range_with_len, list_all, fold}
use Rattle.meaning.specs.Loops.{turns, run}
use Rattle.meaning.specs.Search.{every}
use Rattle.meaning.proofs.Every.{every-none, every_front, every_same}

module _ (p : ℕ → Bool) where
  all_from : (a n : ℕ) → list_all p (range_with_len a n) ≡ every n (λ i. p (a + i))
  all_from a zero = every-none (λ i. p (a + i))
  all_from a (suc n) =
      (λ i. p (sym (add-zero a) i) && (all_from (a + 1) n ∙ every_same n (λ k. p (a + 1 + k)) (λ k. p (a + suc k)) (λ k l. ap p (omega arith))) i)
      ∙ sym (every_front n (λ i. p (a + i)))

  pub every_listed : (n : ℕ) → list_all p (range_with_len 0 n) ≡ every n p
  every_listed n = all_from 0 n ∙ every_same n (λ i. p (0 + i)) p (λ i l. ap p (zero-add i))

module _ {S : Type 0} (h : S → ℕ → S) where
  turn_front : (a n : ℕ) (s : S) → turns (a + 1) n (λ i v. h v i) (h s a) ≡ turns a (suc n) (λ i v. h v i) s
  unfolding turns
  turn_front a zero s = ap (h s) (sym (add-zero a))
  turn_front a (suc n) s =
      let e : a + 1 + n ≡ a + suc n = omega arith in
      λ i. h (turn_front a n s i) (e i)

  fold_from : (a n : ℕ) (s : S) → fold h s (range_with_len a n) ≡ turns a n (λ i v. h v i) s
  unfolding turns
  fold_from a zero s = refl
  fold_from a (suc n) s = fold_from (a + 1) n (h s a) ∙ turn_front a n s

  pub fold_listed : (n : ℕ) (s : S) → fold h s (range_with_len 0 n) ≡ run 0 n (λ i v. h v i) s
  fold_listed n s = fold_from 0 n s ∙ ap (λ (k : ℕ). turns 0 k (λ i v. h v i) s) (sym (sub-zero n))
