-- Loops as values. The laws that a loop's proof cites are in `proofs/For.antt` and `proofs/While.antt`.
use Rattle.std.specs.Prelude.{Bool, cond, ℕ, zero, suc, ◌+◌, ◌-◌}

-- n turns of f from s, at lo, lo + 1 and so on
unfoldable pub turns : {S : Type 0} → ℕ → ℕ → (ℕ → S → S) → S → S
turns lo zero f s = s
turns lo (suc n) f s = f (lo + n) (turns lo n f s)

-- what `for k in lo..hi { s = f(k, s); }` leaves in s
abbrev pub run : {S : Type 0} → ℕ → ℕ → (ℕ → S → S) → S → S
run lo hi f s = turns lo (hi - lo) f s

-- at most n turns of f from s, while the test holds
unfoldable pub spin : {S : Type 0} → (S → Bool) → (S → S) → ℕ → S → S
spin go f zero s = s
spin go f (suc n) s = cond (go s) (spin go f n (f s)) s

-- What `while go(s) { s = f(s); }` leaves in s, where the measure μ falls at each turn: then as many turns as μ says are enough.
abbrev pub rest : {S : Type 0} → (S → Bool) → (S → S) → (S → ℕ) → S → S
rest go f μ s = spin go f (μ s) s
