-- Inner: a test that fails at each index of a range, as the fast pass before a search tells it.
use Rattle.std.specs.Prelude.{◌≡◌, Bool, false, ℕ, ◌≤◌, ◌<◌}

abbrev pub Nowhere : (ℕ → Bool) → ℕ → ℕ → Type 0
Nowhere p lo hi = (i : ℕ) → lo ≤ i → i < hi → p i ≡ false
