-- Inner: a list some of whose numbers a loop replaced.
use Rattle.std.specs.Prelude.{◌≡◌, List, ℕ, ◌≤◌, ◌<◌, length, get_or}

-- from index lo on, below hi, f has replaced what stood in t₀; the rest is as it was
pub record Swept {A : Type 0} (f : ℕ → A) (z : A) (lo hi : ℕ) (t₀ t : List A) : Type 0 where
  pub long : length t ≡ length t₀
  pub done : (j : ℕ) → lo ≤ j → j < hi → get_or t j z ≡ f j
  pub before : (j : ℕ) → j < lo → get_or t j z ≡ get_or t₀ j z
  pub past : (j : ℕ) → hi ≤ j → get_or t j z ≡ get_or t₀ j z
