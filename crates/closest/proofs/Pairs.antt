-- Points that stand x, y in turn, taken two numbers at a time: what is left of them before turn k. Assumes nothing.
use mathlib.Core.Path.{◌≡◌, sym, ap, ◌∙◌}
use mathlib.Core.List.{List, ◌++◌}
use Prim.Native.Nat.{ℕ, ◌+◌, ◌*◌, ◌≤◌, ◌<◌}
use native.Mathlib.Omega.{arith}
use lib.ListN.{length, drop, get_or, length-drop, get_or-append, length-append}
use lib.Seq.{get_or-drop, drop_at, drop-drop}
use lib.Ieee.{Float, nan}
use Rattle.meaning.specs.Scalar.{plain}
use Rattle.meaning.specs.Table.{at1}
use Rattle.shape.specs.Shape.{points_in}
use Rattle.closest.specs.Many.{point_at}

pub record Left (points : List Float) (k : ℕ) (rest : List Float) (size : ℕ) : Type 0 where
  pub two : size ≡ 2
  pub left : rest ≡ drop (2 * k) points

pub all_left : {points rest : List Float} {k size : ℕ} → rest ≡ points → size ≡ 2 → k ≡ 0 → Left points k rest size
all_left {points} e s c = record { two = s; left = e ∙ ap (λ (j : ℕ). drop (2 * j) points) (sym c) }

module _ {points rest : List Float} {k size : ℕ} (l : Left points k rest size) where
  -- two more
  module _ (pair rest' : List Float) (e : rest ≡ pair ++ rest') (s : length pair ≡ size) where
    long : length pair ≡ 2
    long = s ∙ l.two

    whole : pair ++ rest' ≡ drop (2 * k) points
    whole = sym e ∙ l.left

    pub within : k < points_in points
    within = omega (arith, long, length-append pair rest', ap length whole, length-drop (2 * k) points)

    pub point_is : record { x = at1 plain pair 0; y = at1 plain pair 1 } ≡ point_at points k
    point_is =
        let number : (j : ℕ) → j < 2 → at1 plain pair j ≡ at1 plain points (2 * k + j) =
        λ j h.
        sym (get_or-append pair rest' nan j (omega (arith, long))) ∙ ap (λ (x : List Float). get_or x j nan) whole ∙ get_or-drop (2 * k) points j nan in
        let x : at1 plain pair 0 ≡ at1 plain points (2 * k) = number 0 (omega arith) ∙ ap (λ (j : ℕ). at1 plain points j) (omega arith) in
        let y = number 1 (omega arith) in
        λ i. record { x = x i; y = y i }

    pub less_left : {size' k' : ℕ} → size' ≡ size → k' ≡ k + 1 → Left points k' rest' size'
    less_left p q =
        record {
          two = p ∙ l.two;
          left = sym (drop_at pair rest' 2 long) ∙ ap (drop 2) whole ∙ drop-drop 2 (2 * k) points ∙ ap (λ (j : ℕ). drop j points) (omega (arith, q));
        }

  -- none is left
  pub none_left : length rest < size → points_in points ≤ k
  none_left h = omega (arith, l.two, ap length l.left, length-drop (2 * k) points)
