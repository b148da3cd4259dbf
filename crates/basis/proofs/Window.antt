-- A span reads six knots: the definition at these alone is the definition at the whole list. Assumes nothing.
use mathlib.Core.Path.{◌≡◌, ap, ◌∙◌}
use Prim.Native.Nat.{ℕ, ◌+◌, ◌-◌, ◌≤◌}
use native.Mathlib.Omega.{arith}
use mathlib.Core.List.{List}
use Rattle.meaning.specs.Scalar.{Ops}
use Rattle.meaning.specs.Loops.{turns}
use Rattle.meaning.specs.Table.{at1}
use Rattle.basis.specs.Triangle.{Sides, sides_turn, triangle_of}
use Rattle.basis.specs.Basis.{derivatives_of, basis_of, window}
use Rattle.basis.proofs.Laws.{basis_in}

module _ {A : Type 0} (o : Ops A) where
  -- a turn reads two knots
  side_reads : (u w : List A) (i m : ℕ) (t : A) (j : ℕ) (s : Sides A)
      → at1 o w (m + 1 - j) ≡ at1 o u (i + 1 - j) → at1 o w (m + j) ≡ at1 o u (i + j) → sides_turn o w m t j s ≡ sides_turn o u i t j s
  unfolding sides_turn
  side_reads u w i m t j s p q = rw (p, q)

  triangle_window : (u : List A) (i : ℕ) (t : A) → 3 ≤ i → triangle_of o (window o u i) 2 t ≡ triangle_of o u i t
  unfolding triangle_of turns
  triangle_window u i t h =
      let turn : (j : ℕ) (s : Sides A) → at1 o (window o u i) (3 - j) ≡ at1 o u (i + 1 - j) → at1 o (window o u i) (2 + j) ≡ at1 o u (i + j)
      → sides_turn o (window o u i) 2 t j s ≡ sides_turn o u i t j s = side_reads u (window o u i) i 2 t in
      let back : (a b : ℕ) → a ≡ b → at1 o u a ≡ at1 o u b = λ a b e. ap (at1 o u) e in
      ap (λ (s : Sides A). s.ndu)
      (turn 3 _ (back (i - 2 + 0) (i + 1 - 3) (omega arith)) (back (i - 2 + 5) (i + 3) (omega arith))
      ∙ ap (sides_turn o u i t 3) (turn 2 _ (back (i - 2 + 1) (i + 1 - 2) (omega arith)) (back (i - 2 + 4) (i + 2) (omega arith))
      ∙ ap (sides_turn o u i t 2) (turn 1 _ (back (i - 2 + 2) (i + 1 - 1) (omega arith)) (back (i - 2 + 3) (i + 1) (omega arith)))))

  -- The definition at the window of six knots, where the span stands at index 2, is the definition at the whole list.
  pub derivatives_window : (u : List A) (i : ℕ) (t : A) (nd : ℕ) → 3 ≤ i → derivatives_of o (window o u i) 2 t nd ≡ derivatives_of o u i t nd
  unfolding derivatives_of
  derivatives_window u i t nd h = rw (triangle_window u i t h)

  -- The same for the definition with the test of the span.
  pub basis_window : (u : List A) (i : ℕ) (t : A) (nd : ℕ) → 3 ≤ i → i ≤ 65 → derivatives_of o (window o u i) 2 t nd ≡ basis_of o u i t nd
  basis_window u i t nd h g = derivatives_window u i t nd h ∙ basis_in o u i t nd h g
