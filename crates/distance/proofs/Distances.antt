-- The distance, from what the code calls for it. Assumes nothing.
use mathlib.Core.Path.{◌≡◌, refl, sym, ap, ◌∙◌, subst}
use mathlib.Core.Bool.{Bool, true, false, ◌&&◌, cond}
use Prim.Native.Nat.{ℕ}
use lib.Dec.{T}
use lib.Ieee.{Float, nan, inf, fin, lt, le}
use lib.Ieee.Scale.{finite}
use Rattle.meaning.specs.Scalar.{plain}
use Rattle.meaning.specs.Number.{size_of}
use Rattle.meaning.specs.Root.{in_units, unsigned, root_of}
use Rattle.meaning.proofs.Tests.{and_left, and_right, no}
use Rattle.plane.specs.Vector.{Vector, sub_v}
use Rattle.distance_rule.specs.Distance.{root_of_squares, length_of, distance_of}
use Rattle.distance_rule.specs.Squares.{plain_from, square_of}
use Rattle.distance_rule.proofs.Plain.{root_of_square}

-- ---- a size

size_units : (x : Float) → in_units (size_of x) ≡ in_units x
unfolding in_units size_of
size_units nan = refl
size_units (inf s) = refl
size_units (fin s m e) = refl

size_unsigned : (x : Float) → finite x ≡ true → T (unsigned (size_of x))
unfolding size_of
size_unsigned nan h = no h
size_unsigned (inf s) h = no h
size_unsigned (fin s m e) h = tt

-- ---- the three answers

by_difference : (a b : Vector Float) {d : Vector Float} → d ≡ sub_v plain a b
    → cond (finite d.x && finite d.y) (length_of (in_units d.x) (in_units d.y)) (root_of_squares d) ≡ distance_of a b
unfolding distance_of
by_difference a b q = ap (λ (d : Vector Float). cond (finite d.x && finite d.y) (length_of (in_units d.x) (in_units d.y)) (root_of_squares d)) q

module _ (a b : Vector Float) {s : Float} (e : s ≡ square_of a b) where
  pub told : {t : Bool} → t ≡ (le plain_from s && lt s (inf false)) → t ≡ true → {r : Float} → r ≡ root_of s → r ≡ distance_of a b
  told q h g =
      let k : (le plain_from (square_of a b) && lt (square_of a b) (inf false)) ≡ true = rw (← e, ← q) h in
      g ∙ ap root_of e ∙ sym (root_of_square a b (and_left (le plain_from (square_of a b)) (lt (square_of a b) (inf false)) k) (and_right (le plain_from (square_of a b)) (lt (square_of a b) (inf false)) k))

  module _ {d : Vector Float} (q : d ≡ sub_v plain a b) {t : Bool} (f : t ≡ (finite d.x && finite d.y)) where
    chosen : cond t (length_of (in_units d.x) (in_units d.y)) (root_of_squares d) ≡ distance_of a b
    chosen = ap (λ (k : Bool). cond k (length_of (in_units d.x) (in_units d.y)) (root_of_squares d)) f ∙ by_difference a b q

    pub wild : t ≡ false → {r : Float} → r ≡ root_of s → r ≡ distance_of a b
    unfolding square_of
    wild h g =
        g ∙ ap root_of e ∙ ap root_of_squares (sym q) ∙ ap (λ (k : Bool). cond k (length_of (in_units d.x) (in_units d.y)) (root_of_squares d)) (sym h) ∙ chosen

    module _ (h : t ≡ true) where
      pub finite_x : finite d.x ≡ true
      finite_x = and_left (finite d.x) (finite d.y) (sym f ∙ h)

      pub finite_y : finite d.y ≡ true
      finite_y = and_right (finite d.x) (finite d.y) (sym f ∙ h)

      pub measured : {x y r : Float} → x ≡ size_of d.x → y ≡ size_of d.y → r ≡ length_of (in_units x) (in_units y) → r ≡ distance_of a b
      measured {x} {y} ex ey g =
          g
          ∙ ap (λ (u : ℕ). length_of u (in_units y)) (ap in_units ex ∙ size_units d.x)
          ∙ ap (length_of (in_units d.x)) (ap in_units ey ∙ size_units d.y)
          ∙ ap (λ (k : Bool). cond k (length_of (in_units d.x) (in_units d.y)) (root_of_squares d)) (sym h)
          ∙ chosen

pub sized : (d : Float) {x : Float} → x ≡ size_of d → finite d ≡ true → T (unsigned x)
sized d e h = subst (λ (z : Float). T (unsigned z)) (sym e) (size_unsigned d h)
