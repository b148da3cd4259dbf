-- The length that a build stores is that of the control points which it writes into slices, so that whoever keeps these has it from the length's
-- own question. Assumes nothing.
use mathlib.Core.Path.{◌≡◌, sym, ap, ◌∙◌}
use mathlib.Core.Bool.{Bool}
use mathlib.Core.List.{List}
use Prim.Native.Nat.{ℕ, ◌+◌, ◌*◌, ◌/◌, ◌≤◌, ◌<◌}
use native.Mathlib.Omega.{arith}
use lib.ListN.{length}
use lib.Ieee.{Float, nan}
use Rattle.meaning.specs.Scalar.{plain}
use Rattle.meaning.specs.Table.{at1}
use Rattle.meaning.proofs.Filling.{length-listed, nth_listed}
use Rattle.knots.specs.declared.Form.{Form}
use Rattle.knots.specs.declared.Form.TheVariants.{Control, Fit}
use Rattle.shape.specs.Shape.{points_in, every_other, slice_shape}
use Rattle.shape.proofs.Sound.{other_at}
use Rattle.polygon.specs.Polygon.{length_of}
use Rattle.polygon.proofs.Corners.{same_length}
use Rattle.curve.specs.Record.{length_in}
use Rattle.fit.specs.Fit.{curve_through}
use Rattle.build.specs.Build.{curve_of, controls_in, in_turn}
use Rattle.build.proofs.Turned.{turned, even, odd}

module _ (m : ℕ) (few : m ≤ 66) (xs ys : List Float) where
  counted : points_in (in_turn m xs ys) ≡ m
  unfolding in_turn
  counted = ap (λ (k : ℕ). k / 2) (length-listed 0 (2 * m) (turned xs ys)) ∙ halved m
    where
      halved : (k : ℕ) → 2 * k / 2 ≡ k
      halved k = omega arith

  number : (j : ℕ) → j < 2 * m → at1 plain (in_turn m xs ys) j ≡ turned xs ys j
  unfolding in_turn
  number j h = nth_listed (2 * m) j (turned xs ys) nan h

  x-at : (i : ℕ) → i < m → at1 plain (every_other (in_turn m xs ys) m 0) i ≡ at1 plain xs i
  x-at i h =
      let e : 2 * i + 0 ≡ 2 * i = omega arith in
      other_at (in_turn m xs ys) m 0 i few h ∙ ap (at1 plain (in_turn m xs ys)) e ∙ number (2 * i) (omega arith) ∙ sym (even xs ys i)

  y-at : (i : ℕ) → i < m → at1 plain (every_other (in_turn m xs ys) m 1) i ≡ at1 plain ys i
  y-at i h = other_at (in_turn m xs ys) m 1 i few h ∙ number (2 * i + 1) (omega arith) ∙ sym (odd xs ys i)

  in_turn-length : (ks : List Float) → length_in (slice_shape (in_turn m xs ys) ks) ≡ length_of plain xs ys m
  in_turn-length ks =
      ap (λ (n : ℕ). length_of plain (every_other (in_turn m xs ys) n 0) (every_other (in_turn m xs ys) n 1) n) counted
      ∙ same_length _ _ m (λ i h. let x = x-at i h in let y = y-at i h in λ k. record { x = x k; y = y k })

-- whatever the form: `in_turn` is what `built_into` writes for the control points
pub written-length : (form : Form) (coords : List Float) (given : Bool) (ks us : List Float) → controls_in form coords ≤ 66 → let c = curve_of form coords given ks in
    length_in (slice_shape (in_turn (controls_in form coords) c.xs c.ys) us) ≡ c.length
unfolding curve_through
written-length Control coords given ks us h = in_turn-length _ h _ _ us
written-length Fit coords given ks us h = in_turn-length _ h _ _ us
