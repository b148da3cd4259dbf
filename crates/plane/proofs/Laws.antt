-- The length and the direction from their parts, over any scalar, and what is negated twice. Assumes nothing.
use mathlib.Core.Path.{◌≡◌, refl}
use mathlib.Core.Bool.{true, false}
use lib.Ieee.{Float, nan, inf, fin, binary64, neg, mul, lt}
use Rattle.meaning.specs.Scalar.{Ops, plain, zero64, one64}
use Rattle.plane.specs.Vector.{Vector, degenerate, dot_v, norm_v, unit_v}

module _ {A : Type 0} (o : Ops A) (a : Vector A) where
  pub norm_near : {sq : A} → sq ≡ dot_v o a a → lt (o.val sq) degenerate ≡ true → o.cst (plain.root (o.val sq)) ≡ norm_v o a
  unfolding norm_v
  norm_near p h = rw (rw p at h, p)

  pub norm_far : {sq : A} → sq ≡ dot_v o a a → lt (o.val sq) degenerate ≡ false → o.root sq ≡ norm_v o a
  unfolding norm_v
  norm_far p h = rw (rw p at h, p)

  pub unit_none : {len : A} → len ≡ norm_v o a → lt (mul binary64 (o.val len) (o.val len)) degenerate ≡ true
      → record { x = o.cst one64; y = o.cst zero64 } ≡ unit_v o a
  unfolding unit_v
  unit_none p h = rw (rw p at h)

  pub unit_some : {len : A} → len ≡ norm_v o a → lt (mul binary64 (o.val len) (o.val len)) degenerate ≡ false
      → record { x = o.over a.x len; y = o.over a.y len } ≡ unit_v o a
  unfolding unit_v
  unit_some p h = rw (rw p at h, p)

pub neg_neg : (x : Float) → neg (neg x) ≡ x
unfolding neg
neg_neg nan = refl
neg_neg (inf true) = refl
neg_neg (inf false) = refl
neg_neg (fin true m e) = refl
neg_neg (fin false m e) = refl
