-- Numbers of what is built, put into lent slices: all of them or, where a rule applies, none. Assumes nothing.
use mathlib.Core.Path.{◌≡◌, refl, sym, ap, ◌∙◌}
use mathlib.Core.Bool.{Bool, true, false, cond}
use mathlib.Core.List.{List}
use Prim.Native.Nat.{ℕ, ◌≤◌, zero-le}
use borrow.Author.Tests.{eqb-true}
use lib.ListN.{length}
use lib.Seq.{paste, paste-zero}
use lib.Ieee.{Float}
use Rattle.refusal.specs.Refusals.{Row, passes}
use Rattle.refusal.proofs.Rows.{Passed}
use Rattle.buffer.specs.Pasted.{pasted}
use Rattle.outcome.specs.Outcome.{answering}
use Rattle.outcome.proofs.Doors.{put_all}
use Rattle.curve.specs.declared.Curve.{Curve}
use Rattle.curve.specs.Record.{empty_curve}
use Rattle.curve.specs.Build.{Built, building}

-- none of the numbers is put
put_none : (numbers out : List Float) → pasted numbers 0 out 0 ≡ out
put_none numbers out = put_all numbers 0 out zero-le zero-le ∙ sym (paste-zero out 0 numbers)

-- of the empty curve there are none
module _ (rules : List Row) (curve : Curve) {b : Built} (is_built : b ≡ building rules curve) where
  pub put_built : (numbers : Curve → List Float) (count : Curve → ℕ) (l : List Float) {l' N : List Float} {k : ℕ} → count empty_curve ≡ 0
      → numbers curve ≡ N → count curve ≡ k → (Passed rules → (k ≤ length N) × (k ≤ length l))
      → l' ≡ pasted (numbers b.curve) (count b.curve) l 0 → l' ≡ (answering rules N k l).out
  unfolding building answering
  put_built numbers count l {N = N} {k = k} none same many fit e =
      e ∙ ap (λ (x : Built). pasted (numbers x.curve) (count x.curve) l 0) is_built ∙ by (passes rules) refl
    where
      by : (t : Bool) → passes rules ≡ t → pasted (numbers (cond t curve empty_curve)) (count (cond t curve empty_curve)) l 0 ≡ cond t (paste l 0 N k) l
      by true h = let r = fit (eqb-true _ _ h) in rw (same, many) (put_all N k l r.0 r.1)
      by false h = rw none (put_none (numbers empty_curve) l)
