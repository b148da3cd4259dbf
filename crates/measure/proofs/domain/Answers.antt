-- `measure::domain` meets its contract: the rules of the curve, then its first knot and its last.
use mathlib.Core.Path.{◌≡◌, refl, sym, ap, ◌∙◌}
use mathlib.Core.List.{List, [], ◌∷◌}
use Prim.Native.Nat.{ℕ, ◌-◌, ◌+◌}
use native.Mathlib.Omega.{arith}
use lib.ListN.{length, take}
use lib.Ieee.{Float}
use Rattle.std.proofs.Common.{true≢false}
use Rattle.meaning.specs.Scalar.{plain}
use Rattle.meaning.specs.Table.{at1}
use Rattle.std.specs.Prelude.{Result, Ok, Err, IsErr}
use Rattle.refusal.specs.declared.Refusal.{Refusal}
use Rattle.refusal.specs.Refusals.{none, verdict}
use Rattle.refusal.proofs.Rows.{Passed, ok_passed}
use Rattle.outcome.proofs.Doors.{untold, tells, left-told, passed_told, done-told}
use Rattle.shape.specs.Offered.{Offered}
use Rattle.shape.proofs.Sound.{Sound}
use Rattle.offer.proofs.Handed.{rules_refused, is_refused}
use Rattle.offer.proofs.Knots.{many_knots, knot_in}
use Rattle.measure.specs.declared.Interval.{Interval}
use Rattle.measure.specs.Measure.{interval, domain_answer}
use Rattle.measure.proofs.domain.Goals as goal

-- the ends of the knots that are given
ends : (who : Offered) → Sound who → Passed who.rules → {us : List Float} → us ≡ take (who.shape.n + 4) who.shape.knots
    → record { refusal = none; values = at1 plain us 0 ∷ at1 plain us (length us - 1) ∷ [] } ≡ domain_answer who
unfolding domain_answer
ends who s p {us} e =
    let first = knot_in who s p e 0 (omega arith) in
    let last = ap (λ (i : ℕ). at1 plain us i) (omega (arith, many_knots who s p e)) ∙ knot_in who s p e (who.shape.n + 3) (omega arith) in
    (λ i. record { refusal = none; values = first i ∷ last i ∷ [] }) ∙ tells (passed_told who.rules s.counted p done-told)

err_interval : (y : Result Interval Refusal) → IsErr y → interval y ≡ untold (verdict y)
err_interval (Ok x) h = absurd (true≢false (sym h))
err_interval (Err r) h = refl

pub returns-in_err-check : goal.returns-in_err-check
unfolding domain_answer
returns-in_err-check g c =
    let was = c.in_err-check.was in
    let told = c.from_residual.ensures in
    err_interval _ told.0 ∙ tells (left-told _ (rules_refused was _ told _ c.check.ensures.rules) (is_refused was _ told))

pub returns : goal.returns
returns g c =
    let who = c.args.curve.now in
    let passed = ok_passed _ c.check.ensures.rules c.in_ok-check.was in
    ends (g.C.Offer.offered who) (g.met.C.Offer.sound who) passed (c.knots-knots.ensures passed)
