-- `measure::length` meets its contract: the rules of the curve, then the sum, or what is stored.
use mathlib.Core.Path.{refl, sym, ◌∙◌}
use Rattle.refusal.proofs.Rows.{ok_passed}
use Rattle.offer.proofs.Handed.{rules_refused, is_refused, err_told}
use Rattle.measure.proofs.Stored.{length_refused, length_wild, length_told}
use Rattle.measure.proofs.length.Goals as goal

pub returns-in_err-check : goal.returns-in_err-check
returns-in_err-check g c =
    let who = c.args.curve.now in
    let was = c.in_err-check.was in
    let told = c.from_residual.ensures in
    rw (err_told _ told.0)
    (length_refused (g.C.Offer.offered who) (g.C.Offer.stored who) (rules_refused was _ told _ c.check.ensures.rules) (is_refused was _ told))

pub returns-then-not-is_finite : goal.returns-then-not-is_finite
returns-then-not-is_finite g c =
    let who = c.args.curve.now in
    let passed = ok_passed _ c.check.ensures.rules c.in_ok-check.was in
    length_wild (g.C.Offer.offered who) (g.met.C.Offer.sound who) passed (c.length-length.ensures.sum passed) (g.C.Offer.stored who) c.length-length.ensures.kept
    (g.met.C.Offer.fine who passed) (sym c.is_finite.ensures ∙ c.if-not-is_finite.true) refl

pub returns : goal.returns
returns g c =
    let who = c.args.curve.now in
    let passed = ok_passed _ c.check.ensures.rules c.in_ok-check.was in
    length_told (g.C.Offer.offered who) (g.met.C.Offer.sound who) passed (c.length-length.ensures.sum passed) (g.C.Offer.stored who) c.length-length.ensures.kept
    (sym c.is_finite.ensures ∙ c.if-not-is_finite.false)
