-- `point::evaluate` meets its contract: the rules of the curve, then the answer; the promises follow from it.
use mathlib.Core.Path.{sym, subst}
use lib.Dec.{T}
use Rattle.refusal.proofs.Rows.{ok_passed}
use Rattle.hull.proofs.Given.{with_parameter}
use Rattle.offer.proofs.Handed.{rules_refused, is_refused}
use Rattle.point.proofs.Answered.{point_refused, point_answered}
use Rattle.point.proofs.Promised.{point_promised, refused_point}
use Rattle.point.proofs.evaluate.Goals as goal

pub returns-in_err-check : goal.returns-in_err-check
returns-in_err-check g c =
    let a = c.args in
    let who = g.C.Offer.offered a.curve.now in
    let was = c.in_err-check.was in
    let rules = rules_refused was _ c.from_residual.ensures _ c.check.ensures.rules in
    let refused = is_refused was _ c.from_residual.ensures in
    refused_point who a.t rules refused a.order a.out.now (point_refused who a.t a.out.now rules refused a.order)

pub returns : goal.returns
returns g c =
    let a = c.args in
    let who = g.C.Offer.offered a.curve.now in
    let sound = g.met.C.Offer.sound a.curve.now in
    let passed = ok_passed _ c.check.ensures.rules c.in_ok-check.was in
    point_promised who sound a.t (with_parameter (c.check.ensures.doubles passed) (subst T (sym c.well_formed.1.0.1) tt)) a.order a.out.now
    (point_answered who sound passed a.t a.order a.out.now (c.orders.ensures passed) c.answer_point.ensures)
