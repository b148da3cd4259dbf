-- `shape::check` meets its contract.
use mathlib.Core.Path.{sym, ap, ◌∙◌}
use Rattle.refusal.specs.Refusals.{verdict}
use Rattle.meaning.proofs.Searching.{told-some, told_none}
use Rattle.refusal.proofs.Rows.{handed_on, err_number, ok_number}
use Rattle.shape.specs.Spline.{shape_of}
use Rattle.shape.proofs.Trusted.{knots_refused, wild_xs, wild_ys, all_tame}
use Rattle.shape.proofs.check.Goals as goal

pub returns-in_err-check_knots : goal.returns-in_err-check_knots
returns-in_err-check_knots c =
    let was = c.in_err-check_knots.was in
    handed_on was _ c.from_residual.ensures ∙ knots_refused c.args.k (shape_of c.args.spline) c.check_knots.ensures (err_number was)

pub returns-then-first_wild-n : goal.returns-then-first_wild-n
returns-then-first_wild-n c =
    wild_xs c.args.k (shape_of c.args.spline) c.check_knots.ensures (ok_number c.in_ok-check_knots.was) (told-some _ 0 _ c.first_wild.ensures c.if-first_wild-n.true)

pub returns-then-first_wild-n-2 : goal.returns-then-first_wild-n-2
returns-then-first_wild-n-2 c =
    wild_ys c.args.k (shape_of c.args.spline) c.check_knots.ensures (ok_number c.in_ok-check_knots.was)
    (told_none _ 0 _ c.first_wild.ensures c.if-first_wild-n.false) (told-some _ 0 _ c.first_wild-2.ensures c.if-first_wild-n-2.true)

pub returns : goal.returns
returns c =
    sym (ap verdict c.in_ok-check_knots.was)
    ∙ all_tame c.args.k (shape_of c.args.spline) c.check_knots.ensures (ok_number c.in_ok-check_knots.was)
    (told_none _ 0 _ c.first_wild.ensures c.if-first_wild-n.false) (told_none _ 0 _ c.first_wild-2.ensures c.if-first_wild-n-2.false)
