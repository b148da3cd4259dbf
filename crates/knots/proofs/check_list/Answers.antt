-- `knots::check_list` meets its contract.
use Rattle.knots.proofs.Passes.{found_by}
use Rattle.knots.proofs.Refused.{wrong_count_lem, one_unfit}
use Rattle.knots.proofs.check_list.Goals as goal

pub returns-then-knots-n : goal.returns-then-knots-n
returns-then-knots-n c = wrong_count_lem _ c.requires _ c.if-knots-n.true

pub returns-then-not-all_fit : goal.returns-then-not-all_fit
returns-then-not-all_fit c = one_unfit c.args.n c.requires c.args.knots.now c.if-knots-n.false (found_by c.all_fit.ensures c.if-not-all_fit.true)
