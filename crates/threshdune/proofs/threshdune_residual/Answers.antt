-- `threshdune::threshdune_residual` meets its contract.
use Rattle.residual.specs.Residual.{lent}
use Rattle.c_curves.specs.Curves.{form_of}
use Rattle.threshdune.proofs.Ungiven.{held_given}
use Rattle.threshdune.proofs.threshdune_residual.Goals as goal

pub returns : goal.returns
returns c =
    let a = c.args in
    held_given (form_of a.fit) a.handles.now a.knots.now a.px a.py a.t (lent a.work.now a.counts.now a.residuals.now a.rows.now) c.form_of.ensures
    c.given_knots.ensures.flag c.given_knots.ensures.list c.number_of.ensures c.residual.ensures
