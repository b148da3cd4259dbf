-- `residual::read_curve` meets its contract: by the form.
use Rattle.knots.specs.Given.{given, given_list}
use Rattle.residual.proofs.Forms.{control_ready, fit_ready, control-judged, control-doubles, control-counts}
use Rattle.residual.proofs.read_curve.Goals as goal

pub control_piece-requires : goal.control_piece-requires
control_piece-requires c = control_ready c.requires c.in-Control.is

pub fit_piece-requires : goal.fit_piece-requires
fit_piece-requires c = fit_ready c.requires c.in-Fit.is

pub returns-in-Control : goal.returns-in-Control
returns-in-Control c =
    let a = c.args in
    let e = c.in-Control.is in record {
      answer = control-judged a.form a.q.now (given a.knots) (given_list (λ k. k.now) a.knots) a.t c.control_piece.result e c.control_piece.ensures;
      doubles = control-doubles a.form a.q.now a.c a.work.now e;
      counts = control-counts a.form a.q.now a.counts.now e;
    }

pub returns-in-Fit : goal.returns-in-Fit
returns-in-Fit c = rw c.in-Fit.is c.fit_piece.ensures
