-- `residual::fit_piece` meets its contract, where there is a curve and where there is none.
use Rattle.residual.proofs.Fits.{fit_judged, fit_unjudged, fit_doubles, fit_counts}
use Rattle.residual.proofs.fit_piece.Goals as goal

pub returns-in_err-read : goal.returns-in_err-read
returns-in_err-read c =
    let a = c.args in
    let q = a.q.now in
    let w = a.work.now in
    let ns = a.counts.now in
    let call = c.piece_at.ensures in record {
      answer = rw c.from_residual.ensures (fit_unjudged q a.c w ns c.requires a.t _ _ call.answer c.clamp.ensures c.in_err-read.was);
      doubles = fit_doubles q a.c w ns c.requires call.doubles;
      counts = fit_counts q a.c w ns c.requires call.counts;
    }

pub returns : goal.returns
returns c =
    let a = c.args in
    let q = a.q.now in
    let w = a.work.now in
    let ns = a.counts.now in
    let call = c.piece_at.ensures in record {
      answer = fit_judged q a.c w ns c.requires a.t _ _ call.answer c.clamp.ensures _ c.in_ok-read.was;
      doubles = fit_doubles q a.c w ns c.requires call.doubles;
      counts = fit_counts q a.c w ns c.requires call.counts;
    }
