-- `sheet_text::Page::put_line` meets its contract: the point, or the refusal of the evaluation.
use mathlib.Core.Path.{ap}
use Rattle.refusal.specs.Refusals.{verdict}
use Rattle.refusal.proofs.Rows.{ok_number, err_number}
use Rattle.sheet_text.proofs.Lines.{line_refused, line_point}
use Rattle.sheet_text.proofs.Promises.{refused_promise, point_promise}
use Rattle.sheet_text.proofs.Page.put_line.Goals as goal

pub returns-in-Ok-clause-text : goal.returns-in-Ok-clause-text
returns-in-Ok-clause-text c =
    rw (line_point _ _ c.evaluate.ensures.answer (ok_number c.in-Ok.is)) c.put_point.ensures.text

pub returns-in-Ok-clause-hull : goal.returns-in-Ok-clause-hull
returns-in-Ok-clause-hull c =
    let e = c.evaluate.ensures in
    point_promise _ _ e.answer e.hull e.never (ok_number c.in-Ok.is)

pub returns-in-Err-clause-text : goal.returns-in-Err-clause-text
returns-in-Err-clause-text c =
    rw (line_refused _ _ c.evaluate.ensures.answer (err_number c.in-Err.is), ap verdict c.in-Err.is) c.put_refusal.ensures.text

pub returns-in-Err-clause-hull : goal.returns-in-Err-clause-hull
returns-in-Err-clause-hull c =
    let e = c.evaluate.ensures in
    refused_promise _ _ e.answer e.hull e.never (err_number c.in-Err.is)
