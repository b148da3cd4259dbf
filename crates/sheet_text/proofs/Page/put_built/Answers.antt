-- `sheet_text::Page::put_built` meets its contract: the refusal alone, or the head and the lines.
use mathlib.Core.Path.{ap}
use Rattle.refusal.specs.Refusals.{verdict}
use Rattle.refusal.proofs.Rows.{ok_number, err_number}
use Rattle.curve.specs.Build.{build_of, curve_of_build}
use Rattle.sheet_text.proofs.Putting.{joined}
use Rattle.sheet_text.proofs.Lines.{built_refused, built_printed}
use Rattle.sheet_text.proofs.Page.put_built.Goals as goal

pub returns-in-Ok-clause-text : goal.returns-in-Ok-clause-text
returns-in-Ok-clause-text c =
    rw (built_printed (build_of c.args.b) _ (ok_number c.in-Ok.is), ap curve_of_build c.in-Ok.is) (joined c.put_head.ensures.text c.put_lines.ensures.text)

pub returns-in-Err-clause-text : goal.returns-in-Err-clause-text
returns-in-Err-clause-text c =
    rw (built_refused (build_of c.args.b) _ (err_number c.in-Err.is), ap verdict c.in-Err.is) c.put_refusal.ensures.text
