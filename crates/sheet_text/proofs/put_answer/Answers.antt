-- `sheet_text::put_answer` meets its contract.
use mathlib.Core.Path.{refl, sym, subst}
use Rattle.sheet_read.proofs.Sections.{Limits, limits}
use Rattle.sheet_text.proofs.Sheets.{malformed_text, malformed_work, formed_text, formed_work}
use Rattle.sheet_text.proofs.put_answer.Goals as goal

pub put_sheet-requires-clause-limits : goal.put_sheet-requires-clause-limits
put_sheet-requires-clause-limits c = subst Limits (sym c.in-Some.ensures) (limits _)

pub returns-in-Some-clause-text : goal.returns-in-Some-clause-text
returns-in-Some-clause-text c = rw (formed_text c.args.s.now c.args.work.now c.in-Some.ensures refl) c.put_sheet.ensures.text

pub returns-in-Some-clause-work : goal.returns-in-Some-clause-work
returns-in-Some-clause-work c = rw (formed_work c.args.s.now c.args.work.now c.in-Some.ensures refl) c.put_sheet.ensures.work

pub returns-in-None-clause-text : goal.returns-in-None-clause-text
returns-in-None-clause-text c = rw (malformed_text c.args.s.now c.args.work.now c.in-None.ensures) c.put_refusal.ensures.text

pub returns-in-None-clause-work : goal.returns-in-None-clause-work
returns-in-None-clause-work c = sym (malformed_work c.args.s.now c.args.work.now c.in-None.ensures)
