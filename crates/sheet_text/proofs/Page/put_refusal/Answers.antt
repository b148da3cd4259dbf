-- `sheet_text::Page::put_refusal` meets its contract: its parts follow one another.
use native.Mathlib.Omega.{arith}
use Rattle.sheet_text.specs.Printed.{refusal_text}
use Rattle.sheet_text.proofs.Putting.{joined, few_decimal}
use Rattle.sheet_text.proofs.Page.put_refusal.Goals as goal

pub put-requires : goal.put-requires
put-requires c =
    omega (arith, few_decimal c.number.result)

pub returns-clause-text : goal.returns-clause-text
unfolding refusal_text
returns-clause-text c = joined (rw c.number.ensures at c.put_number.ensures.text) c.put.ensures.text
