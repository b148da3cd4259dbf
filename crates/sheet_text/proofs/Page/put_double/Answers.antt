-- `sheet_text::Page::put_double` meets its contract: the digits follow the word.
use mathlib.Core.Path.{ap, ◌∙◌}
use Rattle.sheet_text.specs.Printed.{double_text, hex_text}
use Rattle.sheet_text.proofs.Putting.{joined}
use Rattle.sheet_text.proofs.Page.put_double.Goals as goal

pub returns-clause-text : goal.returns-clause-text
unfolding double_text
returns-clause-text c =
    joined c.put.ensures.text
    (rw (← (c.hex_digits.ensures ∙ ap hex_text c.bits.ensures)) c.put-2.ensures.text)
