-- `sheet_text::Page::put_decimal` meets its contract: one digit or two.
use Rattle.sheet_text.proofs.Putting.{one_digit, two_digits}
use Rattle.sheet_text.proofs.Page.put_decimal.Goals as goal

pub returns-then-n-lt10-clause-text : goal.returns-then-n-lt10-clause-text
returns-then-n-lt10-clause-text c =
    rw (one_digit _ c.if-n-lt10.true, ← c.glyph.ensures) c.put.ensures.text

pub returns-else-n-lt10-clause-text : goal.returns-else-n-lt10-clause-text
returns-else-n-lt10-clause-text c =
    rw (two_digits _ c.if-n-lt10.false, ← c.glyph-else-n-lt10-2.ensures, ← c.glyph-else-n-lt10.ensures) c.put-else-n-lt10.ensures.text
