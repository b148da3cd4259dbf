-- `sheet_text::Page::put_number` meets its contract: the number follows the word.
use Rattle.sheet_text.proofs.Putting.{joined}
use Rattle.sheet_text.proofs.Page.put_number.Goals as goal

pub returns-clause-text : goal.returns-clause-text
returns-clause-text c = joined c.put.ensures.text c.put_decimal.ensures.text
