-- `sheet_read::read_line` meets its contract.
use Rattle.std.proofs.Common.{◌∙◌, sym}
use borrow.Author.Tests.{le-leb, lt-leb}
use Rattle.sheet_read.specs.Line.{line_of}
use Rattle.sheet_read.proofs.read_line.Goals as goal
use Rattle.sheet_read.proofs.read_line.Goals.{else-n-le16-via-then-n-le16+else-has_hex, else-n-le16-via-else-n-le16}

pub returns-then-has_hex : goal.returns-then-has_hex
unfolding line_of
returns-then-has_hex c = rw (le-leb _ _ c.if-n-le16.true, sym c.has_hex.ensures ∙ c.if-has_hex.true, c.number.ensures)

pub returns-else-n-le16 : goal.returns-else-n-le16
unfolding line_of
returns-else-n-le16 c =
    elim c.else-n-le16.branch [
      | else-n-le16-via-then-n-le16+else-has_hex w ↦ rw (le-leb _ _ w.if-n-le16.true, sym w.has_hex.ensures ∙ w.if-has_hex.false)
      | else-n-le16-via-else-n-le16 w ↦ rw (lt-leb _ _ w.if-n-le16.false)
    ]
