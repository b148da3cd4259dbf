-- `sheet_text::Page::put_point` meets its contract: its parts follow one another.
use native.Mathlib.Omega.{arith}
use Rattle.sheet_text.specs.Printed.{point_text}
use Rattle.sheet_text.proofs.Putting.{joined, double-long}
use Rattle.sheet_text.proofs.Page.put_point.Goals as goal

pub put_double-requires-2 : goal.put_double-requires-2
put_double-requires-2 c =
    omega (arith, double-long c.args.x)

pub put-requires : goal.put-requires
put-requires c =
    omega (arith, double-long c.args.x, double-long c.args.y)

pub returns-clause-text : goal.returns-clause-text
unfolding point_text
returns-clause-text c =
    joined c.put_double.ensures.text (joined c.put_double-2.ensures.text c.put.ensures.text)
