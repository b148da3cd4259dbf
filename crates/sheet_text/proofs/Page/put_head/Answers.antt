-- `sheet_text::Page::put_head` meets its contract: its parts follow one another.
use native.Mathlib.Omega.{arith}
use Rattle.sheet_text.specs.Printed.{head_text}
use Rattle.sheet_text.proofs.Putting.{joined, few_decimal, head_short}
use Rattle.sheet_text.proofs.Page.put_head.Goals as goal

pub put_number-requires-2 : goal.put_number-requires-2
put_number-requires-2 c =
    omega (arith, few_decimal c.args.points)

pub put-requires : goal.put-requires
put-requires c =
    omega (arith, few_decimal c.args.points, few_decimal c.args.knots)

pub returns-clause-text : goal.returns-clause-text
unfolding head_text
returns-clause-text c =
    joined c.put_number.ensures.text (joined c.put_number-2.ensures.text c.put.ensures.text)

pub returns-clause-upper_bound : goal.returns-clause-upper_bound
returns-clause-upper_bound c = omega (arith, (returns-clause-text c).place, head_short c.args.points c.args.knots)
