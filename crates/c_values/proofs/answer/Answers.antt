-- `c_values::answer` meets its contract.
use mathlib.Core.Path.{refl}
use Rattle.c_values.proofs.Answers.{short, given}
use Rattle.c_values.proofs.answer.Goals as goal

pub returns-then-out-lt28 : goal.returns-then-out-lt28
returns-then-out-lt28 c = short _ _ _ c.if-out-lt28.true

pub returns : goal.returns
returns c = given _ _ _ c.if-out-lt28.false c.write.ensures.out_after refl
