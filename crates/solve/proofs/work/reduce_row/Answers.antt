-- `solve::work::reduce_row` meets its contract: a case for the row that is skipped and one for the row that is reduced.
use mathlib.Core.Path.{◌∙◌}
use Rattle.solve.specs.Elimination.{reduced}
use Rattle.solve.specs.Verdicts.{reduced_ok}
use Rattle.solve.proofs.work.reduce_row.Goals as goal

pub returns-then-x : goal.returns-then-x
unfolding reduced reduced_ok
returns-then-x c = (rw c.if-x.true, rw c.if-x.true)

pub returns : goal.returns
unfolding reduced reduced_ok
returns c =
    let call = c.subtract_row-fine in
    let left = c.if-x.false in
    (rw left call.ensures.0, rw left (c.both.ensures ∙ rw (c.is_finite.ensures, call.ensures.1)))
