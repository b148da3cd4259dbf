-- `solve::work::less_by` meets its contract: a case for each side of the branch.
use Rattle.solve.proofs.work.less_by.Goals as goal

pub returns-then-matrix : goal.returns-then-matrix
returns-then-matrix c = rw c.if-matrix.true

pub returns : goal.returns
returns c = rw c.if-matrix.false
