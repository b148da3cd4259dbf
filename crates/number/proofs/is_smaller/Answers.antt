-- `number::is_smaller` meets its contract.
use Rattle.number.proofs.Compared.{never-smaller, before_nan, by_size}
use Rattle.number.proofs.is_smaller.Goals as goal

pub returns-then-x : goal.returns-then-x
returns-then-x c = never-smaller _ _ c.if-x.true

pub returns-then-y : goal.returns-then-y
returns-then-y c = before_nan _ _ c.if-x.false c.if-y.true

pub returns : goal.returns
returns c =
    rw (c.magnitude-2.ensures, c.magnitude.ensures)
    (by_size _ _ c.if-x.false c.if-y.false)
