-- `moving::with_point` meets its contract.
use borrow.Author.Rules.{rules}
use Rattle.moving.proofs.with_point.Goals as goal

pub slice_bounds-length-end : goal.slice_bounds-length-end
slice_bounds-length-end c = search rules

pub slice_bounds-length-end-2 : goal.slice_bounds-length-end-2
slice_bounds-length-end-2 c = search rules

pub returns : goal.returns
returns c = rw c.length-length.ensures
