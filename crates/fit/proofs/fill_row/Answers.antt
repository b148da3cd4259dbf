-- `fit::fill_row` meets its contract: the row is cleared and gets its six numbers; the verdict is theirs.
use Rattle.plane.specs.View.{view}
use Rattle.fit.proofs.Six.{six_stored}
use Rattle.fit.proofs.fill_row.Goals as goal

pub returns : goal.returns
returns c =
    let sides = c.put_sides.ensures in
    let four = c.put_four.ensures in
    let clear = c.clear.ensures in
    six_stored _ c.args.i c.args.m (view c.args.b) c.requires.2 c.requires.3 c.requires.1 clear four sides c.all_finite.ensures
