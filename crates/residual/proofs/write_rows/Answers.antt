-- `residual::write_rows` meets its contract: one row after the other.
use borrow.Author.Rules.{rules}
use lib.ListN.{length}
use mathlib.Core.Path.{◌≡◌}
use Rattle.residual.proofs.Rows.{rows_written}
use Rattle.residual.proofs.write_rows.Goals as goal

pub returns : goal.returns
returns c =
    let a = c.args in
    let long : length a.three.now ≡ 3 = search rules in
    rows_written a.c a.rows.now a.three.now _ c.requires.1 long c.write_row.ensures c.write_row-2.ensures c.write_row-3.ensures
