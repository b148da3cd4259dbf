-- `residual::write_row` meets its contract.
use borrow.Author.Rules.{rules}
use lib.ListN.{length}
use mathlib.Core.Path.{◌≡◌}
use Rattle.residual.proofs.Rows.{row_written}
use Rattle.residual.proofs.write_row.Goals as goal

pub returns : goal.returns
returns c =
    let a = c.args in
    let long : length a.d.now.g ≡ 27 = search rules in
    row_written a.d.now a.row.now c.requires long c.min-n.result c.min-n.ensures c.copy_from_slice.ensures.after (c.fill.ensures.after (λ y e. e))
