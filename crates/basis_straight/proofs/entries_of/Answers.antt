-- `basis_straight::entries_of` meets its contract: one cell, and five sums.
use Rattle.std.proofs.Common.{arith}
use Rattle.basis_straight.proofs.Written.{entries_made}
use Rattle.basis.proofs.Within.{left_of, right_of}
use Rattle.basis_straight.proofs.entries_of.Goals as goal

pub returns : goal.returns
returns g c =
    let o = g.S.Scalar.ops in
    let n = c.type_inv.w in
    let l1 = left_of o c.args.w.now 2 (omega arith) c.index-w-2.result c.minus-l1.ensures in
    let l2 = left_of o c.args.w.now 1 (omega arith) c.index-w-1.result c.minus-l2.ensures in
    let l3 = left_of o c.args.w.now 0 (omega arith) c.index-w-0.result c.minus-l3.ensures in
    let r1 = right_of o c.args.w.now 3 (omega arith) c.index-w-3.result c.minus-r1.ensures in
    let r2 = right_of o c.args.w.now 4 (omega arith) c.index-w-4.result c.minus-r2.ensures in
    let r3 = right_of o c.args.w.now 5 (omega arith) c.index-w-5.result c.minus-r3.ensures in
    entries_made o c.args.w.now c.args.t l1 l2 l3 r1 r2 r3 c.cst-2.ensures c.cst.ensures
    c.cell_of-a.ensures c.plus.ensures c.plus-2.ensures c.plus-3.ensures c.plus-4.ensures c.plus-5.ensures
