-- `derivatives::triangle_of` meets its contract: each turn of the loop is `sides_turn`.
use Rattle.std.proofs.Common.{◌+◌, ◌-◌, arith}
use Rattle.meaning.proofs.For.{first, next, last}
use Rattle.basis.proofs.Within.{left_of, right_of}
use Rattle.basis.proofs.Laws.{sides_turn_lem, triangle_of_lem}
use Rattle.derivatives.proofs.triangle_of.Goals as goal

pub loop-j-init : goal.loop-j-init
loop-j-init g c = rw (c.cst.ensures, c.cst-zeros.ensures) (first (omega arith))

pub loop-j-preserved : goal.loop-j-preserved
loop-j-preserved g c =
    let o = g.S.Scalar.ops in
    let n = c.type_inv.w in
    let left = left_of o c.args.w.now (3 - c.loop-j.j) (omega arith) c.index-w-j.result c.minus.ensures in
    let right = right_of o c.args.w.now (2 + c.loop-j.j) (omega arith) c.index-w-j-in-loop-j.result c.minus-in-loop-j.ensures in
    next c.loop-j.invariant (omega arith)
    (rw (right, left) (sides_turn_lem o _ 2 _ _ (record { ndu = _; left = _; right = _ }) (rw (right, left) at c.column_of.ensures)))

pub returns : goal.returns
returns g c = triangle_of_lem g.S.Scalar.ops _ 2 _ _ (last c.loop-j.invariant c.loop-j-test.false)
