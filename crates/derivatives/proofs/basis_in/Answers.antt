-- `derivatives::basis_in` meets its contract, for every i: a span's window is that of the definition, and elsewhere are zeros.
use Rattle.std.proofs.Common.{ap, ◌∙◌, arith}
use Rattle.basis.specs.Basis.{derivatives_of}
use Rattle.basis.proofs.Laws.{basis_low, basis_high}
use Rattle.basis.proofs.Window.{basis_window}
use Rattle.basis.proofs.Within.{window_of}
use Rattle.derivatives.proofs.basis_in.Goals as goal
use Rattle.derivatives.proofs.basis_in.Goals.{in_default-via-then-i-lt3, in_default-via-else-i-lt3+else-i-lt66}

pub returns-in-3-to-65 : goal.returns-in-3-to-65
returns-in-3-to-65 g c =
    let o = g.S.Scalar.ops in
    let a = c.args in
    let n = c.type_inv.u in
    let w = window_of o a.u.now a.i _ _ _ _ _ _ (omega arith) (omega arith) in
    c.basis.ensures ∙ ap (λ w. derivatives_of o w 2 a.t a.nd) w ∙ basis_window o a.u.now a.i a.t a.nd (omega arith) (omega arith)

pub returns-in_default : goal.returns-in_default
returns-in_default g c =
    let o = g.S.Scalar.ops in
    rw c.cst.ensures
    (elim c.in_default.branch [
      | in_default-via-then-i-lt3 w ↦ basis_low o _ _ _ _ (omega arith)
      | in_default-via-else-i-lt3+else-i-lt66 w ↦ basis_high o _ _ _ _ (omega arith) (omega arith)
    ])
