-- `residual::cells` meets its contract.
use native.Mathlib.Nat.{mul-le-mul}
use native.Mathlib.Omega.{arith}
use Prim.Native.Nat.{◌+◌, ◌*◌, ◌/◌, ◌≤◌}
use lib.ListN.{length}
use Rattle.residual.proofs.cells.Goals as goal
use Rattle.residual.proofs.cells.Goals.{In-Fit}

few : (c : In-Fit) → (length c.args.q.now / 2 + 2) * (length c.args.q.now / 2 + 2 + 2) ≤ 14 * 16
few c =
    let n = length c.args.q.now / 2 in
    let h : n ≤ 12 = c.requires in
    mul-le-mul {n₁ = n + 2} {m₁ = n + 2 + 2} {n₂ = 14} {m₂ = 16} (omega arith) (omega arith)

pub overflow_mul-result : goal.overflow_mul-result
overflow_mul-result c = omega (arith, few c)

pub returns-in-Control : goal.returns-in-Control
returns-in-Control c = record { fact_1 = rw c.in-Control.is; fact_2 = omega arith }

pub returns-in-Fit : goal.returns-in-Fit
returns-in-Fit c = record {
  fact_1 = rw c.in-Fit.is;
  fact_2 = few c;
}
