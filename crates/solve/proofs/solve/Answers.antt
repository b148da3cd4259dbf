-- `solve::solve` meets its contract: a case for each way to have no answer, and the rows that the buffer holds.
use Prim.Native.Nat.{◌+◌}
use native.Mathlib.Nat.{mul-le-mul_right}
use native.Mathlib.Omega.{arith}
use mathlib.Core.Path.{refl}
use borrow.Author.Tests.{lt-leb, le-leb}
use Rattle.solve.specs.Outcome.{work_of}
use Rattle.solve.specs.Buffer.{solve_of}
use Rattle.solve.proofs.Outcomes.{fits_true}
use Rattle.solve.proofs.solve.Goals as goal
use Rattle.solve.proofs.solve.Goals.{then-m-lt1-via-then-m-lt1, then-m-lt1-via-else-m-lt1+then-m-gt66, then-m-lt1-via-else-m-lt1+else-m-gt66+then-w-m}

pub returns-then-m-lt1 : goal.returns-then-m-lt1
unfolding solve_of work_of
returns-then-m-lt1 c =
    elim c.then-m-lt1.branch [
      | then-m-lt1-via-then-m-lt1 w ↦ record {
        fact_1 = rw (lt-leb _ _ w.if-m-lt1.true) refl;
        fact_2 = rw (lt-leb _ _ w.if-m-lt1.true) refl;
      }
      | then-m-lt1-via-else-m-lt1+then-m-gt66 w ↦ record {
        fact_1 = rw (le-leb _ _ w.if-m-lt1.false, lt-leb _ _ w.if-m-gt66.true) refl;
        fact_2 = rw (le-leb _ _ w.if-m-lt1.false, lt-leb _ _ w.if-m-gt66.true) refl;
      }
      | then-m-lt1-via-else-m-lt1+else-m-gt66+then-w-m w ↦ record {
        fact_1 = rw (le-leb _ _ w.if-m-lt1.false, le-leb _ _ w.if-m-gt66.false, lt-leb _ _ w.if-w-m.true) refl;
        fact_2 = rw (le-leb _ _ w.if-m-lt1.false, le-leb _ _ w.if-m-gt66.false, lt-leb _ _ w.if-w-m.true) refl;
      }
    ]

pub overflow_mul-m : goal.overflow_mul-m
overflow_mul-m c =
    let m = c.args.m in
    omega (arith, mul-le-mul_right (m + 2) c.if-m-gt66.false)

pub returns : goal.returns
unfolding solve_of work_of
returns c =
    let a = c.args in
    let yes = fits_true a.m a.w.now c.if-m-lt1.false c.if-m-gt66.false c.if-w-m.false in
    record {
      fact_1 = rw yes c.solve_lent.ensures.answer;
      fact_2 = rw yes c.solve_lent.ensures.left;
    }
