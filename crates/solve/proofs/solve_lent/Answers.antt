-- `solve::solve_lent` meets its contract: the rows that lie at the front at first lie there in order, and are solved.
use mathlib.Core.Path.{◌≡◌, refl, sym, ap, ◌∙◌}
use mathlib.Core.Bool.{true, not}
use mathlib.Core.List.{List}
use Prim.Native.Nat.{◌+◌}
use native.Mathlib.Omega.{arith}
use borrow.Author.Tests.{not-true, not-false}
use lib.ListN.{length}
use lib.Ieee.{Float}
use Rattle.meaning.specs.Scalar.{plain}
use Rattle.solve.specs.Rows.{rows_of}
use Rattle.solve.specs.Placed.{rows_by}
use Rattle.solve.specs.Substitution.{solved}
use Rattle.solve.specs.Stored.{solved_ok}
use Rattle.solve.specs.Outcome.{column, zeros, solution_of}
use Rattle.solve.proofs.Flat.{rows_shaped_of}
use Rattle.solve.proofs.By.{start_by}
use Rattle.solve.proofs.solve_lent.Goals as goal
use Rattle.solve.proofs.solve_lent.Goals.{After-solve_rows-fine}

abbrev rows_in : After-solve_rows-fine → List (List Float)
rows_in k = rows_of k.args.m (k.args.m + 2) k.args.w.now

few : (k : After-solve_rows-fine) → k.new-order.result.rows ≡ k.args.m
few k = omega (arith, k.new-order.ensures.rows, k.requires.0)

begun : (k : After-solve_rows-fine) → let o = k.new-order.result in rows_by o.rows o.places k.args.w.now ≡ rows_in k
begun k =
    (λ t. rows_by (few k t) (k.new-order.ensures.places t) k.args.w.now) ∙ start_by k.args.m k.args.w.now k.requires.0 k.requires.1

many : (k : After-solve_rows-fine) → length (rows_in k) ≡ k.args.m
many k = (rows_shaped_of k.args.m (k.args.m + 2) k.args.w.now k.requires.1).count

-- what the solve makes of them, and its verdict
solved-in : (k : After-solve_rows-fine) → let r = k.solve_rows-fine.new.rows in rows_by r.order.rows r.order.places r.w.now ≡ solved plain k.args.m (rows_in k)
solved-in k = k.solve_rows-fine.ensures.rows.0 ∙ (λ t. solved plain ((ap length (begun k) ∙ many k) t) (begun k t))

verdict : (k : After-solve_rows-fine) → k.solve_rows-fine.result ≡ solved_ok plain k.args.m (rows_in k)
verdict k = k.solve_rows-fine.ensures.rows.1 ∙ (λ t. solved_ok plain ((ap length (begun k) ∙ many k) t) (begun k t))

still : (k : After-solve_rows-fine) → k.solve_rows-fine.new.rows.order.rows ≡ k.args.m
still k = k.solve_rows-fine.ensures.same.2.0 ∙ few k

pub returns-then-not-fine-clause-answer : goal.returns-then-not-fine-clause-answer
unfolding solution_of
returns-then-not-fine-clause-answer c =
    let at = (goal.at.returns-then-not-fine-clause-answer c).After-solve_rows-fine in
    rw (sym (verdict at) ∙ not-true _ (ap not c.if-not-fine.true)) refl

pub returns-clause-answer : goal.returns-clause-answer
unfolding solution_of
returns-clause-answer c =
    let at = (goal.at.returns-clause-answer c).After-solve_rows-fine in
    let m = c.args.m in
    let xs = c.column-xs.ensures ∙ (λ t. column plain (still at t) (solved-in at t) m (zeros plain)) in
    let ys = c.column-ys.ensures ∙ (λ t. column plain (still at t) (solved-in at t) (m + 1) (zeros plain)) in
    rw (sym (verdict at) ∙ not-false _ (ap not c.if-not-fine.false)) (λ i. record { xs = xs i; ys = ys i; fine = true })
