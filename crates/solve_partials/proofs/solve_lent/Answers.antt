-- `solve_partials::solve_lent` meets its contract: the rows that lie in the slices at first lie there in order, and are solved.
use Prim.Native.Nat.{◌+◌, ◌*◌, ◌≤◌}
use native.Mathlib.Omega.{arith}
use mathlib.Core.Path.{◌≡◌, ap, ◌∙◌}
use mathlib.Core.Bool.{not}
use mathlib.Core.List.{List}
use borrow.Author.Tests.{not-true, not-false}
use lib.ListN.{length}
use Rattle.partials.specs.declared.Dv.{Dv}
use Rattle.partials.specs.Dual.{dual}
use Rattle.solve.specs.Rows.{rows_of}
use Rattle.solve.specs.Placed.{rows_by}
use Rattle.solve.specs.Substitution.{solved}
use Rattle.solve.specs.Stored.{solved_ok}
use Rattle.solve.specs.Outcome.{column, zeros}
use Rattle.solve.proofs.Flat.{rows_shaped_of}
use Rattle.solve.proofs.By.{start_by}
use Rattle.solve_partials.specs.Held.{held}
use Rattle.solve_partials.specs.Outcome.{four}
use Rattle.solve_partials.proofs.Cells.{held-long}
use Rattle.solve_partials.proofs.Outcomes.{fine-four, none-four}
use Rattle.solve_partials.proofs.solve_lent.Goals as goal
use Rattle.solve_partials.proofs.solve_lent.Goals.{After-solve_rows-fine}

abbrev values : After-solve_rows-fine → List Dv
values k = held k.args.c k.args.w.now k.args.ns.now

abbrev rows_in : After-solve_rows-fine → List (List Dv)
rows_in k = rows_of k.args.m (k.args.m + 2) (values k)

room : (k : After-solve_rows-fine) → k.args.m * (k.args.m + 2) ≤ length (values k)
room k = omega (arith, held-long k.args.c k.args.w.now k.args.ns.now, k.requires.1)

few : (k : After-solve_rows-fine) → k.new-order.result.rows ≡ k.args.m
few k = omega (arith, k.new-order.ensures.rows, k.requires.2)

begun : (k : After-solve_rows-fine) → let o = k.new-order.result in rows_by o.rows o.places (values k) ≡ rows_in k
begun k = (λ t. rows_by (few k t) (k.new-order.ensures.places t) (values k)) ∙ start_by k.args.m (values k) (omega (arith, k.requires.2)) (room k)

many : (k : After-solve_rows-fine) → length (rows_in k) ≡ k.args.m
many k = (rows_shaped_of k.args.m (k.args.m + 2) (values k) (room k)).count

-- what the solve makes of them, and its verdict
solved-in : (k : After-solve_rows-fine) → let r = k.solve_rows-fine.new.rows in
    rows_by r.order.rows r.order.places (held r.c r.w.now r.ns.now) ≡ solved dual k.args.m (rows_in k)
solved-in k = k.solve_rows-fine.ensures.rows.0 ∙ (λ t. solved dual ((ap length (begun k) ∙ many k) t) (begun k t))

verdict : (k : After-solve_rows-fine) → k.solve_rows-fine.result ≡ solved_ok dual k.args.m (rows_in k)
verdict k = k.solve_rows-fine.ensures.rows.1 ∙ (λ t. solved_ok dual ((ap length (begun k) ∙ many k) t) (begun k t))

still : (k : After-solve_rows-fine) → k.solve_rows-fine.new.rows.order.rows ≡ k.args.m
still k = k.solve_rows-fine.ensures.same.4 ∙ few k

pub returns-then-not-fine-clause-answers : goal.returns-then-not-fine-clause-answers
returns-then-not-fine-clause-answers c =
    let a = c.args in
    let k = (goal.at.returns-then-not-fine-clause-answers c).After-solve_rows-fine in
    none-four a.m a.at (rows_in k) (verdict k) (not-true _ (ap not c.if-not-fine.true))

pub returns-clause-answers : goal.returns-clause-answers
returns-clause-answers c =
    let a = c.args in
    let k = (goal.at.returns-clause-answers c).After-solve_rows-fine in
    fine-four a.m a.at (rows_in k) (verdict k) (not-false _ (ap not c.if-not-fine.false))
    (c.four_of-xs.ensures ∙ (λ t. four a.at (column dual (still k t) (solved-in k t) a.m (zeros dual))))
    (c.four_of-ys.ensures ∙ (λ t. four a.at (column dual (still k t) (solved-in k t) (a.m + 1) (zeros dual))))
