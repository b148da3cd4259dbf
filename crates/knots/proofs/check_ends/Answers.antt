-- `knots::check_ends` meets its contract: each pass tells its row, and the last of them the row that counts repeats.
use mathlib.Core.Path.{◌≡◌, ◌∙◌}
use mathlib.Core.Bool.{not}
use native.Mathlib.Omega.{arith}
use Prim.Native.Nat.{◌+◌}
use Rattle.meaning.specs.Search.{some}
use Rattle.knots.specs.Rules.{unlike}
use Rattle.knots.proofs.Passes.{told_first, told_last, found_by, none_by}
use Rattle.knots.proofs.LastRows.{first_differ, last_differ, no_interval_lem, too_many_lem, none-applies}
use Rattle.knots.proofs.check_ends.Goals as goal
use Rattle.knots.proofs.check_ends.Goals.{After-all_equal, After-all_equal-2}

-- what the first two passes tell
first : (c : After-all_equal) → c.all_equal.result ≡ not (some 0 4 (unlike c.args.knots.now 0))
first c = c.all_equal.ensures ∙ told_first c.args.knots.now (omega (arith, c.requires.fact_2))

last : (c : After-all_equal-2) → c.all_equal-2.result ≡ not (some c.args.n (c.args.n + 4) (unlike c.args.knots.now (c.args.n + 3)))
last c = c.all_equal-2.ensures ∙ told_last c.args.knots.now c.args.n c.requires.fact_2

pub returns-then-not-all_equal : goal.returns-then-not-all_equal
returns-then-not-all_equal c =
    let r = c.requires in
    first_differ c.args.n c.args.knots.now r.fact_1 r.fact_2 r.fact_3 (found_by (first (goal.at.returns-then-not-all_equal c).After-all_equal) c.if-not-all_equal.true)

pub returns-then-not-all_equal-2 : goal.returns-then-not-all_equal-2
returns-then-not-all_equal-2 c =
    let r = c.requires in
    let at = goal.at.returns-then-not-all_equal-2 c in
    last_differ c.args.n c.args.knots.now r.fact_1 r.fact_2 r.fact_3
    (none_by (first at.After-all_equal) c.if-not-all_equal.false) (found_by (last at.After-all_equal-2) c.if-not-all_equal-2.true)

pub returns-then-first-last : goal.returns-then-first-last
returns-then-first-last c =
    let r = c.requires in
    let at = goal.at.returns-then-first-last c in
    no_interval_lem c.args.n c.args.knots.now r.fact_1 r.fact_2 r.fact_3
    (none_by (first at.After-all_equal) c.if-not-all_equal.false) (none_by (last at.After-all_equal-2) c.if-not-all_equal-2.false)
    c.if-first-last.true

pub returns-then-not-none_repeats : goal.returns-then-not-none_repeats
returns-then-not-none_repeats c =
    let r = c.requires in
    let at = goal.at.returns-then-not-none_repeats c in
    too_many_lem c.args.n c.args.knots.now r.fact_1 r.fact_2 r.fact_3
    (none_by (first at.After-all_equal) c.if-not-all_equal.false) (none_by (last at.After-all_equal-2) c.if-not-all_equal-2.false)
    c.if-first-last.false (found_by c.none_repeats.ensures c.if-not-none_repeats.true)

pub returns : goal.returns
returns c =
    let r = c.requires in
    let at = goal.at.returns c in
    none-applies c.args.n c.args.knots.now r.fact_1 r.fact_2 r.fact_3
    (none_by (first at.After-all_equal) c.if-not-all_equal.false) (none_by (last at.After-all_equal-2) c.if-not-all_equal-2.false)
    c.if-first-last.false (none_by c.none_repeats.ensures c.if-not-none_repeats.false)
