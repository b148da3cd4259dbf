-- `solve_partials::solve` meets its contract: a case for rows that do not fit, and one for rows that do.
use mathlib.Core.Path.{sym, ◌∙◌}
use borrow.Author.Tests.{not-true, not-false}
use Rattle.solve_partials.specs.Outcome.{solution_in, doubles_left, counts_left}
use Rattle.solve_partials.proofs.Outcomes.{fitting, none_is}
use mathlib.Core.Path.{ap}
use mathlib.Core.Bool.{not}
use Rattle.solve_partials.proofs.solve.Goals as goal

pub returns-then-not-has_room : goal.returns-then-not-has_room
unfolding solution_in doubles_left counts_left
returns-then-not-has_room c =
    let no = sym c.has_room.ensures ∙ not-true _ (ap not c.if-not-has_room.true) in
    record {
      answers = rw no (none_is c.args.at);
      doubles = rw no;
      counts = rw no;
    }

pub solve_front-requires : goal.solve_front-requires
solve_front-requires c =
    let f = fitting _ _ _ _ (sym c.has_room.ensures ∙ not-false _ (ap not c.if-not-has_room.false)) in
    (f.few, f.narrow, f.counts, f.room)

pub returns : goal.returns
unfolding solution_in doubles_left counts_left
returns c =
    let call = c.solve_front.ensures in
    let yes = sym c.has_room.ensures ∙ not-false _ (ap not c.if-not-has_room.false) in
    record {
      answers = rw yes call.answers;
      doubles = rw yes call.doubles;
      counts = rw yes call.counts;
    }
