-- `outcome::first_wild` meets its contract: what is found among the numbers that are there is what is sought.
use mathlib.Core.Path.{sym, ◌∙◌}
use Rattle.outcome.proofs.Wild.{finite_seeks, front_seeks}
use Rattle.outcome.proofs.first_wild.Goals as goal

pub returns-then-all_finite : goal.returns-then-all_finite
returns-then-all_finite c = rw c.min.ensures (front_seeks c.args.a.now c.args.k _ (finite_seeks _ (rw c.min.ensures at (sym c.all_finite.ensures ∙ c.if-all_finite.true))))

pub returns : goal.returns
returns c = front_seeks c.args.a.now c.args.k _ (rw c.min.ensures at c.seek_wild.ensures)
