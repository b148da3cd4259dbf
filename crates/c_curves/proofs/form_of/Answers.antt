-- `c_curves::form_of` meets its contract.
use borrow.Author.Tests.{eq-eqb, ne_eqb}
use Rattle.c_curves.proofs.form_of.Goals as goal

pub returns-then-fit-ne0 : goal.returns-then-fit-ne0
returns-then-fit-ne0 c = rw (ne_eqb c.args.fit 0 c.if-fit-ne0.true)

pub returns : goal.returns
returns c = rw (eq-eqb c.args.fit 0 c.if-fit-ne0.false)
