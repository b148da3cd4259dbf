-- `c_values::answer_pair` meets its contract.
use Rattle.c_values.proofs.Slices.{two_put}
use Rattle.c_values.proofs.Answers.{short_p, given_p}
use borrow.Author.Rules.{rules}
use Rattle.c_values.proofs.answer_pair.Goals as goal

pub returns-then-out-lt2 : goal.returns-then-out-lt2
returns-then-out-lt2 c = short_p _ _ c.if-out-lt2.true

pub bounds-out-1 : goal.bounds-out-1
bounds-out-1 c = search rules

pub returns : goal.returns
returns c = given_p _ _ c.if-out-lt2.false (two_put c.args.out.now c.args.a.x c.args.a.y c.if-out-lt2.false)
