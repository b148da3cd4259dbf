-- `points::answer_each` meets its contract: a turn answers one parameter.
use lib.ListN.{length}
use Rattle.points.proofs.Answers.{found_orders}
use Rattle.points.proofs.Turns.{Turned}
use Rattle.points.proofs.answer_each.Given as goal

abbrev pub invariant-loop-k : goal.invariant-loop-k
invariant-loop-k g l = Turned (found_orders (g.C.Offer.offered l.curve) l.order) l.ts l.order l.initial.out l.initial.refusals (length l.ts) l.k l.out l.refusals
