-- `closest::search_each` meets its contract: a turn searches for one point.
use Rattle.shape.specs.Shape.{points_in}
use Rattle.shape.specs.Spline.{trusted_spline}
use Rattle.closest.proofs.Each.{Turned}
use Rattle.closest.proofs.Pairs.{Left}
use Rattle.closest.proofs.search_each.Given as goal

abbrev pub invariant-loop-k : goal.invariant-loop-k
invariant-loop-k l = record {
  turned : Turned (trusted_spline l.curve) l.points l.initial.out l.initial.refusals (points_in l.points) l.k-iterator.count l.out l.refusals;
  rest : Left l.points l.k-iterator.count l.k-iterator.iter.rest.now l.k-iterator.iter.size;
}
