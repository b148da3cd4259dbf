-- `Search::slope_at` meets its contract.
use Rattle.plane.specs.View.{view}
use Rattle.closest.proofs.Steps.{slope_is}
use Rattle.closest.proofs.Search.slope_at.Goals as goal

pub returns : goal.returns
returns c =
    slope_is _ c.args.self.now.accepted (view c.args.self.now.p) c.args.t c.orders-d.ensures c.sub-w.ensures c.dot.ensures c.dot-2.ensures
