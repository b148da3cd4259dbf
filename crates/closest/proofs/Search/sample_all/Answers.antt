-- `Search::sample_all` meets its contract: a turn takes the samples of one pair of knots.
use native.Mathlib.Omega.{arith}
use lib.Ieee.{nan_bits, of_bits}
use Rattle.meaning.proofs.For.{first, next, last}
use Rattle.plane.specs.View.{view}
use Rattle.shape.specs.Spline.{shape_of}
use Rattle.closest.proofs.Folded.{nearest_of_all}
use Rattle.closest.proofs.Search.sample_all.Goals as goal

pub float_from_bits-infinite : goal.float_from_bits-infinite
unfolding nan_bits
float_from_bits-infinite c = tt

pub loop-i-init : goal.loop-i-init
loop-i-init c = first (omega arith)

pub loop-i-preserved : goal.loop-i-preserved
loop-i-preserved c = next c.loop-i.invariant (omega arith) c.sample_pair-best.ensures

pub returns : goal.returns
unfolding of_bits
returns c =
    let k = c.args.self.now in
    nearest_of_all (shape_of k.curve) (view k.p) (last c.loop-i.invariant (omega arith)) c.sample.ensures
