-- `Search::sample_span` meets its contract: a turn takes one sample.
use mathlib.Core.Path.{◌∙◌}
use Prim.Native.Nat.{◌+◌}
use native.Mathlib.Omega.{arith}
use Rattle.meaning.specs.Scalar.{plain}
use Rattle.meaning.specs.Table.{at1}
use Rattle.meaning.proofs.For.{first, next, last}
use Rattle.plane.specs.View.{view}
use Rattle.samples.specs.Samples.{sample_at}
use Rattle.closest.specs.Sampling.{sampled}
use Rattle.closest.proofs.Folded.{through-listed}
use Rattle.closest.proofs.Search.sample_span.Goals as goal

pub loop-s-init : goal.loop-s-init
loop-s-init c = first (omega arith)

pub loop-s-preserved : goal.loop-s-preserved
loop-s-preserved c = next c.loop-s.invariant (omega arith) (c.sample-best.ensures ∙ rw c.sample_at.ensures)

pub returns : goal.returns
returns c =
    let a = c.args in
    let k = a.self.now in
    last c.loop-s.invariant (omega arith)
    ∙ through-listed (sampled _ (view k.p)) 0 16 (sample_at (at1 plain k.curve.knots.now a.i) (at1 plain k.curve.knots.now (a.i + 1)) 16) _
