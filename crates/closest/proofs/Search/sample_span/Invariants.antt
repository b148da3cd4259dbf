-- `Search::sample_span` meets its contract: a turn takes one sample.
use Prim.Native.Nat.{◌+◌}
use Rattle.meaning.specs.Scalar.{plain}
use Rattle.meaning.specs.Table.{at1}
use Rattle.meaning.proofs.For.{At}
use Rattle.plane.specs.View.{view}
use Rattle.shape.specs.Spline.{shape_of}
use Rattle.samples.specs.Samples.{sample_at}
use Rattle.closest.specs.Sampling.{sampled}
use Rattle.closest.proofs.Search.sample_span.Given as goal

abbrev pub invariant-loop-s : goal.invariant-loop-s
invariant-loop-s l =
    At 0 16 (λ k x. sampled (shape_of l.self.curve) (view l.self.p) x (sample_at (at1 plain l.self.curve.knots.now l.i) (at1 plain l.self.curve.knots.now (l.i + 1)) 16 k)) l.initial.best l.s l.best
