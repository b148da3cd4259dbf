-- `Search::sample_all` meets its contract: a turn takes the samples of one pair of knots.
use Prim.Native.Nat.{◌+◌}
use Rattle.meaning.proofs.For.{At}
use Rattle.plane.specs.View.{view}
use Rattle.shape.specs.Spline.{shape_of}
use Rattle.samples.specs.Samples.{pair_samples}
use Rattle.closest.specs.Sampling.{through, sampled}
use Rattle.closest.proofs.Search.sample_all.Given as goal

abbrev pub invariant-loop-i : goal.invariant-loop-i
invariant-loop-i l =
    At 0 (l.self.curve.n + 3) (λ k x. through (sampled (shape_of l.self.curve) (view l.self.p)) (pair_samples l.self.curve.knots.now 16 k) x) l.initial.best l.i l.best
