-- `distance::square` meets its contract.
use mathlib.Core.Path.{◌∙◌}
use Rattle.meaning.specs.Scalar.{plain}
use Rattle.plane.specs.Vector.{dot_v}
use Rattle.distance_rule.specs.Squares.{square_of}
use Rattle.distance.proofs.square.Goals as goal

pub returns : goal.returns
unfolding square_of
returns c = let d = c.sub-d.ensures in c.dot.ensures ∙ (λ i. dot_v plain (d i) (d i))
