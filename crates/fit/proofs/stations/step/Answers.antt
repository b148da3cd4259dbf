-- `fit::stations::step` meets its contract: the root of the root, in the order of the operations.
use Rattle.std.proofs.Common.{◌∙◌, ap}
use Rattle.plane.specs.Vector.{Vector, dot_v}
use Rattle.fit.proofs.stations.step.Goals as goal

pub returns : goal.returns
returns g c =
    let o = g.S.Scalar.ops in
    let square = c.dot.ensures ∙ ap (λ (v : Vector _). dot_v o v v) c.sub-d.ensures in
    let inner = c.plus.ensures ∙ (λ t. o.plus (square t) (c.cst.ensures t)) in
    c.root-2.ensures ∙ ap o.root (c.root.ensures ∙ ap o.root inner)
