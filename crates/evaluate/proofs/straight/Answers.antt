-- `evaluate::straight` meets its contract.
use mathlib.Core.Path.{refl, ◌∙◌}
use Rattle.plane.specs.View.{view}
use Rattle.evaluate.specs.Straight.{straight_of}
use Rattle.evaluate.proofs.Rooms.{point_alone, straight_more}
use Rattle.evaluate.proofs.straight.Goals as goal

pub returns-then-nd-eq0 : goal.returns-then-nd-eq0
unfolding straight_of
returns-then-nd-eq0 c = let a = c.args in c.alone.ensures ∙ point_alone (straight_of (view a.p) (view a.d)) a.nd c.if-nd-eq0.true refl

pub returns : goal.returns
returns c = let a = c.args in straight_more (view a.p) (view a.d) a.nd c.if-nd-eq0.false c.requires
