-- `Search::answer` meets its contract: the tests in the order of the table.
use mathlib.Core.Path.{refl}
use Rattle.plane.specs.View.{view}
use Rattle.shape.specs.Spline.{shape_of}
use Rattle.closest.specs.Search.{closest_answer}
use Rattle.closest.proofs.Judged.{wild_point, wild_sample, lost, found}
use Rattle.closest.proofs.Search.answer.Goals as goal

pub returns-then-either_wild : goal.returns-then-either_wild
unfolding closest_answer
returns-then-either_wild c =
    wild_point (shape_of c.args.self.now.curve) (view c.args.self.now.p) c.either_wild.ensures c.if-either_wild.true refl

pub returns-then-not-best : goal.returns-then-not-best
unfolding closest_answer
returns-then-not-best c =
    wild_sample (shape_of c.args.self.now.curve) (view c.args.self.now.p) c.either_wild.ensures c.if-either_wild.false c.sample_all-best.ensures c.if-not-best.true
    refl

pub returns-then-t : goal.returns-then-t
unfolding closest_answer
returns-then-t c =
    lost (shape_of c.args.self.now.curve) (view c.args.self.now.p) c.either_wild.ensures c.if-either_wild.false c.sample_all-best.ensures c.if-not-best.false
    c.newton-t.ensures c.if-t.true refl

pub returns : goal.returns
unfolding closest_answer
returns c =
    found (shape_of c.args.self.now.curve) (view c.args.self.now.p) c.either_wild.ensures c.if-either_wild.false c.sample_all-best.ensures c.if-not-best.false
    c.newton-t.ensures c.if-t.false
