-- `build::build` meets its contract.
use mathlib.Core.Path.{ap, ◌∙◌}
use mathlib.Core.Bool.{Bool}
use Rattle.meaning.proofs.Tests.{or_false}
use Rattle.knots.specs.Given.{given, given_list}
use Rattle.build.specs.Build.{built_by}
use Rattle.build.proofs.build.Goals as goal

pub returns : goal.returns
returns c =
    let a = c.args in
    c.build_with.ensures
    ∙ ap (λ (t : Bool). built_by a.form a.coords.now (given a.knots) (given_list (λ k. k.now) a.knots) t a.work.now) (or_false _)
