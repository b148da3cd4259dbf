-- `knots::none_repeats` meets its contract: a chain over the indices from 1 on.
use Rattle.std.proofs.lemmas.Iterator.{YieldsList-from_range}
use Rattle.std.proofs.lemmas.Iterator.Consumers.{fold_from_yields_List}
use Rattle.std.proofs.Common.{rules, tests, true, refl, ◌+◌, ◌-◌}
use mathlib.Core.Path.{◌∙◌}
use mathlib.Core.Bool.{◌&&◌}
use lib.Ieee.{ne}
use Rattle.knots.specs.Rules.{knot}
use Rattle.knots.proofs.Passes.{told_repeats}
use Rattle.knots.proofs.none_repeats.Goals as goal

pub returns : goal.returns
returns c =
    let ks = c.args.knots.now in
    let n = c.args.n in
    fold_from_yields_List _ (λ b j. b && ne (knot ks j) (knot ks (j + 3))) true _ c.fold.ensures.ran (YieldsList-from_range 1 n (n - 1) refl refl) (λ a x b q k. search (rules, tests))
    ∙ told_repeats ks n c.requires.fact_1
