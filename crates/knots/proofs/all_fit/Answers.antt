-- `knots::all_fit` meets its contract: no knot is unfit where each pair passes, and the first knot is finite.
use Rattle.std.proofs.lemmas.Iterator.{YieldsList-from_slice, YieldsList-from_zip}
use Rattle.std.proofs.lemmas.Iterator.Consumers.{fold_from_yields_List}
use Rattle.std.proofs.Common.{rules, tests, ◌-◌, length}
use mathlib.Core.Path.{◌∙◌}
use mathlib.Core.Bool.{not, ◌&&◌}
use lib.ListN.{take, drop}
use lib.Ieee.{lt}
use lib.Ieee.Scale.{finite}
use Rattle.knots.proofs.Passes.{told_unfit}
use Rattle.knots.proofs.all_fit.Goals as goal

pub returns : goal.returns
returns c =
    let ks = c.args.knots.now in
    fold_from_yields_List _ (λ f p. f && (finite p.1 && not (lt p.1 p.0))) c.is_finite.result _ c.fold.ensures.ran (YieldsList-from_zip (YieldsList-from_slice ks (cc)) (YieldsList-from_slice (take (length ks - 1) (drop 1 ks)) (cc))) (λ a x b q k. search (rules, tests))
    ∙ rw c.is_finite.ensures (told_unfit ks c.requires)
