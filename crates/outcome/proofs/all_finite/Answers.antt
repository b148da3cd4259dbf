-- `outcome::all_finite` meets its contract: the pass is the fold of its test.
use Rattle.std.proofs.Common.{rules, tests, true}
use Rattle.std.proofs.lemmas.Iterator.{YieldsList-from_slice}
use Rattle.std.proofs.lemmas.Iterator.Consumers.{fold_from_yields_List}
use mathlib.Core.Path.{◌∙◌}
use mathlib.Core.Bool.{◌&&◌}
use lib.Ieee.Scale.{finite}
use Rattle.meaning.proofs.Searching.{kept_all}
use Rattle.outcome.proofs.all_finite.Goals as goal

pub returns : goal.returns
returns c =
    fold_from_yields_List _ (λ f x. f && finite x) true _ c.fold.ensures.ran (YieldsList-from_slice c.args.a.now (cc)) (λ a x b q k. search (rules, tests))
    ∙ kept_all (λ x. finite x) c.args.a.now true
