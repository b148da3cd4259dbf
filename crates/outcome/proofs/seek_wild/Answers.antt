-- `outcome::seek_wild` meets its contract: each number before the position is finite, and the one there is not.
use Rattle.std.proofs.Common.{rules, tests, ◌≡◌, true, false}
use Rattle.std.proofs.lemmas.Iterator.{YieldsList-from_slice, IsFirst-from_position}
use mathlib.Core.Path.{◌∙◌}
use mathlib.Core.Bool.{not}
use lib.Ieee.{nan}
use lib.Ieee.Scale.{finite}
use Rattle.meaning.proofs.Searching.{position_seeks}
use Rattle.outcome.proofs.seek_wild.Goals as goal

pub returns : goal.returns
returns c =
    c.unwrap_or.ensures
    ∙ position_seeks (λ x. not (finite x)) nan c.args.a.now c.position.result
    (IsFirst-from_position _ _ _ (λ x. not (finite x) ≡ true) (λ x. not (finite x) ≡ false) c.position.ensures.ran (YieldsList-from_slice c.args.a.now (cc))
    (λ x q k. search (rules, tests)) (λ x q k. search (rules, tests)))
