-- `fit::curve_with` meets its contract: where there is no solution, 15 alone is left.
use mathlib.Core.Path.{◌≡◌, refl, ◌∙◌}
use mathlib.Core.Bool.{Bool, false, not, ◌&&◌}
use Rattle.meaning.proofs.Tests.{by_two}
use Rattle.outcome.specs.Outcome.{some_wild}
use Rattle.refusal.specs.Refusals.{first_of}
use Rattle.curve.specs.Build.{building}
use Rattle.fit.proofs.curve_with.Goals as goal

no_more : (a b : Bool) → (a && (b && false)) ≡ false
no_more a b = by_two a (λ e. rw e (by_two b (λ f. rw f refl) (λ f. rw f refl))) (λ e. rw e refl)

pub returns-in_default : goal.returns-in_default
unfolding building first_of
returns-in_default c =
    let a = c.args in
    rw (c.in_default.is, no_more (not (some_wild a.u 70)) a.stored) refl
