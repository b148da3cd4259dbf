-- `number::clamp` meets its contract: the first test picks y, and the second the answer.
use mathlib.Core.Path.{◌≡◌, ◌∙◌}
use mathlib.Core.Bool.{cond}
use lib.Ieee.{lt}
use Rattle.meaning.specs.Number.{clamp_of}
use Rattle.number.proofs.clamp.Goals as goal
use Rattle.number.proofs.clamp.Goals.{Joined-x-lo, then-x-lo, else-x-lo}

picked : (c : Joined-x-lo) → c.if-x-lo.y ≡ cond (lt c.args.x c.args.lo) c.args.lo c.args.x
picked c =
    elim c.if-x-lo.branch [
      | then-x-lo w ↦ w.y-is ∙ rw w.if-x-lo.true
      | else-x-lo w ↦ w.y-is ∙ rw w.if-x-lo.false
    ]

pub returns-then-hi-y : goal.returns-then-hi-y
unfolding clamp_of
returns-then-hi-y c = rw (rw (picked (goal.at.returns-then-hi-y c).Joined-x-lo) at c.if-hi-y.true)

pub returns : goal.returns
unfolding clamp_of
returns c = let y = picked (goal.at.returns c).Joined-x-lo in rw (rw y at c.if-hi-y.false) y
