-- `residual::answer` meets its contract.
use mathlib.Core.Path.{◌≡◌, refl, ap, ◌∙◌}
use mathlib.Core.Bool.{not}
use Rattle.partials.specs.Dual.{dual}
use Rattle.outcome.proofs.Doors.{stop, pass, done, not_told}
use Rattle.solve.specs.Stored.{all_fine}
use Rattle.fit.proofs.Six.{all-fine}
use Rattle.residual.proofs.answer.Goals as goal
use Rattle.residual.proofs.answer.Goals.{After-all_fine}

-- the verdict
judged : (c : After-all_fine) → c.all_fine.result ≡ all_fine dual c.args.three.now
judged c = c.all_fine.ensures ∙ all-fine dual c.args.three.now

pub returns-then-not-all_fine : goal.returns-then-not-all_fine
returns-then-not-all_fine c =
    let h = not_told (judged (goal.at.returns-then-not-all_fine c).After-all_fine) (ap not c.if-not-all_fine.true) in
    record { leaves = stop 14 refl h; leaves_2 = stop 14 refl h }

pub returns : goal.returns
returns c =
    let h = not_told (judged (goal.at.returns c).After-all_fine) (ap not c.if-not-all_fine.false) in
    record {
      leaves = pass 15 h (done refl c.write_values.ensures);
      leaves_2 = pass 15 h (done refl c.write_rows.ensures);
    }
