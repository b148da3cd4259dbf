-- `fit::System::set_at` meets its contract: one row of the buffer is replaced.
use Rattle.solve.proofs.Flat.{back_row}
use Rattle.fit.proofs.System.set_at.Goals as goal

pub returns : goal.returns
returns c =
    let call = c.set.ensures in
    record { held = λ M rest e sh. rw call.held (back_row rest c.args.w.now c.args.r e sh c.requires.0 _); judged = call.judged }
