-- `build::build_with` meets its contract.
use Rattle.build.proofs.Forms.{by_control, by_fit}
use Rattle.build.proofs.build_with.Goals as goal

pub returns-in-Control : goal.returns-in-Control
returns-in-Control c = by_control _ _ _ _ _ c.in-Control.is c.build_control.ensures

pub returns-in-Fit : goal.returns-in-Fit
returns-in-Fit c =
    let a = c.args in
    by_fit a.coords.now _ _ a.short a.work.now c.in-Fit.is c.build_fit.ensures
