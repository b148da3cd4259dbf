-- `build::controls` meets its contract.
use Rattle.build.proofs.controls.Goals as goal

pub returns-in-Control : goal.returns-in-Control
returns-in-Control c = rw c.in-Control.is

pub returns-in-Fit : goal.returns-in-Fit
returns-in-Fit c = rw c.in-Fit.is
