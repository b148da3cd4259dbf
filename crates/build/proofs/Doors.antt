-- What a build accepts, every door accepts: the record of a curve of any form passes its own rules. Assumes nothing.
use mathlib.Core.Path.{◌≡◌, sym, ap, subst}
use mathlib.Core.Bool.{Bool}
use mathlib.Core.List.{List}
use lib.Ieee.{Float}
use Rattle.refusal.proofs.Rows.{Passed}
use Rattle.knots.specs.declared.Form.{Form}
use Rattle.knots.specs.declared.Form.TheVariants.{Control, Fit}
use Rattle.curve.specs.declared.Curve.{Curve}
use Rattle.curve.specs.Build.{Built}
use Rattle.curve.specs.Record.{by_record}
use Rattle.curve.proofs.Builds.{built_passed, built_curve}
use Rattle.control.proofs.Rechecked.{control_rechecked}
use Rattle.fit.specs.Fit.{Making, making}
use Rattle.fit.proofs.Doors.{fit_rechecked}
use Rattle.build.specs.Build.{curve_of, rules_of, built}

pub rechecked : (form : Form) (coords : List Float) (given : Bool) (ks : List Float) (short : Bool)
    → Passed (rules_of form coords given ks short) → Passed (by_record (curve_of form coords given ks)).rules
rechecked Control coords given ks short h = control_rechecked coords given ks short h
rechecked Fit coords given ks short h = fit_rechecked coords given ks short h

-- so any answer that the contract of `build` allows, where it is no refusal, passes the rules by which every door checks a record again
pub build_accepted : (form : Form) (coords : List Float) (given : Bool) (ks work : List Float) {b : Built} {work' : List Float}
    → making b work' ≡ built form coords given ks work → b.refusal.number ≡ 0 → Passed (by_record b.curve).rules
build_accepted form coords given ks work e z =
    let a = ap (λ (x : Making). x.built) e in
    subst (λ (c : Curve). Passed (by_record c).rules) (sym (built_curve _ _ a z)) (rechecked form coords given ks _ (built_passed _ _ a z))
