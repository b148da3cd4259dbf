-- Inner: the rules of this crate's build; the crate `build` says them for every form.
use Rattle.std.specs.Prelude.{Bool, ◌&&◌, List, Float}
use Rattle.std.specs.Float.Ieee.Scale.{finite}
use Rattle.refusal.specs.Refusals.{Row}
use Rattle.knots.specs.declared.Form.TheVariants.{Control}
use Rattle.curve.specs.Build.{build_rules, control_curve}
use Rattle.control.specs.Control.{control_fine}

abbrev pub control_rules : List Float → Bool → List Float → Bool → List Row
control_rules coords given ks short = build_rules Control coords given ks short (control_fine coords given ks && finite (control_curve coords given ks).length)
