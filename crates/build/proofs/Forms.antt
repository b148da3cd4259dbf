-- The build of each form is the build of every form. Assumes nothing.
use mathlib.Core.Path.{◌≡◌, sym, ap, subst}
use mathlib.Core.Bool.{Bool, ◌||◌}
use mathlib.Core.List.{List}
use Prim.Native.Nat.{ℕ, ◌+◌, ◌≤◌, zero-le}
use native.Mathlib.Nat.{le_refl}
use native.Mathlib.Omega.{arith}
use borrow.Author.Tests.{le-ltb}
use lib.ListN.{length}
use lib.Ieee.{Float}
use Rattle.knots.specs.declared.Form.{Form}
use Rattle.knots.specs.declared.Form.TheVariants.{Control, Fit}
use Rattle.curve.specs.Build.{Built, building, control_curve}
use Rattle.control.specs.Rules.{control_rules}
use Rattle.fit.specs.Fit.{making}
use Rattle.fit.specs.Fitting.{work_short, fitting}
use Rattle.build.specs.Build.{controls_of, lacks_work, built_by}

pub controls_few : (form : Form) (handles : ℕ) → controls_of form handles ≤ handles + 2
controls_few Control handles = omega arith
controls_few Fit handles = le_refl _

module _ (coords : List Float) (given : Bool) (ks : List Float) (short : Bool) (work : List Float) {b : Built} {form : Form} where
  pub by_control : form ≡ Control → b ≡ building (control_rules coords given ks short) (control_curve coords given ks)
      → making b work ≡ built_by form coords given ks (lacks_work form coords work || short) work
  by_control f e =
      subst (λ (x : Form). making b work ≡ built_by x coords given ks (lacks_work x coords work || short) work) (sym f)
      (rw (le-ltb (length work) 0 zero-le) (ap (λ (x : Built). making x work) e))

  pub by_fit : {work' : List Float} → form ≡ Fit → making b work' ≡ fitting coords given ks (work_short coords work || short) work
      → making b work' ≡ built_by form coords given ks (lacks_work form coords work || short) work
  by_fit {work'} f e = subst (λ (x : Form). making b work' ≡ built_by x coords given ks (lacks_work x coords work || short) work) (sym f) e
