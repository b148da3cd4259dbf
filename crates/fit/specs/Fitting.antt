-- Inner: what this crate's build answers; the crate `build` says it for every form.
use Rattle.std.specs.Prelude.{Bool, ◌&&◌, List, ℕ, ◌+◌, ◌*◌, length, ltb, Float}
use Rattle.std.specs.Float.Ieee.Scale.{finite}
use Rattle.refusal.specs.Refusals.{Row}
use Rattle.knots.specs.declared.Form.TheVariants.{Fit}
use Rattle.curve.specs.Build.{building, build_rules}
use Rattle.fit.specs.Fit.{controls_for, curve_through, fit_fine, work_after, Making, making}

-- the doubles of work: m² + 2m
abbrev pub work_for : List Float → ℕ
work_for q = controls_for q * (controls_for q + 2)

-- the work buffer is short
abbrev pub work_short : List Float → List Float → Bool
work_short q work = ltb (length work) (work_for q)

-- The rules, 14 of which is that a lent slice is short: the work buffer, or one for the answer.
abbrev pub fit_rules : List Float → Bool → List Float → Bool → List Row
fit_rules q given ks short = build_rules Fit q given ks short (fit_fine q && finite (curve_through q).length)

-- the fit
abbrev pub fitting : List Float → Bool → List Float → Bool → List Float → Making
fitting q given ks short work = making (building (fit_rules q given ks short) (curve_through q)) (work_after q given ks short work)
