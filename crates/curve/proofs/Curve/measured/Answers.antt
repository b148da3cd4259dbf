-- `Curve::measured` meets its contract.
use mathlib.Core.Path.{refl, sym, ap, ◌∙◌}
use native.Mathlib.Omega.{arith}
use lib.Ieee.Scale.{finite}
use Rattle.polygon.proofs.Corners.{all_there}
use Rattle.curve.proofs.Builds.{makes, stop_made, pass_made, done_made}
use Rattle.curve.proofs.Curve.measured.Goals as goal

pub returns-then-not-fine : goal.returns-then-not-fine
returns-then-not-fine c = makes (stop_made 14 refl (rw c.if-not-fine.true))

pub returns-then-not-is_finite : goal.returns-then-not-is_finite
returns-then-not-is_finite c =
    let wild = sym (c.is_finite.ensures ∙ ap finite c.length-length.ensures) ∙ c.if-not-is_finite.true in
    makes (stop_made 14 refl (rw (c.if-not-fine.false, wild)))

pub overflow_add-result : goal.overflow_add-result
overflow_add-result c =
    let tame = sym (c.is_finite.ensures ∙ ap finite c.length-length.ensures) ∙ c.if-not-is_finite.false in
    let a = c.args.rooms in
    omega (arith, all_there a.xs a.ys a.points tame)

pub returns : goal.returns
returns c =
    let tame = sym (c.is_finite.ensures ∙ ap finite c.length-length.ensures) ∙ c.if-not-is_finite.false in
    rw c.length-length.ensures (makes (pass_made 15 (rw (c.if-not-fine.false, tame)) (done_made refl)))
