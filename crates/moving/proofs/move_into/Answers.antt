-- `moving::move_into` meets its contract: of a refusal nothing is written, else all is.
use mathlib.Core.Path.{refl, sym, ap, ◌∙◌}
use mathlib.Core.Logic.{inl}
use lib.Ieee.{Float}
use Rattle.std.specs.Prelude.{Ok}
use Rattle.refusal.specs.Refusals.{Verdict}
use Rattle.refusal.proofs.Rows.{handed_on, err_number}
use Rattle.curve.specs.Build.{build_of}
use Rattle.moving.specs.Moving.{moved_out}
use Rattle.moving.proofs.Into.{moved_into_lem, refused_into}
use Rattle.moving.proofs.move_into.Goals as goal

pub returns-in_err-curve : goal.returns-in_err-curve
returns-in_err-curve c =
    let a = c.args in
    let was = c.in_err-curve.was in
    ap (λ (v : Verdict). moved_out v a.xs.now a.ys.now a.length.now) (handed_on was _ c.from_residual.ensures)
    ∙ refused_into a.c.now a.index a.x a.y a.xs.now a.ys.now a.length.now c.either-short.ensures c.move_with.ensures (err_number was)

pub returns : goal.returns
returns c =
    let a = c.args in
    let was = c.in_ok-curve.was in
    moved_into_lem a.c.now a.index a.x a.y a.xs.now a.ys.now a.length.now {b = build_of (Ok c.in_ok-curve.curve)} c.either-short.ensures
    (sym (ap build_of was) ∙ c.move_with.ensures) c.put.ensures c.put-2.ensures (inl (refl, refl))
