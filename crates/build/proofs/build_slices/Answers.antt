-- `build::build_slices` meets its contract.
use mathlib.Core.Path.{◌≡◌, sym, ap, ◌∙◌, subst}
use mathlib.Core.Bool.{◌||◌}
use mathlib.Core.List.{List}
use Prim.Native.Nat.{ℕ, ◌+◌, ◌*◌, ◌/◌, ◌≤◌}
use native.Mathlib.Omega.{arith}
use lib.Dec.{ltb}
use lib.ListN.{length}
use lib.Ieee.{Float}
use Rattle.buffer.specs.Pasted.{pasted}
use Rattle.std.specs.Prelude.{Ok}
use Rattle.refusal.specs.Refusals.{Verdict}
use Rattle.refusal.proofs.Rows.{handed_on, err_number}
use Rattle.curve.specs.Build.{Built, build_of}
use Rattle.fit.specs.Fit.{making}
use Rattle.build.specs.Build.{lacks_room, sliced}
use Rattle.build.proofs.Forms.{controls_few}
use Rattle.build.proofs.Turned.{put_front}
use Rattle.build.proofs.Sliced.{points-few, in_slices_lem, refused_into}
use Rattle.build.proofs.build_slices.Goals as goal
use Rattle.build.proofs.build_slices.Goals.{After-build_with, After-controls-m, After-either-short}

-- the tests of room, on the number of control points
few : (c : After-controls-m) → c.controls-m.result ≤ length c.args.coords.now / 2 + 2
few c =
    let a = c.args in
    rw c.controls-m.ensures (controls_few a.form (length a.coords.now / 2))

told : (c : After-either-short) → let a = c.args in
    c.either-short.result ≡ lacks_room a.form a.coords.now a.control.now a.knots_out.now
told c =
    let a = c.args in
    c.either-short.ensures
    ∙ ap (λ (n : ℕ). ltb (length a.control.now) (2 * n) || ltb (length a.knots_out.now) (n + 4)) c.controls-m.ensures

few-points : (c : After-build_with) → (build_of c.build_with.result).curve.points ≤ 66
few-points c =
    let a = c.args in
    points-few a.form a.coords.now _ _ a.work.now a.control.now a.knots_out.now
    (c.either-short.ensures
    ∙ ap (λ (n : ℕ). ltb (length a.control.now) (2 * n) || ltb (length a.knots_out.now) (n + 4)) c.controls-m.ensures) c.build_with.ensures

pub overflow_mul-m : goal.overflow_mul-m
overflow_mul-m c = omega (arith, few c)

pub overflow_add-m : goal.overflow_add-m
overflow_add-m c = omega (arith, few c)

pub in_turn-points-requires : goal.in_turn-points-requires
in_turn-points-requires c =
    subst (λ (b : Built). b.curve.points ≤ 66) (ap build_of c.in_ok-curve.was) (few-points (goal.at.in_turn-points-requires c).After-build_with)

pub overflow_mul-curve : goal.overflow_mul-curve
overflow_mul-curve c =
    let few : c.in_ok-curve.curve.points ≤ 66 =
    subst (λ (b : Built). b.curve.points ≤ 66) (ap build_of c.in_ok-curve.was) (few-points (goal.at.overflow_mul-curve c).After-build_with) in
    omega arith

pub returns-in_err-curve : goal.returns-in_err-curve
returns-in_err-curve c =
    let a = c.args in
    let was = c.in_err-curve.was in
    ap (λ (v : Verdict). sliced v a.control.now a.knots_out.now c.build_with.new.work) (handed_on was _ c.from_residual.ensures)
    ∙ refused_into a.form a.coords.now _ _ a.work.now a.control.now a.knots_out.now
    (told (goal.at.returns-in_err-curve c).After-either-short) c.build_with.ensures (err_number was)

pub returns : goal.returns
returns c =
    let a = c.args in
    let k = c.in_ok-curve.curve in
    let n = 2 * k.points in
    let put =
    put_front c.in_turn-points.result n a.control.now c.in_turn-points.ensures.n_in_bounds
    ∙ ap (λ (l : List Float). pasted l n a.control.now 0) c.in_turn-points.ensures.result_value in
    in_slices_lem a.form a.coords.now _ _ a.work.now a.control.now a.knots_out.now {b = build_of (Ok k)}
    (told (goal.at.returns c).After-either-short) (ap (λ r. making (build_of r) c.build_with.new.work) (sym c.in_ok-curve.was) ∙ c.build_with.ensures)
    (c.put.ensures ∙ put) c.put-2.ensures
