-- A curve built from control points passes the rules of its own record: what the build lets through, every door that checks it again does, too.
-- Assumes nothing.
use mathlib.Core.Path.{◌≡◌, ap, ◌∙◌}
use mathlib.Core.Bool.{Bool, true, false}
use mathlib.Core.List.{List}
use Prim.Native.Nat.{ℕ, ◌+◌, ◌≤◌}
use native.Mathlib.Omega.{arith}
use borrow.Author.Tests.{not-false}
use lib.ListN.{take, length-take}
use lib.Ieee.{Float}
use lib.Ieee.Scale.{finite}
use Rattle.meaning.proofs.Tests.{and_right}
use Rattle.refusal.specs.Refusals.{first_of}
use Rattle.refusal.proofs.Rows.{Passed, number_of}
use Rattle.knots.specs.declared.Form.TheVariants.{Control}
use Rattle.knots.specs.Rules.{knot_rules}
use Rattle.knots.proofs.Accepted.{accepted}
use Rattle.uniform.proofs.Uniforms.{uniform_passes}
use Rattle.outcome.specs.Outcome.{some_wild}
use Rattle.outcome.proofs.Wild.{none_wild}
use Rattle.shape.specs.Shape.{points_in, every_other}
use Rattle.shape.specs.Rules.{counted_knots, handle_rules}
use Rattle.shape.proofs.Trusted.{counted_all, tame_passes}
use Rattle.shape.proofs.Handles.{handles_passed_knots, handles_tame, given_front}
use Rattle.shape.proofs.Sound.{others_finite}
use Rattle.curve.specs.Record.{shape_in, by_record}
use Rattle.rooms.specs.Filled.{stored_knots}
use Rattle.curve.specs.Build.{control_curve}
use Rattle.curve.proofs.Recheck.{measured_passes}
use Rattle.curve.proofs.Builds.{build_parts}
use Rattle.rooms.proofs.Roomy.{room_of_lem}
use Rattle.control.specs.Control.{control_fine}
use Rattle.control.specs.Rules.{control_rules}

-- ---- the curve

module _ (coords : List Float) (given : Bool) (ks : List Float) (short : Bool) (passed : Passed (control_rules coords given ks short)) where
  abbrev n : ℕ
  n = points_in coords

  handles : Passed (handle_rules Control coords given ks)
  handles = (build_parts Control coords given ks short _ passed).0

  measured : finite (control_curve coords given ks).length ≡ true
  measured = and_right (control_fine coords given ks) _ (not-false _ (build_parts Control coords given ks short _ passed).2)

  room : (4 ≤ n) × (n ≤ 66)
  room = room_of_lem coords given ks handles

  coordinates : (off : ℕ) → off ≤ 1 → some_wild (every_other coords n off) n ≡ false
  coordinates off o =
      none_wild (every_other coords n off) n (others_finite coords off room.1 o (handles_tame Control coords given ks handles))

  knots_pass : Passed (knot_rules Control n true (take (n + 4) (stored_knots n given ks)))
  knots_pass = by given (handles_passed_knots Control coords given ks handles)
    where
      by : (given : Bool) → Passed (knot_rules Control n given ks) → Passed (knot_rules Control n true (take (n + 4) (stored_knots n given ks)))
      by true h = rw (given_front ks n (accepted ks n h).sound.long room.1) h
      by false h = uniform_passes n room.0 room.1

  -- so the room holds as many as the record counts
  counted : counted_knots (n + 4) (stored_knots n given ks) ≡ take (n + 4) (stored_knots n given ks)
  counted = counted_all n (n + 4) (stored_knots n given ks) (omega (arith, (accepted _ n knots_pass).sound.long, length-take (n + 4) (stored_knots n given ks)))

  pub control_rechecked : Passed (by_record (control_curve coords given ks)).rules
  control_rechecked =
      let z = number_of (ap (λ (l : List Float). first_of (knot_rules Control n true l)) counted) ∙ knots_pass in
      let shape = shape_in (control_curve coords given ks) in
      measured_passes (n + 4) shape (tame_passes (n + 4) shape z (coordinates 0 (omega arith)) (coordinates 1 (omega arith))) measured
