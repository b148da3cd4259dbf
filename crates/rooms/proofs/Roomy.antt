-- Control points in the rooms of a record. Assumes nothing.
use mathlib.Core.Path.{◌≡◌}
use mathlib.Core.Bool.{Bool, false}
use mathlib.Core.List.{List}
use Prim.Native.Nat.{ℕ, ◌+◌, ◌≤◌, ◌-◌}
use native.Mathlib.Omega.{arith}
use borrow.Author.Tests.{lt-leb}
use lib.Dec.{leb}
use lib.ListN.{length, replicate, length-replicate}
use lib.Ieee.{Float}
use Rattle.meaning.specs.Scalar.{zero64}
use Rattle.meaning.proofs.Tests.{by_two}
use Rattle.refusal.proofs.Rows.{Passed}
use Rattle.buffer.specs.Pasted.{pasted}
use Rattle.knots.specs.declared.Form.TheVariants.{Control}
use Rattle.knots.proofs.Refused.{room_for}
use Rattle.shape.specs.Shape.{points_in, given_knots}
use Rattle.shape.specs.Rules.{handle_rules}
use Rattle.shape.proofs.Handles.{handles_passed_knots}

-- past the rules there are 4 to 66 control points
pub room_of_lem : (coords : List Float) (given : Bool) (ks : List Float) → Passed (handle_rules Control coords given ks) → (4 ≤ points_in coords) × (points_in coords ≤ 66)
room_of_lem coords given ks h = room_for _ given ks (handles_passed_knots Control coords given ks h)

-- there is no room for the knots of so many
pub too_many-knots : (ks : List Float) (n : ℕ) → 67 ≤ n → replicate 70 zero64 ≡ given_knots n ks
unfolding pasted
too_many-knots ks n h =
    let zeros = replicate 70 zero64 in
    let long : length zeros ≡ 70 = length-replicate 70 zero64 in
    let none : leb (n + 4) (length zeros - 0) ≡ false = lt-leb (n + 4) (length zeros - 0) (omega arith) in
    by_two (leb (n + 4) (length ks)) (λ e. rw (e, none)) (λ e. rw e)
