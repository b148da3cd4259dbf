-- What the whole call leaves behind, from what its parts do. Assumes nothing.
use mathlib.Core.Path.{◌≡◌, sym, ap, ◌∙◌}
use mathlib.Core.Bool.{Bool, true, false, not, ◌&&◌}
use mathlib.Core.List.{List, [], ◌∷◌, ◌++◌}
use Prim.Native.Nat.{ℕ, ◌+◌, ◌*◌}
use native.Mathlib.Nat.{suc-ne-zero}
use lib.Dec.{T}
use lib.Ieee.{Float}
use Rattle.meaning.specs.Scalar.{zero64}
use Rattle.partials.specs.declared.Dv.{Dv}
use Rattle.partials.specs.Dual.{dual}
use Rattle.refusal.specs.Refusals.{Verdict, row, first_of, refusal}
use Rattle.refusal.proofs.Rows.{Passed, number_of, numbered, row-applies, row-passes, no_rows, second_decides, first_decides}
use Rattle.knots.specs.Rules.{knot_rules}
use Rattle.outcome.specs.Outcome as one
use Rattle.outcome.proofs.Doors.{Leaves, leaves, after, stop, passes_true, passes_false}
use Rattle.shape.specs.Rules.{handle_rules}
use Rattle.solve.specs.Stored.{all_fine}
use Rattle.residual.specs.Residual.{Asked, Lent, variables_for, cells_for, lacks_room, asked_rules, room_rules, last_rule}
use Rattle.residual.specs.Residual.{outcome, cleared, values_of, rows_of, leaving}

module _ (a : Asked) (l : Lent) where
  numbered_early : T (numbered (asked_rules a))
  unfolding asked_rules handle_rules knot_rules
  numbered_early = tt

  numbered-room : T (numbered (room_rules a l))
  unfolding asked_rules handle_rules knot_rules
  numbered-room = tt

  -- ---- room, past the rules before

  module _ (passed : Passed (asked_rules a)) where
    left : first_of (room_rules a l) ≡ first_of (row 14 (lacks_room a.form a.handles l) ∷ [])
    left = second_decides (asked_rules a) _ numbered_early passed

    pub room_passed : lacks_room a.form a.handles l ≡ false → Passed (room_rules a l)
    room_passed h = number_of (left ∙ row-passes _ [] h ∙ no_rows)

  module _ (fine : Bool) (three : List Dv) where
    abbrev verdict : Bool
    verdict = fine && all_fine dual three

    -- ---- refused by 1 to 14

    by_room : {r : Verdict} → r ≡ first_of (room_rules a l) → (r.number ≡ 0 → ⊥)
        → outcome r l.work l.counts l.residuals l.rows ≡ leaving a fine three l
    unfolding leaving one.answering
    by_room {r} e h =
        let all : first_of (room_rules a l ++ last_rule verdict) ≡ first_of (room_rules a l) =
        first_decides (room_rules a l) (last_rule verdict) (λ z. h (number_of e ∙ z)) in
        rw (passes_false (room_rules a l) (λ z. h (number_of e ∙ z)), passes_false (room_rules a l ++ last_rule verdict) (λ z. h (number_of (e ∙ sym all) ∙ z)))
        (ap (λ (x : Verdict). outcome x l.work l.counts l.residuals l.rows) (e ∙ sym all))

    pub refused_early : {r : Verdict} → r ≡ first_of (asked_rules a) → (r.number ≡ 0 → ⊥)
        → outcome r l.work l.counts l.residuals l.rows ≡ leaving a fine three l
    refused_early e h = by_room (e ∙ sym (first_decides (asked_rules a) _ (λ z. h (number_of e ∙ z)))) h

    pub refused_short : {r : Verdict} → Passed (asked_rules a) → lacks_room a.form a.handles l ≡ true → r ≡ refusal 14
        → outcome r l.work l.counts l.residuals l.rows ≡ leaving a fine three l
    refused_short p h e = by_room (e ∙ sym (left p ∙ row-applies _ [] h)) (λ z. suc-ne-zero 13 (number_of (sym e) ∙ z))

    -- ---- answered, or refused by 15

    answered : {r : Verdict} {w x y : List Float} {ns : List ℕ} → Passed (room_rules a l)
        → w ≡ cleared (cells_for a.form a.handles * (variables_for a.handles + 1)) zero64 l.work
        → ns ≡ cleared (cells_for a.form a.handles) 0 l.counts
        → Leaves (last_rule verdict) (values_of three) 3 l.residuals (one.outcome r x)
        → Leaves (last_rule verdict) (rows_of (variables_for a.handles) three) (3 * variables_for a.handles) l.rows (one.outcome r y)
        → outcome r w ns x y ≡ leaving a fine three l
    unfolding leaving one.answering
    answered p d e f g =
        let first = leaves (after (room_rules a l) numbered-room p f) in
        let second = leaves (after (room_rules a l) numbered-room p g) in
        rw (passes_true (room_rules a l) p) (λ i. outcome (first i).refusal (d i) (e i) (first i).out (second i).out)

-- nothing was read of the curve
pub unread : (a : Asked) (l : Lent) (fine : Bool) (three : List Dv) {r : Verdict} {w : List Float} {ns : List ℕ} → Passed (room_rules a l)
    → fine ≡ false → r ≡ refusal 15
    → w ≡ cleared (cells_for a.form a.handles * (variables_for a.handles + 1)) zero64 l.work
    → ns ≡ cleared (cells_for a.form a.handles) 0 l.counts
    → outcome r w ns l.residuals l.rows ≡ leaving a fine three l
unread a l fine three p v e d f =
    let no : not (fine && all_fine dual three) ≡ true = ap (λ (b : Bool). not (b && all_fine dual three)) v in
    answered a l fine three p d f (stop 14 e no) (stop 14 e no)

-- from the residuals that the code has
pub concluded : (a : Asked) (l : Lent) (fine : Bool) (three three' : List Dv) {r : Verdict} {w x y : List Float} {ns : List ℕ} → Passed (room_rules a l)
    → fine ≡ true → three' ≡ three
    → w ≡ cleared (cells_for a.form a.handles * (variables_for a.handles + 1)) zero64 l.work
    → ns ≡ cleared (cells_for a.form a.handles) 0 l.counts
    → Leaves (last_rule (all_fine dual three')) (values_of three') 3 l.residuals (one.outcome r x)
    → Leaves (last_rule (all_fine dual three')) (rows_of (variables_for a.handles) three') (3 * variables_for a.handles) l.rows (one.outcome r y)
    → outcome r w ns x y ≡ leaving a fine three l
concluded a l fine three three' p v at d e f g = answered a l fine three p d e (rw v (rw at at f)) (rw v (rw at at g))
