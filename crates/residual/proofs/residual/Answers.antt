-- `residual::residual` meets its contract.
use mathlib.Core.Path.{◌≡◌, refl, sym, ap, ◌∙◌}
use mathlib.Core.List.{List}
use Prim.Native.Nat.{ℕ, ◌+◌, ◌*◌, ◌≤◌}
use native.Mathlib.Omega.{arith}
use lib.ListN.{length}
use Rattle.partials.specs.declared.Dv.{Dv}
use Rattle.refusal.specs.Refusals.{Verdict}
use Rattle.refusal.proofs.Rows.{Passed, number_of, handed_on, err_number, ok_number}
use Rattle.shape.specs.Shape.{Shape}
use Rattle.shape.specs.Rules.{handle_rules}
use Rattle.knots.specs.Given.{given, given_list}
use Rattle.residual.specs.Residual.{Asked, asked, Lent, lent, outcome, cells_for, asked_rules, lacks_of, lacks_room}
use Rattle.residual.specs.Curve.{shape_of, stored_fine, residuals_on}
use Rattle.residual.proofs.Rules.{passed_handles, all_long}
use Rattle.residual.proofs.Answers.{room_passed, refused_early, refused_short, unread, concluded}
use Rattle.residual.proofs.residual.Goals as goal
use Rattle.residual.proofs.residual.Goals.{After-lacks, Else-lacks, In_ok-check, Start}

abbrev question : Start → Asked
question s = let a = s.args in asked a.form a.handles.now (given a.knots) (given_list (λ k. k.now) a.knots) a.px a.py a.t

abbrev slices : Start → Lent
slices s = let a = s.args in lent a.work.now a.counts.now a.residuals.now a.rows.now

-- the curve and its residuals, by the definition
abbrev shape_for : Asked → Shape Dv
shape_for q = shape_of q.form q.handles q.given q.knots

abbrev three_for : Asked → List Dv
three_for q = residuals_on (shape_for q) q.handles q.px q.py q.t

-- past the rules 1 to 12
passed : (c : In_ok-check) → let a = c.args in
    Passed (asked_rules (asked a.form a.handles.now (given a.knots) (given_list (λ k. k.now) a.knots) a.px a.py a.t))
passed c = number_of (sym c.check.ensures) ∙ ok_number c.in_ok-check.was

facts : (c : In_ok-check) → let a = c.args in
    (length a.handles.now ≤ 24) × Passed (handle_rules a.form a.handles.now (given a.knots) (given_list (λ k. k.now) a.knots))
facts c =
    let a = c.args in
    passed_handles a.form a.handles.now (given a.knots) (given_list (λ k. k.now) a.knots) a.px a.py a.t (passed c)

-- whether a slice is short
told : (c : After-lacks) → let a = c.args in
    c.lacks.result ≡ lacks_room a.form a.handles.now (lent a.work.now a.counts.now a.residuals.now a.rows.now)
told c =
    let a = c.args in
    c.lacks.ensures
    ∙ ap
    (λ (n : ℕ). lacks_of n (length a.handles.now + 3) (length a.work.now) (length a.counts.now) (length a.residuals.now) (length a.rows.now))
    c.cells-size.ensures.fact_1

room : (c : Else-lacks) → let a = c.args in
    c.lacks.result ≡ lacks_room a.form a.handles.now (lent a.work.now a.counts.now a.residuals.now a.rows.now)
    → (cells_for a.form a.handles.now * (length a.handles.now + 3 + 1) ≤ length a.work.now)
    × (cells_for a.form a.handles.now ≤ length a.counts.now)
    × (3 ≤ length a.residuals.now) × (3 * (length a.handles.now + 3) ≤ length a.rows.now)
room c known =
    let a = c.args in
    all_long (cells_for a.form a.handles.now) (length a.handles.now + 3) (length a.work.now) (length a.counts.now)
    (length a.residuals.now) (length a.rows.now) (sym known ∙ c.if-lacks.false)

pub returns-in_err-check : goal.returns-in_err-check
returns-in_err-check c =
    let was = c.in_err-check.was in
    let at = goal.at.returns-in_err-check c in
    let q = question at.Start in
    let l = slices at.Start in
    ap (λ (v : Verdict). outcome v l.work l.counts l.residuals l.rows) (handed_on was _ c.from_residual.ensures)
    ∙ refused_early q l (stored_fine q.form q.handles) (three_for q) c.check.ensures (err_number was)

pub cells-size-requires : goal.cells-size-requires
cells-size-requires c = omega (arith, (facts c).0)

pub lacks-requires : goal.lacks-requires
lacks-requires c = (c.cells-size.ensures.fact_2, omega (arith, (facts (goal.at.lacks-requires c).In_ok-check).0))

pub returns-then-lacks : goal.returns-then-lacks
returns-then-lacks c =
    let at = goal.at.returns-then-lacks c in
    let q = question at.Start in
    refused_short q (slices at.Start) (stored_fine q.form q.handles) (three_for q) (passed at.In_ok-check)
    (sym (told at.After-lacks) ∙ c.if-lacks.true) refl

pub read_curve-requires : goal.read_curve-requires
read_curve-requires c =
    let f = facts (goal.at.read_curve-requires c).In_ok-check in
    let r = room (goal.at.read_curve-requires c).Else-lacks (told (goal.at.read_curve-requires c).After-lacks) in
    record { rules = f.1; few = omega (arith, f.0); wide = omega arith; narrow = omega (arith, f.0); bytes = r.1; doubles = r.0 }

pub residuals_of-three-requires : goal.residuals_of-three-requires
residuals_of-three-requires c = omega (arith, (facts (goal.at.residuals_of-three-requires c).In_ok-check).0)

pub answer-requires : goal.answer-requires
answer-requires c =
    let r = room (goal.at.answer-requires c).Else-lacks (told (goal.at.answer-requires c).After-lacks) in
    (omega (arith, (facts (goal.at.answer-requires c).In_ok-check).0), r.2, r.3)

pub returns-in_default : goal.returns-in_default
returns-in_default c =
    let a = c.args in
    let at = goal.at.returns-in_default c in
    let q = question at.Start in
    unread q (slices at.Start) (stored_fine a.form q.handles) (three_for q)
    (room_passed q (slices at.Start) (passed at.In_ok-check) (sym (told at.After-lacks) ∙ c.if-lacks.false))
    c.in_default.ensures.answer refl c.read_curve.ensures.doubles c.read_curve.ensures.counts

pub returns : goal.returns
returns c =
    let a = c.args in
    let at = goal.at.returns c in
    let q = question at.Start in
    let j = c.in-Some.ensures.answer in
    concluded q (slices at.Start) (stored_fine a.form q.handles) (three_for q) c.residuals_of-three.result
    (room_passed q (slices at.Start) (passed at.In_ok-check) (sym (told at.After-lacks) ∙ c.if-lacks.false)) j.0
    (c.residuals_of-three.ensures (shape_for q) q.handles refl j.1) c.read_curve.ensures.doubles c.read_curve.ensures.counts
    c.answer.ensures.leaves c.answer.ensures.leaves_2
