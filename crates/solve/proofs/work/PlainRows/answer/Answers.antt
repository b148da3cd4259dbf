-- `solve::work::PlainRows::answer` meets its contract: each answer is worked out from the rows as they were, and then both are stored.
use mathlib.Core.Path.{◌≡◌, refl, sym, ap, subst, ◌∙◌}
use mathlib.Core.Bool.{◌&&◌}
use mathlib.Core.List.{[]}
use Prim.Native.Nat.{ℕ, ◌+◌, ◌-◌, ◌<◌}
use native.Mathlib.Omega.{arith}
use lib.ListN.{length, get_or, set}
use lib.Ieee.Scale.{finite}
use Rattle.meaning.specs.Scalar.{plain, one64}
use Rattle.solve.specs.Left.{Becomes}
use Rattle.solve.specs.Placed.{rows_by}
use Rattle.solve.specs.Substitution.{answered, answered_up}
use Rattle.solve.specs.Verdicts.{answered_ok, answered_up_ok}
use Rattle.solve.proofs.Answers.{answer-up}
use Rattle.solve.proofs.By.{by_long, write_by, write-past}
use Rattle.solve.proofs.work.PlainRows.answer.Goals as goal

pub returns-then-i-m : goal.returns-then-i-m
returns-then-i-m c =
    let s = c.args.self.now in
    record {
      rows = λ h. absurd (omega (arith, h, c.if-i-m.true, by_long s.order.rows s.order.places s.w.now));
      same = (refl, refl, (refl, refl));
    }

pub returns : goal.returns
unfolding answered answered_ok
returns c =
    let a = c.args in
    let s = a.self.now in
    let m = s.order.rows in
    let M = rows_by m s.order.places s.w.now in
    let long : length M ≡ m = by_long m s.order.places s.w.now in
    let low : a.i < m = c.if-i-m.false in
    let r = m - 1 - a.i in
    let in' : r < m = omega (arith, low) in
    let p = c.start-a.result in
    let at = c.start-a.ensures.value in
    let X = plain.times c.remaining.result (plain.over (plain.cst one64) c.number-inv.result) in
    let Y = plain.times c.remaining-2.result (plain.over (plain.cst one64) c.number-inv.result) in
    let W = set (set s.w.now (p + m) X) (p + (m + 1)) Y in
    let x = answer-up plain m M a.i m low c.remaining.ensures c.number-inv.ensures in
    let y = answer-up plain m M a.i (m + 1) low c.remaining-2.ensures c.number-inv.ensures in
    record {
      rows = λ h. subst (λ (n : ℕ). Becomes (answered_up plain n a.i) (answered_up_ok plain n a.i) M (rows_by m s.order.places W) c.both.result) (sym long) (
        write_by s.order.permutes s.w.now s.room r in' p at m (m + 1) X Y (omega arith) (omega arith)
            ∙ (λ t. set M r (set (set (get_or M r []) m (x t)) (m + 1) (y t))),
        c.both.ensures ∙ (λ t. (c.is_finite.ensures ∙ ap finite x) t && (c.is_finite-2.ensures ∙ ap finite y) t),
      );
      same = (
        by_long m s.order.places W ∙ sym long,
        refl,
        (refl, write-past s.order.permutes s.w.now s.room r in' p at m (m + 1) X Y (omega arith) (omega arith)),
      );
    }
