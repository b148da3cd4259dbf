-- `solve::work::PlainRows::reduce` meets its contract: the part that is lent is the row, and it comes back reduced.
use mathlib.Core.Path.{◌≡◌, refl, sym, ap, ◌∙◌}
use mathlib.Core.List.{List, []}
use Prim.Native.Nat.{◌+◌, ◌-◌}
use native.Mathlib.Omega.{arith}
use lib.ListN.{length, get_or, set, take, drop}
use lib.Seq.{get_or-set_other}
use lib.Ieee.{Float}
use Rattle.meaning.specs.Scalar.{plain}
use Rattle.solve.specs.Placed.{rows_by}
use Rattle.solve.specs.Elimination.{reduced}
use Rattle.solve.specs.Verdicts.{reduced_ok}
use Rattle.solve.proofs.By.{by_long, by_each, lent_by, back_by, back-past}
use Rattle.solve.proofs.work.PlainRows.reduce.Goals as goal
use Rattle.solve.proofs.work.PlainRows.reduce.Goals.{then-col-m-via-then-col-m, then-col-m-via-else-col-m+then-r-m}

pub returns-then-col-m : goal.returns-then-col-m
returns-then-col-m c =
    let a = c.args in
    let s = a.self.now in
    let long = by_long s.order.rows s.order.places s.w.now in
    record {
      rows = λ k b h. absurd (elim c.then-col-m.branch [
        | then-col-m-via-then-col-m w ↦ omega (arith, w.if-col-m.true, b, h, long)
        | then-col-m-via-else-col-m+then-r-m w ↦ omega (arith, w.if-r-m.true, h, long)
      ]);
      kept = λ k b h. k;
      same = (refl, refl, (refl, refl));
    }

pub returns : goal.returns
returns c =
    let a = c.args in
    let s = a.self.now in
    let m = s.order.rows in
    let M = rows_by m s.order.places s.w.now in
    let long : length M ≡ m = by_long m s.order.places s.w.now in
    let p = c.start-a.result in
    let at = c.start-a.ensures.value in
    let row : take (p + (m + 2) - p) (drop p s.w.now) ≡ get_or M a.r [] = lent_by s.order.permutes s.w.now s.room a.r c.if-r-m.false p at in
    let y = c.reduce_row.new.t in
    let len : length y ≡ m + 2 = c.reduce_row.auto.t ∙ ap length row ∙ (by_each s.order.permutes s.w.now s.room).each a.r c.if-r-m.false in
    let back = back_by s.order.permutes s.w.now s.room a.r c.if-r-m.false p at y len in
    record {
      rows = λ k b h. (
        back ∙ ap (set M a.r) (c.reduce_row.ensures.0 ∙ (λ i. reduced plain (sym long i) a.col (k i) (row i))),
        c.reduce_row.ensures.1 ∙ (λ i. reduced_ok plain (sym long i) a.col (k i) (row i)),
      );
      kept = λ k b h.
          let apart : a.col ≡ a.r → ⊥ = λ q. omega arith in
          k ∙ sym (ap (λ (N : List (List Float)). get_or N a.col []) back ∙ get_or-set_other M a.r a.col y [] apart);
      same = (by_long m s.order.places _ ∙ sym long, refl, (refl, back-past s.order.permutes s.w.now s.room a.r c.if-r-m.false p at y len));
    }
