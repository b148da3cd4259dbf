-- `sheet_read::read_count` meets its contract: the tests are those of `count_stands`, in its order.
use Rattle.std.proofs.Common.{sym, ◌∙◌}
use borrow.Author.Tests.{eq-eqb, ne_eqb}
use Rattle.sheet_read.proofs.Numerals.{no_count, led_by_zero, too_many_lem, line_ends}
use Rattle.sheet_read.proofs.read_count.Goals as goal
use Rattle.sheet_read.proofs.read_count.Goals.{else-d-ge1-via-then-d-ge1+then-leads_well+then-count-most+else-byte-eq10}
use Rattle.sheet_read.proofs.read_count.Goals.{else-d-ge1-via-then-d-ge1+then-leads_well+else-count-most}
use Rattle.sheet_read.proofs.read_count.Goals.{else-d-ge1-via-then-d-ge1+else-leads_well, else-d-ge1-via-else-d-ge1}

pub returns-then-byte-eq10 : goal.returns-then-byte-eq10
returns-then-byte-eq10 c =
    let e = c.digits-d.ensures.value in
    let ends = line_ends _ c.args.most _ e c.if-d-ge1.true c.leads_well.ensures c.if-leads_well.true c.number-count.ensures c.if-count-most.true in
    rw (sym ends ∙ eq-eqb _ _ (sym c.byte.ensures ∙ c.if-byte-eq10.true), c.number-count.ensures, e)

pub returns-else-d-ge1 : goal.returns-else-d-ge1
returns-else-d-ge1 c =
    let e = c.digits-d.ensures.value in
    elim c.else-d-ge1.branch [
      | else-d-ge1-via-then-d-ge1+then-leads_well+then-count-most+else-byte-eq10 w ↦
          let ends = line_ends _ c.args.most _ e w.if-d-ge1.true w.leads_well.ensures w.if-leads_well.true c.number-count.ensures w.if-count-most.true in
          rw (sym ends ∙ ne_eqb _ _ (λ q. w.if-byte-eq10.false (w.byte.ensures ∙ q)))
      | else-d-ge1-via-then-d-ge1+then-leads_well+else-count-most w ↦
          rw (← too_many_lem _ c.args.most _ e w.if-d-ge1.true w.leads_well.ensures w.if-leads_well.true c.number-count.ensures w.if-count-most.false)
      | else-d-ge1-via-then-d-ge1+else-leads_well w ↦ rw (← led_by_zero _ c.args.most _ e w.if-d-ge1.true w.leads_well.ensures w.if-leads_well.false)
      | else-d-ge1-via-else-d-ge1 w ↦ rw (← no_count _ c.args.most _ e w.if-d-ge1.false)
    ]
