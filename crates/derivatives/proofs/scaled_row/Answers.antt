-- `derivatives::scaled_row` meets its contract: the loop multiplies one number in each turn.
use Rattle.std.proofs.Common.{refl, sym, ap, ◌∙◌, ◌≤◌, length, set, append-nil, arith}
use Rattle.std.proofs.lemmas.List.{take_all, drop_all}
use Rattle.std.proofs.lemmas.List.Edits.{map_over_more}
use Rattle.derivatives.proofs.scaled_row.Goals as goal

pub loop-x-init : goal.loop-x-init
loop-x-init g c = refl

pub loop-x-preserved : goal.loop-x-preserved
loop-x-preserved g c =
    let by = c.args.by in
    let times = g.S.Scalar.ops.times in
    let l = c.loop-x in
    let made = c.times.ensures ∙ ap (λ x. times x by) (sym c.x-item.is) in
    ap (set l.row l.x-index) made ∙ map_over_more (λ x. times x by) c.args.row.now l.row l.x-index c.x-item.result (omega arith) l.invariant c.x-item.is

pub returns-clause-value : goal.returns-clause-value
returns-clause-value g c =
    let n = c.told-row in
    let whole : length c.args.row.now ≤ c.loop-x.x-index = omega arith in
    c.loop-x.invariant ∙ rw (take_all _ _ whole, drop_all _ _ whole) (append-nil _)
