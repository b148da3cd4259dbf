-- `fit::System::fill` meets its contract: the rows below r are the system's, and the verdict is theirs.
use Rattle.std.proofs.Common.{◌≡◌, ◌∙◌, refl, sym, arith, ◌+◌, length}
use Rattle.meaning.proofs.Every.{every-none, every_next}
use Rattle.fit.proofs.Rows.{none_written, one_more, all_written, found-row_at, found_shaped, found-verdict}
use Rattle.fit.proofs.System.fill.Goals as goal

pub loop-r-init : goal.loop-r-init
loop-r-init c = (λ M rest e sh. none_written (found_shaped _ _ _ _) sh e, every-none _, refl)

pub loop-r-preserved : goal.loop-r-preserved
loop-r-preserved c =
    let l = c.loop-r in
    let t = c.loop-r-test.true in
    let call = c.set_at-fine in (
      λ M rest e sh.
          let old = l.invariant.0 M rest e sh in
          one_more (found_shaped _ _ _ _) sh old t (sym (found-row_at _ _ _ _ l.r t)) (call.ensures.held _ rest old.rows old.shape),
      every_next _ l.r l.invariant.1 call.ensures.judged refl,
      omega (arith, call.auto),
    )

pub returns : goal.returns
returns c =
    let l = c.loop-r in
    let n = length c.args.self.now.p.now in
    let e : l.r ≡ n + 2 = omega arith in
    record {
      held = λ M rest q sh. all_written (found_shaped _ _ _ _) sh (l.invariant.0 M rest q sh) (omega arith);
      judged = rw e at l.invariant.1 ∙ found-verdict _ _ _ n;
    }
