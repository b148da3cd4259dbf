-- `fit_partials::System::fill` meets its contract: the rows below r are the system's, and the verdict is theirs.
use Rattle.std.proofs.Common.{◌≡◌, refl, ◌∙◌, ◌+◌, ◌*◌, arith, length}
use Rattle.meaning.proofs.Every.{every-none, every_next}
use Rattle.solve.proofs.Lists.{row_le}
use Rattle.fit_partials.proofs.Laid.{room_part, laid_start, laid-row}
use Rattle.fit_partials.proofs.Rows.{found_shaped, found-verdict, row-found}
use Rattle.fit_partials.proofs.System.fill.Goals as goal

pub loop-r-init : goal.loop-r-init
loop-r-init c = (laid_start _ _ _ _ _, every-none _)

pub set-fine-requires : goal.set-fine-requires
set-fine-requires c =
    let l = c.loop-r in
    let a = c.args in
    let n = length a.self.now.p.now in
    let t = c.loop-r-test.true in
    let s4 = n + 2 + 2 in
    let done = l.invariant.0 in record {
      fact_1 = (t, room_part a.c 0 ((n + 2) * s4) (l.r * s4) s4 c.requires.fact_1 (omega (arith, row_le l.r (n + 2) s4 t)) done.doubles done.bytes);
      fact_2 = c.requires.fact_2;
    }

pub loop-r-preserved : goal.loop-r-preserved
loop-r-preserved c =
    let l = c.loop-r in
    let a = c.args in
    let s = a.self.now in
    let n = length s.p.now in
    let t = c.loop-r-test.true in
    let row = row-found a.c n l.r s.k.now s.u.now s.p.now s.q.now t c.set-fine.ensures in (
      laid-row a.c (n + 2) (n + 2 + 2) l.r _ (found_shaped _ _ _ _ _) t l.invariant.0 row.0,
      every_next _ l.r l.invariant.1 row.1 refl,
    )

pub returns : goal.returns
returns c =
    let l = c.loop-r in
    let n = length c.args.self.now.p.now in
    let e : l.r ≡ n + 2 = omega arith in record {
      fact_1 = rw e at l.invariant.0;
      fact_2 = rw e at l.invariant.1 ∙ found-verdict _ _ _ _ n;
    }
