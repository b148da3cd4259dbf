-- `solve_partials::work::Cells::subtract_at` meets its contract: the part that is lent is the cell, and it comes back less the product.
use Prim.Native.Nat.{◌+◌, ◌-◌, ◌*◌, ◌≤◌}
use mathlib.Core.Path.{sym, ap, ◌∙◌}
use native.Mathlib.Omega.{arith}
use lib.ListN.{set, take, drop}
use Rattle.partials.specs.declared.Dv.{Dv}
use Rattle.partials.specs.Dual.{sub_dv, mul_dv, fine_dv}
use Rattle.solve_partials.specs.Held.{held, numbered, valued}
use Rattle.solve_partials.proofs.Products.{fine-value}
use Rattle.solve_partials.proofs.Cells.{lent-long, lent_cell, back_cell}
use Rattle.solve_partials.proofs.work.Cells.subtract_at.Goals as goal

pub subtract-n-requires : goal.subtract-n-requires
subtract-n-requires c =
    let s = c.args.self.now in
    let l = lent-long s.room c.args.k c.requires.0 in
    let n = c.count-old.ensures in
    (omega (arith, l, n), omega (arith, l, c.requires.1), omega (arith, l, c.requires.2), omega (arith, l, s.room.narrow), c.requires.3, c.requires.4)

pub returns-clause-cell : goal.returns-clause-cell
returns-clause-cell c =
    let call = c.subtract-n in
    let a = c.args in
    let s = a.self.now in
    let H = held s.c s.w.now s.ns.now in
    let v : Dv → Dv = λ x. sub_dv x (mul_dv (valued a.a.now a.na) (valued a.b.now a.nb)) in
    let i = a.k * (s.c + 1) in
    let t = call.new.t in
    let n = call.result in
    let old = ap (valued (take (i + (s.c + 1) - i) (drop i s.w.now))) c.count-old.ensures ∙ lent_cell s.room a.k c.requires.0 in
    let value = call.ensures.1 ∙ ap v old in
    let few : n ≤ s.c = omega (arith, call.ensures.0, c.count-old.ensures, c.requires.1, c.requires.2) in (
      back_cell s.room a.k c.requires.0 t n (call.auto.t ∙ lent-long s.room a.k c.requires.0) few ∙ ap (set H a.k) value,
      c.all_finite-fine.ensures ∙ sym (fine-value (numbered t) n (omega (arith, few, s.room.narrow))) ∙ ap fine_dv value,
    )
