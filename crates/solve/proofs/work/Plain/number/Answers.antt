-- `solve::work::Plain::number` meets its contract: the number stands there in its row.
use mathlib.Core.Path.{ap, ◌∙◌}
use Prim.Native.Nat.{ℕ, ◌+◌}
use lib.ListN.{get_or}
use lib.Ieee.{nan}
use Rattle.solve.proofs.By.{read_by}
use Rattle.solve.proofs.work.Plain.number.Goals as goal

pub returns : goal.returns
returns c =
    let a = c.args in
    let s = a.self.now in
    ap (λ (n : ℕ). get_or s.w.now (n + a.k) nan) c.start.ensures.value ∙ read_by s.order.permutes s.w.now s.room a.r c.requires.0 a.k c.requires.1 nan
