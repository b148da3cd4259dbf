-- `solve_partials::cell::less_product` meets its contract: from the partials below j those of the product are taken off.
use mathlib.Core.Path.{refl}
use native.Mathlib.Omega.{arith}
use Rattle.solve_partials.proofs.Sweeps.{start, next, over}
use borrow.Author.Rules.{rules}
use Rattle.solve_partials.proofs.cell.less_product.Goals as goal

pub loop-j-init : goal.loop-j-init
loop-j-init c = (start c.args.t.now, refl, refl, omega arith, omega arith, refl)

pub loop-j-preserved : goal.loop-j-preserved
loop-j-preserved c =
    let l = c.loop-j in (
      next l.j _ l.invariant.0 l.invariant.3 (omega (arith, c.requires, c.loop-j-test.true))
          (rw (l.invariant.0.past l.j (omega arith))),
      refl,
      refl,
      omega arith,
      omega arith,
      search rules,
    )

pub returns : goal.returns
returns c =
    over c.loop-j.j c.args.end c.loop-j.invariant.0 (omega arith)
