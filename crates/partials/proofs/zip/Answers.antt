-- `partials::zip` meets its contract.
use borrow.Author.Rules.{rules}
use Rattle.partials.specs.Dual.{part_of, zip_dv}
use Rattle.partials.proofs.zip.Goals as goal

pub returns : goal.returns
unfolding zip_dv
returns g c h p =
    let a = c.args in
    rw (
      c.partials.ensures (λ k. h (part_of a.a.now k) (part_of a.b.now k)) (λ k x e. search (rules, p)),
      c.max-n.ensures,
      c.count.ensures.0,
      c.count-2.ensures.0,
    )
