-- `fit_partials::point` meets its contract.
use mathlib.Core.Path.{sym, ◌∙◌}
use Prim.Native.Nat.{◌+◌, ◌*◌, ◌<◌}
use native.Mathlib.Omega.{arith}
use lib.ListN.{length}
use Rattle.fit_partials.proofs.Variables.{variable_at}
use Rattle.fit_partials.proofs.point.Goals as goal

pub returns : goal.returns
returns c =
    let q = c.args.q.now in
    let k = c.args.k in
    let low : 2 * k < length q = omega (arith, c.requires) in
    (λ i. record { x = (c.var-x.ensures ∙ sym (variable_at q (2 * k) low)) i; y = (c.var-y.ensures ∙ sym (variable_at q (2 * k + 1) c.requires)) i })
