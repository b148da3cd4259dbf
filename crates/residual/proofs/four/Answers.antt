-- `residual::four` meets its contract.
use mathlib.Core.Path.{sym, ◌∙◌}
use mathlib.Core.List.{[], ◌∷◌}
use Prim.Native.Nat.{◌+◌}
use native.Mathlib.Omega.{arith}
use Rattle.fit_partials.proofs.Variables.{variable_at}
use Rattle.residual.proofs.four.Goals as goal

pub returns : goal.returns
returns c =
    let q = c.args.q.now in
    let at = c.args.at in
    let e1 = c.var.ensures ∙ sym (variable_at q at (omega (arith, c.requires))) in
    let e2 = c.var-2.ensures ∙ sym (variable_at q (at + 2) (omega (arith, c.requires))) in
    let e3 = c.var-3.ensures ∙ sym (variable_at q (at + 4) (omega (arith, c.requires))) in
    let e4 = c.var-4.ensures ∙ sym (variable_at q (at + 6) (omega (arith, c.requires))) in
    λ i. e1 i ∷ e2 i ∷ e3 i ∷ e4 i ∷ []
