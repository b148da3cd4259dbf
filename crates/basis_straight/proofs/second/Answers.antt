-- `basis_straight::second` meets its contract.
use mathlib.Core.Path.{◌∙◌}
use mathlib.Core.List.{[], ◌∷◌}
use Rattle.basis_straight.specs.Second.{function0, function1, function2, function3}
use Rattle.basis_straight.proofs.Written.{second_are}
use Rattle.basis_straight.proofs.second.Goals as goal

pub returns : goal.returns
returns g c =
    let o = g.S.Scalar.ops in
    let e = c.entries_of-e.ensures in
    let e0 = c.function_0.ensures ∙ (λ i. function0 o (e i)) in
    let e1 = c.function_1.ensures ∙ (λ i. function1 o (e i)) in
    let e2 = c.function_2.ensures ∙ (λ i. function2 o (e i)) in
    let e3 = c.function_3.ensures ∙ (λ i. function3 o (e i)) in
    (λ i. e0 i ∷ e1 i ∷ e2 i ∷ e3 i ∷ []) ∙ second_are o c.args.w.now c.args.t
