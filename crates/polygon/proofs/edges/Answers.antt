-- `polygon::edges` meets its contract: a turn adds the distance of two neighbours.
use mathlib.Core.Path.{◌∙◌, ap}
use Prim.Native.Nat.{ℕ, ◌-◌, ◌*◌, ◌≤◌, ◌<◌}
use native.Mathlib.Nat.{mul-le-mul_left}
use native.Mathlib.Omega.{arith}
use Rattle.meaning.specs.Scalar.{plain}
use Rattle.meaning.proofs.For.{first, next, last}
use Rattle.plane.specs.Vector.{sub_v, norm_v}
use Rattle.polygon.specs.Polygon.{length_by}
use borrow.Author.Rules.{rules}
use Rattle.polygon.proofs.edges.Goals as goal

pub loop-i-init : goal.loop-i-init
loop-i-init c = first (search rules)

-- no corner stands past the last
reach : (step i n : ℕ) → i < n → step * i ≤ step * (n - 1)
reach step i n h = mul-le-mul_left step (omega arith)

pub overflow_mul-step : goal.overflow_mul-step
overflow_mul-step c = let a = c.args in omega (arith, reach a.step c.loop-i.i a.n c.loop-i-test.true)

pub corner-a-requires : goal.corner-a-requires
corner-a-requires c =
    let a = c.args in
    let r = reach a.step c.loop-i.i a.n c.loop-i-test.true in
    (omega arith, omega arith)

pub overflow_sub-i : goal.overflow_sub-i
overflow_sub-i c = omega (arith, c.loop-i.invariant.low)

pub overflow_mul-step-in-loop-i : goal.overflow_mul-step-in-loop-i
overflow_mul-step-in-loop-i c = let a = c.args in omega (arith, reach a.step (c.loop-i.i - 1) a.n (omega (arith, c.loop-i-test.true)))

pub corner-b-requires : goal.corner-b-requires
corner-b-requires c =
    let a = c.args in
    let r = reach a.step (c.loop-i.i - 1) a.n (omega (arith, c.loop-i-test.true)) in
    (omega arith, omega arith)

pub loop-i-preserved : goal.loop-i-preserved
loop-i-preserved c =
    let l = c.loop-i in
    next l.invariant (search rules)
    (ap (plain.plus l.s) (c.norm-s.ensures ∙ ap (norm_v plain) (c.sub.ensures ∙ λ i. sub_v plain (c.corner-a.ensures i) (c.corner-b.ensures i))))

pub returns : goal.returns
unfolding length_by
returns c = last c.loop-i.invariant (search rules)
