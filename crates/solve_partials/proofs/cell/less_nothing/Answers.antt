-- `solve_partials::cell::less_nothing` meets its contract: from the numbers passed +0.0 is taken off.
use mathlib.Core.Path.{refl, sym, ap, ◌∙◌}
use mathlib.Core.List.{map}
use Prim.Native.Nat.{◌<◌}
use native.Mathlib.Omega.{arith}
use lib.ListN.{length}
use lib.Seq.{ext_get_or}
use lib.Ieee.{Float, binary64, nan, sub}
use Rattle.meaning.specs.Scalar.{zero64}
use Rattle.std.proofs.lemmas.List.{length-map, get_or-map}
use Rattle.solve_partials.proofs.Sweeps.{start, next}
use Rattle.solve_partials.proofs.cell.less_nothing.Goals as goal

pub loop-x-init : goal.loop-x-init
loop-x-init c = (start c.args.t.now, refl)

pub loop-x-preserved : goal.loop-x-preserved
loop-x-preserved c =
    let l = c.loop-x in
    let i = l.invariant in
    (next l.x-index _ i.0 (omega arith) (omega (arith, c.loop-x-test.true)) (ap (λ (x : Float). sub binary64 x zero64) (i.0.past l.x-index (omega arith))), i.1)

pub returns : goal.returns
returns c =
    let l = c.loop-x in
    let i = l.invariant in
    let t = c.args.t.now in
    let f : Float → Float = λ x. sub binary64 x zero64 in
    ext_get_or nan l.x-items (map f t) (i.0.long ∙ sym (length-map t f))
    (λ j h.
    let low : j < length t = omega (arith, i.0.long) in
    i.0.done j (omega arith) (omega (arith, low, c.loop-x-test.false)) ∙ sym (get_or-map f t j nan nan low))
