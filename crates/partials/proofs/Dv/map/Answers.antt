-- `partials::Dv::map` meets its contract: below their number the partials are what stands in the room.
use mathlib.Core.Path.{refl, ◌∙◌}
use native.Mathlib.Omega.{arith}
use Prim.Native.Nat.{◌<◌}
use borrow.Author.Rules.{rules}
use borrow.Author.Tests.{lt-ltb}
use lib.Ieee.{binary64, mul}
use Rattle.partials.specs.Dual.{count_of, part_at, part_of, map_dv}
use Rattle.partials.proofs.Laid.{partials_same}
use Rattle.partials.proofs.Dv.map.Goals as goal

pub returns : goal.returns
unfolding map_dv
returns c =
    let a = c.args in
    let n = c.count-n in
    let made =
    c.partials.ensures (λ k. mul binary64 (part_at a.self.g 27 k) a.f) (λ k x e. search rules)
    ∙ partials_same n.result _ (λ k. mul binary64 (part_of a.self k) a.f)
    (λ j b.
    let low : j < 27 = omega (arith, n.ensures.1) in
    let counted : j < count_of a.self = rw n.ensures.0 at b in
    rw (lt-ltb j 27 low, lt-ltb j (count_of a.self) counted) refl) in
    rw (made, n.ensures.0)
