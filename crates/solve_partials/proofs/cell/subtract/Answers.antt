-- `solve_partials::cell::subtract` meets its contract: three sweeps of the partials, and the value.
use mathlib.Core.Path.{◌≡◌, ap, ◌∙◌}
use mathlib.Core.List.{List}
use Prim.Native.Nat.{ℕ, ◌+◌, ◌-◌, ◌≤◌, max}
use native.Mathlib.Omega.{arith}
use lib.ListN.{length, get_or, take, drop, replicate, length-drop, length-replicate, get_or-replicate}
use lib.Seq.{get_or-take, get_or-drop, length-take-le}
use lib.Ieee.{Float, binary64, nan, sub}
use Rattle.std.proofs.lemmas.List.{length-map, get_or-map}
use Rattle.meaning.specs.Scalar.{zero64}
use Rattle.solve_partials.specs.Held.{numbered}
use Rattle.solve_partials.proofs.Sweeps.{swept_part}
use Rattle.solve_partials.proofs.Products.{subtracted-value}
use Rattle.solve_partials.proofs.cell.subtract.Goals as goal

-- a part that is lent
part_long : (t : List Float) (lo hi : ℕ) → lo ≤ hi → hi ≤ length t → length (take (hi - lo) (drop lo t)) ≡ hi - lo
part_long t lo hi h g = length-take-le (hi - lo) (drop lo t) (omega (arith, length-drop lo t))

pub returns : goal.returns
returns c =
    let a = c.args in
    let t = a.t.now in
    let p = c.max-np.ensures in
    let q = c.max-top.ensures in
    let np = c.max-np.result in
    let top = c.max-top.result in
    let f : Float → Float = λ x. sub binary64 x zero64 in
    let high : top + 1 ≤ length t = omega (arith, c.requires, p, q) in
    let one : a.n + 1 ≤ top + 1 = omega (arith, q) in
    let zeros = c.fill.ensures.after (λ y e. e) ∙ ap (λ (k : ℕ). replicate k zero64) (part_long t (a.n + 1) (top + 1) one high) in
    let first = swept_part (λ j. zero64) nan t c.fill.new.self (a.n + 1) (top + 1) one high (ap length zeros ∙ length-replicate _ zero64)
    (λ j h. ap (λ (l : List Float). get_or l j nan) zeros ∙ get_or-replicate _ j zero64 nan h) in
    let t₂ = c.less_product.new.t in
    let two : np + 1 ≤ top + 1 = omega (arith, q) in
    let high₂ : top + 1 ≤ length t₂ = omega (arith, high, c.less_product.ensures.long, first.long) in
    let rest = take (top + 1 - (np + 1)) (drop (np + 1) t₂) in
    let size = part_long t₂ (np + 1) (top + 1) two high₂ in
    let last = swept_part (λ j. sub binary64 (numbered t₂ j) zero64) nan t₂ c.less_nothing.new.t (np + 1) (top + 1) two high₂
    (ap length c.less_nothing.ensures ∙ length-map rest f ∙ size)
    (λ j h.
    ap (λ (l : List Float). get_or l j nan) c.less_nothing.ensures ∙ get_or-map f rest j nan nan (omega (arith, h, size))
    ∙ ap f (get_or-take (top + 1 - (np + 1)) (drop (np + 1) t₂) j nan h ∙ get_or-drop (np + 1) t₂ j nan)) in (
      q ∙ ap (max a.n) p,
      subtracted-value t a.a.now a.b.now _ _ _ a.n a.na a.nb _ _ p q first c.requires.4 c.requires.5 (omega (arith, c.requires, p, q))
          c.less_product.ensures last (omega (arith, high₂, last.long)),
    )
