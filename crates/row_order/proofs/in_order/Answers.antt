-- `row_order::in_order` meets its contract: each number is its index.
use mathlib.Core.Path.{◌≡◌, sym, ◌∙◌}
use native.Mathlib.Omega.{arith}
use Prim.Native.Nat.{◌<◌}
use lib.ListN.{get_or}
use lib.Seq.{ext_get_or}
use borrow.Author.Rules.{rules}
use Rattle.meaning.specs.Search.{listed}
use Rattle.meaning.proofs.Filling.{length-listed, nth_listed}
use Rattle.row_order.proofs.in_order.Goals as goal

pub returns : goal.returns
returns c =
    let items = c.from_fn.ensures.items in
    ext_get_or 0 c.from_fn.result (listed 0 66 (λ r. r)) (items.long ∙ sym (length-listed 0 66 (λ r. r)))
    (λ i h.
    let low : i < 66 = omega (arith, items.long) in
    let at = items.at i 0 low in
    let own : get_or c.from_fn.result i 0 ≡ i = search rules in
    own ∙ sym (nth_listed 66 i (λ r. r) 0 low))
