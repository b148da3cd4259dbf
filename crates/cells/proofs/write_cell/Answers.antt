-- `cells::write_cell` meets its contract: the value, the partials that there is room for, and +0.0 past them.
use mathlib.Core.Path.{◌≡◌, ap, ◌∙◌}
use mathlib.Core.List.{List}
use Prim.Native.Nat.{ℕ, ◌≤◌, min}
use native.Mathlib.Omega.{arith}
use lib.ListN.{length, get_or}
use lib.Seq.{get_or-take, length-take-le}
use lib.Ieee.{Float, nan}
use Rattle.cells.proofs.Cells.{cell_laid}
use Rattle.cells.proofs.write_cell.Goals as goal

pub returns : goal.returns
returns c =
    let a = c.args in
    let n = c.min-n.result in
    let l = c.copy_from_slice.new.self in
    let k = c.fill.new.self in
    let e = c.min-n.ensures ∙ ap (λ (i : ℕ). min i a.c) c.min.ensures in
    let copied = c.copy_from_slice.ensures.after in
    let room : n ≤ length a.d.g = omega (arith, e) in
    let many : length l ≡ n = ap length copied ∙ length-take-le n a.d.g room in
    cell_laid a.c n a.d e a.t.now l c.requires many (λ j h. ap (λ (q : List Float). get_or q j nan) copied ∙ get_or-take n a.d.g j nan h) k
    (c.fill.ensures.after (λ y q. q))
