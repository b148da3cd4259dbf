-- `cells::read_cell` meets its contract: the partials are copied.
use mathlib.Core.Path.{◌≡◌, ap, ◌∙◌}
use mathlib.Core.List.{List}
use Prim.Native.Nat.{ℕ, suc, ◌+◌, ◌-◌, ◌<◌}
use native.Mathlib.Omega.{arith}
use lib.ListN.{length, get_or, take, drop, length-drop}
use lib.Seq.{get_or-take, get_or-drop, length-take-le}
use lib.Ieee.{Float, nan}
use Rattle.cells.specs.Cell.{value_of}
use Rattle.partials.proofs.Laid.{partials_laid}
use Rattle.cells.proofs.read_cell.Goals as goal

pub returns : goal.returns
unfolding value_of
returns c =
    let a = c.args in
    let t = a.t.now in
    let one : a.n + 1 - 1 ≡ a.n = omega arith in
    let copied : c.copy_from_slice.new.self ≡ take a.n (drop 1 t) = c.copy_from_slice.ensures.after ∙ ap (λ (n : ℕ). take n (drop 1 t)) one in
    let each : (j : ℕ) → j < a.n → get_or c.copy_from_slice.new.self j nan ≡ get_or t (suc j) nan =
    λ j h.
    let next : 1 + j ≡ suc j = omega arith in
    ap (λ (l : List Float). get_or l j nan) copied ∙ get_or-take a.n (drop 1 t) j nan h ∙ get_or-drop 1 t j nan ∙ ap (λ (i : ℕ). get_or t i nan) next in
    let many : length c.copy_from_slice.new.self ≡ a.n = ap length copied ∙ length-take-le a.n (drop 1 t) (omega (arith, length-drop 1 t, c.requires.0)) in
    ap (λ (g : List Float). record { v = get_or t 0 nan; g = g; n = a.n })
    (partials_laid a.n (λ j. get_or t (suc j) nan) c.copy_from_slice.new.self c.requires.1 many each)
