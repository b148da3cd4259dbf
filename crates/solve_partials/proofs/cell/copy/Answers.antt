-- `solve_partials::cell::copy` meets its contract: the value and its partials stand at the front, and +0.0 past them.
use Prim.Native.Nat.{ℕ, ◌+◌, ◌-◌}
use mathlib.Core.Path.{◌≡◌, sym, ap, ◌∙◌}
use mathlib.Core.List.{List, ◌++◌}
use native.Mathlib.Omega.{arith}
use lib.ListN.{length, get_or, take, drop, replicate, length-append, length-drop, length-replicate, get_or-replicate, get_or-append}
use lib.Seq.{get_or-take, get_or-drop, get_or-append-add, length-take-le}
use lib.Ieee.{Float, nan}
use Rattle.meaning.specs.Scalar.{zero64}
use Rattle.cells.proofs.Values.{value_same}
use Rattle.solve_partials.proofs.cell.copy.Goals as goal

pub returns : goal.returns
returns c =
    let a = c.args in
    let t = a.t.now in
    let m = a.n + 1 in
    let y = c.copy_from_slice.new.self in
    let z = replicate 28 zero64 in
    let copied : y ≡ take m t = c.copy_from_slice.ensures.after in
    let long : length y ≡ m = ap length copied ∙ length-take-le m t (omega (arith, c.requires)) in (
      length-append y (drop m z) ∙ omega (arith, long, length-drop m z, length-replicate 28 zero64, c.requires),
      λ j g h.
          let at : length y + (j - m) ≡ j = omega (arith, long, g) in
          ap (λ (k : ℕ). get_or (y ++ drop m z) k nan) (sym at) ∙ get_or-append-add y (drop m z) (j - m) nan ∙ get_or-drop m z (j - m) nan
          ∙ get_or-replicate 28 (m + (j - m)) zero64 nan (omega (arith, g, h)),
      value_same a.n _ _ (λ j h.
          get_or-append y (drop m z) nan j (omega (arith, long, h)) ∙ ap (λ (l : List Float). get_or l j nan) copied
          ∙ get_or-take m t j nan (omega (arith, h))),
    )
