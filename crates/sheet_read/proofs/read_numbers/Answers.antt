-- `sheet_read::read_numbers` meets its contract: each number stands in its place.
use Rattle.std.proofs.Common.{◌∙◌, ap, refl, rules, tests, Bool}
use Rattle.std.specs.Bool.{then_some}
use Rattle.std.proofs.lemmas.Iterator.{YieldsList-from_range}
use Rattle.std.proofs.lemmas.Iterator.Search.{all_from_yields_List}
use native.Mathlib.Nat.{sub-zero}
use Rattle.sheet_read.specs.Number.{double_stands}
use Rattle.sheet_read.specs.Grammar.{byte_after, number_place, numbers_stand}
use Rattle.sheet_read.proofs.Ranges.{every_listed}
use Rattle.sheet_read.proofs.read_numbers.Goals as goal

pub returns : goal.returns
unfolding numbers_stand double_stands
returns c =
    let a = c.args in
    let p = λ (j : _). double_stands a.s.now (byte_after a.per j) (number_place a.start j) in
    c.then_some.ensures
    ∙ ap (λ (b : Bool). then_some b (number_place a.start a.n))
    (all_from_yields_List p _ _ _ c.all.ensures.ran (YieldsList-from_range 0 a.n a.n refl (sub-zero _)) (λ x b q k. search (rules, tests)) ∙ every_listed _ a.n)
