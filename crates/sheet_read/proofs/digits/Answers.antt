-- `sheet_read::digits` meets its contract.
use Rattle.std.proofs.Common.{◌∙◌, take, drop, rules, tests, arith}
use Rattle.std.proofs.lemmas.Iterator.{YieldsList-from_slice, YieldsList-from_take}
use Rattle.std.proofs.lemmas.Iterator.Adapters.{YieldsList-from_skip}
use Rattle.std.proofs.lemmas.Iterator.Consumers.{YieldsList-at, count_from_yields_List}
use Rattle.std.proofs.lemmas.Iterator.Search.{YieldsList-from_take_while}
use Rattle.std.proofs.lemmas.List.Folds.{length-prefix_len}
use Rattle.sheet_read.specs.Number.{is_decimal}
use Rattle.sheet_read.proofs.Numerals.{few_digits}
use Rattle.sheet_read.proofs.Words.{digits_counted}
use Rattle.sheet_read.proofs.digits.Goals as goal

pub returns-clause-value : goal.returns-clause-value
returns-clause-value c =
    let a = c.args in
    let rest = YieldsList-from_skip a.at (YieldsList-at c.skip.ensures.source (YieldsList-from_slice a.s.now cc)) cc in
    let four = YieldsList-from_take 4 (YieldsList-at c.take.ensures.source rest) cc in
    count_from_yields_List c.take_while.result _ c.count.ensures.ran
    (YieldsList-from_take_while _ is_decimal (YieldsList-at c.take_while.ensures.source four) c.take_while.ensures.closure c.take_while.ensures.done
    (λ x b q k. search (rules, tests)))
    ∙ length-prefix_len is_decimal (take 4 (drop a.at a.s.now))
    ∙ digits_counted a.s.now a.at

pub returns-clause-few : goal.returns-clause-few
returns-clause-few c = omega (arith, returns-clause-value c, few_digits c.args.s.now c.args.at)
