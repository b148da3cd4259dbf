-- `sheet_read::has_hex` meets its contract: each byte passed is a digit.
use Rattle.std.proofs.Common.{◌≡◌, ◌∙◌, ◌+◌, refl, rules, tests}
use Rattle.std.proofs.lemmas.Iterator.{YieldsList-from_range}
use Rattle.std.proofs.lemmas.Iterator.Search.{all_from_yields_List}
use native.Mathlib.Nat.{sub-zero}
use Rattle.meaning.specs.Search.{every}
use Rattle.sheet_read.specs.Text.{byte_at}
use Rattle.sheet_read.specs.Number.{is_hex}
use Rattle.sheet_read.proofs.Ranges.{every_listed}
use Rattle.sheet_read.proofs.has_hex.Goals as goal
use Rattle.sheet_read.proofs.has_hex.Goals.{After-all}

tested : (c : After-all) → c.all.result ≡ every c.args.n (λ i. is_hex (byte_at c.args.s.now (c.args.at + i)))
tested c =
    let a = c.args in
    all_from_yields_List (λ i. is_hex (byte_at a.s.now (a.at + i))) _ _ _ c.all.ensures.ran (YieldsList-from_range 0 a.n a.n refl (sub-zero _))
    (λ x b q k. search (rules, tests))
    ∙ every_listed _ a.n

pub returns-then-all : goal.returns-then-all
returns-then-all c = rw (← tested (goal.at.returns-then-all c).After-all, c.if-all.true, c.byte.ensures)

pub returns-else-all : goal.returns-else-all
returns-else-all c = rw (← tested (goal.at.returns-else-all c).After-all, c.if-all.false)
