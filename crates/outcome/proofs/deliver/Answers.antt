-- `outcome::deliver` meets its contract: there is room, each number is finite, and then they are put.
use mathlib.Core.Path.{◌≡◌, refl, ◌∙◌}
use mathlib.Core.Bool.{false}
use borrow.Author.Tests.{lt-ltb, le-ltb}
use Rattle.meaning.proofs.Searching.{told-some, told_none}
use Rattle.outcome.specs.Outcome.{some_wild}
use Rattle.outcome.proofs.Wild.{tame_long}
use Rattle.outcome.proofs.Doors.{leaves, stop, pass, done, put_all}
use Rattle.outcome.proofs.deliver.Goals as goal

pub returns-then-out-k : goal.returns-then-out-k
returns-then-out-k c = leaves (stop 13 refl (lt-ltb _ _ c.if-out-k.true))

pub returns-then-first_wild-k : goal.returns-then-first_wild-k
returns-then-first_wild-k c =
    leaves (pass 14 (le-ltb _ _ c.if-out-k.false) (stop 14 refl (told-some _ 0 _ c.first_wild.ensures c.if-first_wild-k.true)))

pub returns : goal.returns
returns c =
    let a = c.args in
    let tame : some_wild a.numbers.now a.k ≡ false = told_none _ 0 _ c.first_wild.ensures c.if-first_wild-k.false in
    let put = c.put.ensures ∙ put_all a.numbers.now a.k a.out.now (tame_long a.numbers.now a.k tame) c.if-out-k.false in
    leaves (pass 14 (le-ltb _ _ c.if-out-k.false) (pass 15 tame (done refl put)))
