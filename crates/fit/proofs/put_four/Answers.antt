-- `fit::put_four` meets its contract: a copy is made number by number.
use Rattle.std.proofs.Common.{◌≡◌, ◌∙◌, sym, arith, rules, length}
use Rattle.std.proofs.lemmas.Slice.{put_mid-paste}
use Rattle.fit.specs.Stored.{four_put}
use Rattle.fit.proofs.Six.{copied}
use Rattle.fit.proofs.put_four.Goals as goal

pub returns : goal.returns
unfolding four_put
returns c =
    let a = c.args in
    let n : length a.four ≡ 4 = let h = c.well_formed in search rules in
    put_mid-paste a.at _ a.t.now _ a.four 4 c.copy_from_slice.ensures.after (omega arith) (sym n) ∙ copied 4 a.four a.at a.t.now (omega arith) (omega arith)
