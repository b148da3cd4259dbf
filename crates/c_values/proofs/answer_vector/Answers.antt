-- `c_values::answer_vector` meets its contract: x is written, then y behind it.
use mathlib.Core.Path.{refl}
use Rattle.c_values.specs.Crossing.{AnsweredV}
use Rattle.c_values.proofs.Slices.{two_put}
use Rattle.c_values.proofs.Rows.{none_written, one_written, all_written}
use Rattle.c_values.proofs.Answers.{short_out, short_counts, given_all}
use borrow.Author.Rules.{rules}
use Rattle.c_values.proofs.answer_vector.Goals as goal

pub returns-then-out-lt56 : goal.returns-then-out-lt56
unfolding AnsweredV
returns-then-out-lt56 c = short_out _ _ _ c.if-out-lt56.true

pub returns-then-counts-lt2 : goal.returns-then-counts-lt2
unfolding AnsweredV
returns-then-counts-lt2 c = short_counts _ _ _ c.if-out-lt56.false c.if-counts-lt2.true

pub bounds-counts-1 : goal.bounds-counts-1
bounds-counts-1 c = search rules

pub returns : goal.returns
unfolding AnsweredV
returns c =
    let a = c.args in
    let first = one_written a.a.x (none_written a.out.now) refl c.write.ensures.g_len c.write.ensures.out_after in
    let both = one_written a.a.y first refl c.write-2.ensures.g_len c.write-2.ensures.out_after in
    given_all _ _ _ c.if-out-lt56.false c.if-counts-lt2.false (all_written both) (two_put a.counts.now _ _ c.if-counts-lt2.false)
