-- `c_values::answer_rows` meets its contract.
use Rattle.meaning.specs.Search.{listed}
use Rattle.c_values.specs.Crossing.{AnsweredB}
use Rattle.c_values.proofs.Answers.{short_out, short_counts, given_all}
use Rattle.c_values.proofs.answer_rows.Goals as goal

pub returns-then-out-lt560 : goal.returns-then-out-lt560
unfolding AnsweredB listed
returns-then-out-lt560 c = short_out _ _ _ c.if-out-lt560.true

pub returns-then-counts-lt20 : goal.returns-then-counts-lt20
unfolding AnsweredB listed
returns-then-counts-lt20 c = short_counts _ _ _ c.if-out-lt560.false c.if-counts-lt20.true

pub returns : goal.returns
unfolding AnsweredB listed
returns c =
    given_all _ _ _ c.if-out-lt560.false c.if-counts-lt20.false c.write_rows.ensures.out_after c.write_rows.ensures.counts_after
