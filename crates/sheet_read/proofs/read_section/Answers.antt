-- `sheet_read::read_section` meets its contract: the tests are those of `section_at`, in its order.
use Rattle.std.proofs.Common.{◌*◌, ◌≤◌, arith}
use native.Mathlib.Nat.{le_trans}
use Rattle.sheet_read.proofs.Reading.{word_missed, count_missed, few, near, numbers_missed, section_read}
use Rattle.sheet_read.proofs.read_section.Goals as goal
use Rattle.sheet_read.proofs.read_section.Goals.{In_ok-count}

small : (c : In_ok-count) → c.args.per * c.in_ok-count.count ≤ 1024
small c =
    let a = c.args in
    le_trans (few a.s.now a.w.now a.most a.per a.at c.in_ok-read_word.ensures c.in_ok-count.ensures) c.requires.fact_1.1

pub returns-in_err-read_word : goal.returns-in_err-read_word
returns-in_err-read_word c = rw c.from_residual.ensures (word_missed _ _ _ _ _ c.in_err-read_word.ensures)

pub returns-in_err-count : goal.returns-in_err-count
returns-in_err-count c = rw c.from_residual-in_err-count.ensures (count_missed _ _ _ _ _ c.in_ok-read_word.ensures c.in_err-count.ensures)

pub overflow_mul-per : goal.overflow_mul-per
overflow_mul-per c = omega (arith, small c)

pub read_numbers-requires-clause-fact_2 : goal.read_numbers-requires-clause-fact_2
read_numbers-requires-clause-fact_2 c = small c

pub read_numbers-requires-clause-fact_3 : goal.read_numbers-requires-clause-fact_3
read_numbers-requires-clause-fact_3 c =
    let a = c.args in
    omega (arith, near a.s.now a.w.now a.most a.per a.at c.in_ok-read_word.ensures c.in_ok-count.ensures)

pub returns-in_err-next : goal.returns-in_err-next
returns-in_err-next c =
    rw c.from_residual-in_err-next.ensures (numbers_missed _ _ _ _ _ c.in_ok-read_word.ensures c.in_ok-count.ensures c.in_err-next.ensures)

pub returns : goal.returns
returns c = section_read _ _ _ _ _ c.in_ok-read_word.ensures c.in_ok-count.ensures c.in_ok-next.ensures
