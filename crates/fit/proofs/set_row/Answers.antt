-- `fit::set_row` meets its contract: the span and the basis values of the definition, spread over the row.
use native.Mathlib.Omega.{arith}
use Rattle.fit.specs.System.{row_at, row_of}
use Rattle.fit.specs.Stored.{found_row}
use Rattle.fit.proofs.set_row.Goals as goal

pub fill_row-requires : goal.fill_row-requires
fill_row-requires c =
    let found = c.span-i.ensures in
    (omega arith, omega arith, found.fact_3, found.fact_5 c.requires.0)

pub returns : goal.returns
unfolding found_row row_of row_at
returns c =
    let f = c.fill_row.ensures in
    let b = c.basis_in-ders.ensures in
    let i = c.span-i.ensures.fact_1 in
    rw (b, i) at f
