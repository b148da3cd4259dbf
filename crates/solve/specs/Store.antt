-- Inner: the struct of the code that holds the buffer, as the definitions see it.
use Rattle.std.specs.Prelude.{List, Float}
use Rattle.solve.specs.declared.work.Plain.{Plain}
use Rattle.solve.specs.Placed.{rows_by}

-- the rows that lie in its buffer, in their order
abbrev pub rows_held : Plain → List (List Float)
rows_held s = rows_by s.order.rows s.order.places s.w.now
