-- Inner: the struct of the code that holds the slices, as the definitions see it.
use Rattle.std.specs.Prelude.{◌≡◌, List, ℕ, length}
use Rattle.partials.specs.declared.Dv.{Dv}
use Rattle.solve.specs.Placed.{rows_by}
use Rattle.solve_partials.specs.declared.work.Cells.{Cells}
use Rattle.solve_partials.specs.Held.{held, at}

-- the values in its cells, the one in cell k, and the rows of them, in their order
abbrev pub values : Cells → List Dv
values s = held s.c s.w.now s.ns.now

abbrev pub value_in : Cells → ℕ → Dv
value_in s k = at s.c s.w.now s.ns.now k

abbrev pub rows_held : Cells → List (List Dv)
rows_held s = rows_by s.order.rows s.order.places (values s)

-- t is s, but for what is in the cells
abbrev pub Alike : Cells → Cells → Type 0
Alike s t = (t.w.ghost_name ≡ s.w.ghost_name) × (t.ns.ghost_name ≡ s.ns.ghost_name) × (t.c ≡ s.c) × (t.order ≡ s.order) × (length t.ns.now ≡ length s.ns.now)
