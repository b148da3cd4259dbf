-- Inner: the structs of the code, as the definitions see them.
use Rattle.basis.specs.Triangle.{Cell}
use Rattle.basis_straight.specs.Second.{Entries}
use Rattle.basis_straight.specs.declared.Cell as Code
use Rattle.basis_straight.specs.declared.Entries as CodeEntries

abbrev pub view_cell : {A : Type 0} → Code.Cell A → Cell A
view_cell c = record { gap = c.gap; value = c.value; saved = c.saved }

abbrev pub view_entries : {A : Type 0} → CodeEntries.Entries A → Entries A
view_entries e = record { g20 = e.g20; g21 = e.g21; g30 = e.g30; g31 = e.g31; g32 = e.g32; low = e.low; high = e.high }
