-- The numbers of the handles as variables. docs/RULES.md, "Partials", decides: variable i is entry i with the partial 1 at i.
use Rattle.std.specs.Prelude.{List, length, Float}
use Rattle.meaning.specs.Search.{listed}
use Rattle.partials.specs.declared.Dv.{Dv}
use Rattle.partials.specs.Dual.{var_dv}

unfoldable pub variables_of : List Float → List Dv
unfolding listed var_dv
variables_of q = listed 0 (length q) (var_dv q)
