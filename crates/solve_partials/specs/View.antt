-- Inner: the code's answer, as the definitions see it.
use Rattle.std.specs.Prelude.{true, false, Option, Some, None, replicate}
use Rattle.meaning.specs.Scalar.{zero64}
use Rattle.partials.specs.declared.Dv.{Dv}
use Rattle.partials.specs.Dual.{cst_dv}
use Rattle.solve_partials.specs.declared.Four as Code
use Rattle.solve.specs.Outcome.{Solution}

-- where there is none, eight times +0.0
abbrev pub no_four : Solution Dv
no_four = let zeros = replicate 4 (cst_dv zero64) in record { xs = zeros; ys = zeros; fine = false }

abbrev pub view : Option Code.Four → Solution Dv
view (Some a) = record { xs = a.xs; ys = a.ys; fine = true }
view None = no_four
