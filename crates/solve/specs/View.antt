-- Inner: the code's answer, as the definitions see it.
use Rattle.std.specs.Prelude.{true, Option, Some, None, Float}
use Rattle.meaning.specs.Scalar.{plain}
use Rattle.solve.specs.declared.Solved as Code
use Rattle.solve.specs.Outcome.{Solution, no_solution}

abbrev pub view : Option Code.Solved → Solution Float
view (Some a) = record { xs = a.xs; ys = a.ys; fine = true }
view None = no_solution plain
