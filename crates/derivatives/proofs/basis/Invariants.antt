-- `derivatives::basis` meets its contract: each turn of the loop is `function_of`.
use Rattle.meaning.proofs.For.{At}
use Rattle.basis.specs.Basis.{function_of}
use Rattle.derivatives.proofs.basis.Given as goal

abbrev pub invariant-loop-r : goal.invariant-loop-r
invariant-loop-r g l = At 0 4 (function_of g.S.Scalar.ops l.ndu l.n) l.initial.ders l.r l.ders
