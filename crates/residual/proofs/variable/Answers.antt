-- `residual::variable` meets its contract.
use mathlib.Core.Path.{refl}
use borrow.Author.Tests.{lt-ltb, le-leb}
use Rattle.partials.specs.Dual.{var_dv}
use Rattle.residual.proofs.variable.Goals as goal

pub returns : goal.returns
unfolding var_dv
returns c = record {
  fact_1 = λ xs h e. simp (le-leb _ _ c.requires, lt-ltb _ _ h, e);
  fact_2 = refl;
}
