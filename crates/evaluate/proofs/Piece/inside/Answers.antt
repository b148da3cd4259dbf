-- `evaluate::Piece::inside` meets its contract.
use mathlib.Core.Path.{◌∙◌}
use Rattle.evaluate.specs.Piece.{on_window}
use Rattle.evaluate.proofs.Piece.inside.Goals as goal

pub returns : goal.returns
unfolding on_window
returns g c = c.combine.ensures ∙ rw c.values-row.ensures
