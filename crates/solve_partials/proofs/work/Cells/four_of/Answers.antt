-- `solve_partials::work::Cells::four_of` meets its contract: one answer after the other.
use mathlib.Core.List.{[], ◌∷◌}
use Rattle.meaning.specs.Search.{listed}
use Rattle.solve_partials.proofs.work.Cells.four_of.Goals as goal

pub returns : goal.returns
unfolding listed
returns c =
    let p = c.answer_at-p.ensures in
    let q = c.answer_at-q.ensures in
    let r = c.answer_at-r.ensures in
    let s = c.answer_at-s.ensures in
    λ t. p t ∷ q t ∷ r t ∷ s t ∷ []
