-- Past the rules of a curve, a search is that of the curve whose rules are not asked again, and of any that has the same shape. Assumes nothing.
use mathlib.Core.Path.{◌≡◌, sym, ap, ◌∙◌, subst}
use mathlib.Core.Bool.{Bool, not, ◌||◌}
use mathlib.Core.List.{List, [], ◌∷◌}
use Prim.Native.Nat.{◌+◌}
use lib.Dec.{T}
use lib.ListN.{take}
use lib.Ieee.{Float, is_nan}
use Rattle.refusal.specs.Refusals.{Verdict, Row, row, first_of}
use Rattle.refusal.proofs.Rows.{Passed, numbered}
use Rattle.outcome.specs.Outcome.{either_wild}
use Rattle.outcome.specs.Told.{telling}
use Rattle.plane.specs.Vector.{Vector}
use Rattle.knots.proofs.Accepted.{Accepted}
use Rattle.shape.specs.Shape.{Shape}
use Rattle.shape.specs.Offered.{Offered, with11}
use Rattle.shape.specs.Trusting.{trusting}
use Rattle.shape.proofs.With.{with_past}
use Rattle.closest.specs.Search.{samples_fine, closest_of, closest_answer}

pub search_past : (who : Offered) → T (numbered who.rules) → Passed who.rules → (p : Vector Float) → let c = who.shape in
    closest_answer (trusting c.n c.xs c.ys c.knots) p ≡ closest_answer who p
unfolding closest_answer telling
search_past who t z p =
    let c = who.shape in
    rw (with_past (either_wild p.x p.y) who.rules (row 15 (not (samples_fine c p) || is_nan (closest_of c p)) ∷ []) t z)

-- a check with the point's own row
pub checked_as : (rules : List Row) {v w : Bool} {r : Verdict} → r ≡ first_of (with11 v rules) → v ≡ w → r ≡ first_of (with11 w rules)
checked_as rules e q = e ∙ ap (λ (b : Bool). first_of (with11 b rules)) q

-- a curve of the same shape: what is lent of it is accepted, and its search is that of the curve
module _ {c d : Shape Float} (e : c ≡ d) where
  pub accepted_as : Accepted (take (d.n + 4) d.knots) d.n → Accepted (take (c.n + 4) c.knots) c.n
  accepted_as a = subst (λ (s : Shape Float). Accepted (take (s.n + 4) s.knots) s.n) (sym e) a

  pub searched_as : (p : Vector Float) → closest_answer (trusting c.n c.xs c.ys c.knots) p ≡ closest_answer (trusting d.n d.xs d.ys d.knots) p
  searched_as p = ap (λ (s : Shape Float). closest_answer (trusting s.n s.xs s.ys s.knots) p) e
