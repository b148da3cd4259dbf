-- A curve as somebody offers it: the rules that it is held to, and its shape. Whatever is asked of a curve is asked of one of these.
use Rattle.std.specs.Prelude.{Bool, true, cond, List, [], ◌∷◌, ℕ, eqb, Float}
use Rattle.refusal.specs.Refusals.{Row, row}
use Rattle.knots.specs.declared.Form.TheVariants.{Control}
use Rattle.shape.specs.Shape.{Shape, slice_shape}
use Rattle.shape.specs.Rules.{shape_rules, handle_rules}

pub record Offered : Type 0 where
  pub rules : List Row
  pub shape : Shape Float

-- in the rooms of a record, with its two counts
abbrev pub in_rooms : ℕ → ℕ → List Float → List Float → List Float → Offered
in_rooms n k xs ys us = let s : Shape Float = record { n = n; xs = xs; ys = ys; knots = us } in record { rules = shape_rules k s; shape = s }

-- in two slices: control points x, y in turn, and knots
abbrev pub in_slices : List Float → List Float → Offered
in_slices coords ks = record { rules = handle_rules Control coords true ks; shape = slice_shape coords ks }

-- A question that has a point of its own judges it by 11, too. That row comes after the curve's, but before 17 where that is among them.
abbrev pub with11 : Bool → List Row → List Row
with11 wild [] = row 11 wild ∷ []
with11 wild (r ∷ rs) = cond (eqb r.refusal.number 17) (row 11 wild ∷ r ∷ rs) (r ∷ with11 wild rs)
