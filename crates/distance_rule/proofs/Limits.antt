-- What a square tells of its distance, so that a search need not take every root: from a limit on no distance is less than the least so far, and every one
-- is finite that has a finite square. Who cites these laws need not know how a distance is made. Assumes nothing.
use mathlib.Core.Path.{◌≡◌, refl, sym, ap, ◌∙◌, subst}
use mathlib.Core.Bool.{true, false}
use lib.Dec.{T}
use lib.Ieee.{Float, inf, binary64, lt, le, is_nan, of_bits, fits}
use lib.Ieee.Bits.{is_true}
use lib.Ieee.Scale.{finite}
use Rattle.meaning.specs.Root.{root_of}
use Rattle.meaning.proofs.Order.{le_left, lt_irrefl, le_not_lt, not_lt_le, le_lt_trans, le_trans}
use Rattle.meaning.proofs.Tests.{by_two}
use Rattle.plane.specs.Vector.{Vector}
use Rattle.root.proofs.Laws.{root_mono}
use Rattle.distance_rule.specs.Distance.{distance_of}
use Rattle.distance_rule.specs.Squares.{square_of, plain_from, limit_of}
use Rattle.distance_rule.proofs.Signs.{square_fits}
use Rattle.distance_rule.proofs.Plain.{plain_from-fits, root_of_square, finite_beyond, under_least}

-- no square from the limit on has a distance below d; all of them tell theirs
pub record Limited (d limit : Float) : Type 0 where
  beyond : (q : Float) → T (fits binary64 q) → le limit q ≡ true → lt q (inf false) ≡ true → (le plain_from q ≡ true) × (lt (root_of q) d ≡ false)

pub of_infinity : Limited (inf false) (inf false)
of_infinity = record { beyond = λ q f h l. absurd (lt_irrefl (inf false) (le_lt_trans (inf false) q (inf false) h l)) }

root_order : (q r : Float) → T (fits binary64 q) → T (fits binary64 r) → le q r ≡ true → le (root_of q) (root_of r) ≡ true
root_order q r f g h = is_true (le (root_of q) (root_of r)) (root_mono q r f g (subst T (sym h) tt))

number : is_nan plain_from ≡ false
unfolding is_nan of_bits
number = refl

module _ (a b : Vector Float) where
  small : lt (square_of a b) plain_from ≡ true → Limited (distance_of a b) plain_from
  small h =
      let d : le (distance_of a b) (root_of plain_from) ≡ true = is_true (le (distance_of a b) (root_of plain_from)) (under_least a b h) in
      record { beyond = λ q f k l. (k, le_not_lt (distance_of a b) (root_of q) (le_trans (distance_of a b) (root_of plain_from) (root_of q) d (root_order plain_from q plain_from-fits f k))) }

  plain_square : lt (square_of a b) plain_from ≡ false → Limited (distance_of a b) (square_of a b)
  plain_square h =
      let s = square_of a b in
      record {
        beyond = λ q f k l.
            let least : le plain_from s ≡ true = not_lt_le s plain_from (le_left s q k) number h in
            let e : distance_of a b ≡ root_of s = root_of_square a b least (le_lt_trans s q (inf false) k l) in
            (le_trans plain_from s q least k, ap (λ (x : Float). lt (root_of q) x) e ∙ le_not_lt (root_of s) (root_of q) (root_order s q (square_fits a b) f k));
      }

  pub of_points : Limited (distance_of a b) (limit_of (square_of a b))
  unfolding limit_of
  of_points = by_two (lt (square_of a b) plain_from) (λ h. rw h (small h)) (λ h. rw h (plain_square h))

  -- a square from the limit on
  module _ {d limit : Float} (k : Limited d limit) (h : le limit (square_of a b) ≡ true) (l : lt (square_of a b) (inf false) ≡ true) where
    pub finite_distance_beyond : finite (distance_of a b) ≡ true
    finite_distance_beyond = finite_beyond a b (k.beyond (square_of a b) (square_fits a b) h l).0 l

    pub not_nearer : lt (distance_of a b) d ≡ false
    not_nearer =
        let t = k.beyond (square_of a b) (square_fits a b) h l in
        ap (λ (x : Float). lt x d) (root_of_square a b t.0 l) ∙ t.1
