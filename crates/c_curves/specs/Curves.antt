-- How curves and numbers cross between C and the library. include/threshdune_parts.h says the same in words.
use Rattle.std.specs.Prelude.{ℕ, min, Bool, not, cond, List, eqb, length, get_or, replicate, Float}
use Rattle.meaning.specs.Scalar.{zero64}
use Rattle.knots.specs.declared.Form.{Form}
use Rattle.knots.specs.declared.Form.TheVariants.{Control, Fit}
use Rattle.buffer.specs.Pasted.{pasted}
use Rattle.outcome.specs.Told.{Values}
use Rattle.shape.specs.Offered.{Offered}
use Rattle.curve.specs.declared.Curve.{Curve}
use Rattle.curve.specs.Record.{by_record}
use Rattle.refusal.specs.Refusals.{Verdict}

-- ---- in

-- a flag crosses as a number: knots are given where it is not 0, and handles are fit points
abbrev pub is_given : ℕ → Bool
is_given k = not (eqb k 0)

abbrev pub form_of : ℕ → Form
form_of k = cond (is_given k) Fit Control

-- a room of k numbers: the first of s, as many as it takes, and +0.0
unfoldable pub room_of : ℕ → List Float → List Float
unfolding pasted
room_of k s = pasted s (min (length s) k) (replicate k zero64) 0

-- a record: its two counts and its length, whatever they are, and its three rooms
unfoldable pub read_curve : ℕ → ℕ → Float → List Float → List Float → List Float → Curve
unfolding room_of
read_curve n k l xs ys ks = record { points = n; knot_count = k; length = l; xs = room_of 66 xs; ys = room_of 66 ys; knots = room_of 70 ks }

-- the same, offered
abbrev pub as_record : ℕ → ℕ → Float → List Float → List Float → List Float → Offered
as_record n k l xs ys ks = by_record (read_curve n k l xs ys ks)

-- ---- out: the refusal, and what lies behind a lent pointer afterwards; a refusal leaves it as it was

pub record Behind : Type 0 where
  pub refusal : Verdict
  pub value : Float

abbrev pub behind : Verdict → Float → Behind
behind r x = record { refusal = r; value = x }

-- value i of an answer, where there is one
abbrev pub handed : Values → ℕ → Float → Behind
handed v i x = behind v.refusal (get_or v.values i x)
