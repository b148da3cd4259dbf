-- `root::root` meets its contract: `root_bits` answers for a positive finite x, and `proofs/Edges.antt` for every other. Assumes nothing.
use mathlib.Core.Path.{◌≡◌, sym, ap, ◌∙◌, subst}
use mathlib.Core.Bool.{true, false}
use lib.Dec.{T}
use lib.Ieee.{Float, binary64, fits, lt, of_bits}
use lib.Ieee.Bits.{of_bits-to_bits}
use Rattle.meaning.specs.Root.{root_of}
use Rattle.root.proofs.NoNan.{no_nan, upper_no_nan, le_of_lt}
use Rattle.root.proofs.Edges.{zero_is, pattern_positive, top_stays, nan_stays, zero_else}
use Rattle.root.proofs.root.Goals as goal
use Rattle.root.proofs.root.Goals.{Start}

-- x is a double, as any `f64` is
held : (c : Start) → T (fits binary64 c.args.x)
held c = subst T (sym c.well_formed.0.1) tt

pub float_to_bits-b : goal.float_to_bits-b
float_to_bits-b c = upper_no_nan _ _ (le_of_lt (of_bits binary64 0) _ c.if-x.true)

pub root_bits-requires : goal.root_bits-requires
root_bits-requires c = (pattern_positive _ (held (goal.at.root_bits-requires c).Start) c.if-x.true, c.if-b-lt9218868437227405312.true)

pub float_from_bits-result : goal.float_from_bits-result
float_from_bits-result c = no_nan _ c.root_bits.ensures.0

pub returns-then-b-lt9218868437227405312 : goal.returns-then-b-lt9218868437227405312
returns-then-b-lt9218868437227405312 c =
    c.root_bits.ensures.1 ∙ ap (λ (y : Float). root_of y) (of_bits-to_bits binary64 c.args.x (held (goal.at.returns-then-b-lt9218868437227405312 c).Start))

pub returns-else-b-lt9218868437227405312 : goal.returns-else-b-lt9218868437227405312
returns-else-b-lt9218868437227405312 c =
    top_stays c.args.x (held (goal.at.returns-else-b-lt9218868437227405312 c).Start) (subst (λ (z : Float). lt z c.args.x ≡ true) zero_is c.if-x.true) c.if-b-lt9218868437227405312.false

pub returns-then-x-2 : goal.returns-then-x-2
returns-then-x-2 c = nan_stays _ c.if-x-2.true

pub returns-else-x-2 : goal.returns-else-x-2
returns-else-x-2 c =
    zero_is ∙ zero_else c.args.x (subst (λ (z : Float). lt z c.args.x ≡ false) zero_is c.if-x.false) c.if-x-2.false
