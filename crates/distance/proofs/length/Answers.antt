-- `distance::length` meets its contract.
use mathlib.Core.Path.{refl, sym, subst}
use Prim.Native.Nat.{suc, ◌^◌, ◌<◌}
use lib.Dec.{T}
use lib.Ieee.{binary64, fits}
use Rattle.meaning.specs.Root.{in_units}
use Rattle.distance.proofs.Lengths.{unsigned-number, both_zero, pattern_range, few, under_x, under_y, length_is}
use Rattle.distance.proofs.length.Goals as goal
use Rattle.distance.proofs.length.Goals.{Start, After-leading-j}

-- the three are doubles, as any `f64` is
held_x : (c : Start) → T (fits binary64 c.args.x)
held_x c = subst T (sym c.well_formed.0.1) tt

held_y : (c : Start) → T (fits binary64 c.args.y)
held_y c = subst T (sym c.well_formed.1.0.1) tt

held_m : (c : Start) → T (fits binary64 c.args.m)
held_m c = subst T (sym c.well_formed.1.1.0.1) tt

pub returns-then-m : goal.returns-then-m
returns-then-m c =
    let s = (goal.at.returns-then-m c).Start in
    both_zero c.args.x c.args.y (held_x s) (held_y s) c.requires.0 c.requires.1 c.args.m (held_m s) c.requires.2 c.requires.3 c.if-m.true

pub float_to_bits-m : goal.float_to_bits-m
float_to_bits-m c = unsigned-number c.args.m c.requires.2

pub leading-j-requires : goal.leading-j-requires
leading-j-requires c =
    let s = (goal.at.leading-j-requires c).Start in
    pattern_range c.args.x c.args.y (held_x s) (held_y s) c.requires.0 c.requires.1 c.args.m (held_m s) c.requires.2 c.requires.3 c.if-m.false

-- the leading place is known
module _ (c : After-leading-j) (x : T (fits binary64 c.args.x)) (y : T (fits binary64 c.args.y)) (m : T (fits binary64 c.args.m)) where
  few_places : c.leading-j.result < 2098
  few_places = few c.args.x c.args.y x y c.requires.0 c.requires.1 c.args.m m c.requires.2 c.requires.3 c.if-m.false c.leading-j.ensures

  x_below : in_units c.args.x < 2 ^ suc c.leading-j.result
  x_below = under_x c.args.x c.args.y x y c.requires.0 c.requires.1 c.args.m m c.requires.2 c.requires.3 c.if-m.false c.leading-j.ensures

  y_below : in_units c.args.y < 2 ^ suc c.leading-j.result
  y_below = under_y c.args.x c.args.y x y c.requires.0 c.requires.1 c.args.m m c.requires.2 c.requires.3 c.if-m.false c.leading-j.ensures

pub scaled-requires : goal.scaled-requires
scaled-requires c =
    let s = (goal.at.scaled-requires c).Start in
    (c.requires.0, x_below c (held_x s) (held_y s) (held_m s), few_places c (held_x s) (held_y s) (held_m s))

pub scaled-requires-2 : goal.scaled-requires-2
scaled-requires-2 c =
    let s = (goal.at.scaled-requires-2 c).Start in
    let k = (goal.at.scaled-requires-2 c).After-leading-j in
    (c.requires.1, y_below k (held_x s) (held_y s) (held_m s), few_places k (held_x s) (held_y s) (held_m s))

pub power-requires : goal.power-requires
power-requires c =
    let s = (goal.at.power-requires c).Start in
    few_places (goal.at.power-requires c).After-leading-j (held_x s) (held_y s) (held_m s)

pub returns : goal.returns
returns c =
    let s = (goal.at.returns c).Start in
    length_is c.args.x c.args.y (held_x s) (held_y s) c.requires.0 c.requires.1 c.args.m (held_m s) c.requires.2 c.requires.3 c.if-m.false
    c.leading-j.ensures c.root.result c.power.result c.scaled.ensures c.scaled-2.ensures c.dot.ensures c.root.ensures c.power.ensures refl
