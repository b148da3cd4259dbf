-- `fit_partials::fill_row` meets its contract: blank cells, four numbers, blank cells, and the right sides.
use mathlib.Core.Path.{◌≡◌, refl, ◌∙◌}
use Prim.Native.Nat.{◌+◌, ◌-◌, ◌<◌}
use native.Mathlib.Omega.{arith}
use Rattle.plane.specs.View.{view}
use Rattle.fit_partials.proofs.Laid.{room_part}
use Rattle.fit_partials.proofs.Rows.{row_stored}
use Rattle.fit_partials.proofs.fill_row.Goals as goal

pub blank-requires : goal.blank-requires
blank-requires c =
    let a = c.args in
    let p = c.requires.fact_1 in
    room_part a.c a.at (a.m + 2) a.at (a.i - 3) p.3 (omega (arith, p.0, p.1)) refl refl

pub store_four-first-requires : goal.store_four-first-requires
store_four-first-requires c =
    let a = c.args in
    let p = c.requires.fact_1 in
    let done = c.blank.ensures in record {
      fact_1 = room_part a.c a.at (a.m + 2) (a.at + (a.i - 3)) 4 p.3 (omega (arith, p.0, p.1)) done.doubles done.bytes;
      fact_2 = c.requires.fact_2.0;
    }

pub blank-requires-2 : goal.blank-requires-2
blank-requires-2 c =
    let a = c.args in
    let p = c.requires.fact_1 in
    let done = c.store_four-first.ensures.laid in
    let before = c.blank.ensures in
    room_part a.c a.at (a.m + 2) (a.at + (a.i - 3 + 4)) (a.m - (a.i - 3 + 4)) p.3 (omega (arith, p.0, p.1))
    (done.doubles ∙ before.doubles) (done.bytes ∙ before.bytes)

pub store_sides-second-requires : goal.store_sides-second-requires
store_sides-second-requires c =
    let a = c.args in
    let p = c.requires.fact_1 in
    let last = c.blank-2.ensures in
    let done = c.store_four-first.ensures.laid in
    let before = c.blank.ensures in record {
      fact_1 = room_part a.c a.at (a.m + 2) (a.at + a.m) 2 p.3 (omega arith) (last.doubles ∙ done.doubles ∙ before.doubles)
          (last.bytes ∙ done.bytes ∙ before.bytes);
      fact_2 = (c.requires.fact_2.1, c.requires.fact_2.2);
    }

pub returns : goal.returns
returns c =
    let a = c.args in
    let p = c.requires.fact_1 in
    let e : a.i - 3 + 3 ≡ a.i = omega (arith, p.0) in
    let high : a.i - 3 + 3 < a.m = omega (arith, p.0, p.1) in
    row_stored a.c a.at (a.i - 3) a.m a.four.now (view a.b.now) high e c.blank.ensures c.store_four-first.ensures c.blank-2.ensures
    c.store_sides-second.ensures refl
