-- `fit_partials::store_sides` meets its contract: two numbers stored, the second after the first.
use mathlib.Core.Path.{◌≡◌, refl}
use Prim.Native.Nat.{◌+◌}
use native.Mathlib.Omega.{arith}
use Rattle.plane.specs.View.{view}
use Rattle.fit_partials.specs.Stored.{side_of}
use Rattle.fit_partials.proofs.Laid.{room_part, stored_as, stored_join}
use Rattle.fit_partials.proofs.store_sides.Goals as goal

pub store-x-requires : goal.store-x-requires
store-x-requires c =
    let a = c.args in record {
      fact_1 = room_part a.c a.at 2 a.at 1 c.requires.fact_1 (omega arith) refl refl;
      fact_2 = c.requires.fact_2.0;
    }

pub store-y-requires : goal.store-y-requires
store-y-requires c =
    let a = c.args in
    let done = c.store-x.ensures.laid in record {
      fact_1 = room_part a.c a.at 2 (a.at + 1) 1 c.requires.fact_1 (omega arith) done.doubles done.bytes;
      fact_2 = c.requires.fact_2.1;
    }

pub returns : goal.returns
returns c =
    let a = c.args in
    let side = side_of (view a.b.now) in
    stored_join a.c a.at 1 1 side (λ j. a.b.now.y) (stored_as a.c a.at 1 _ side (λ j h. let e : j ≡ 0 = omega arith in rw e refl) c.store-x.ensures) c.store-y.ensures
    (λ j h. let e : 1 + j ≡ 1 = omega arith in rw e refl) refl
