-- `solve_partials::solve_front` meets its contract: the parts that are lent hold the rows.
use Prim.Native.Nat.{ℕ, ◌+◌, ◌*◌, ◌≤◌}
use native.Mathlib.Nat.{mul-le-mul_right}
use native.Mathlib.Omega.{arith}
use mathlib.Core.Path.{◌≡◌, sym, ap, ◌∙◌}
use mathlib.Core.List.{List, ◌++◌}
use lib.ListN.{length, take, drop, replicate}
use lib.Seq.{length-take-le}
use lib.Ieee.{Float}
use Rattle.meaning.specs.Scalar.{zero64}
use Rattle.partials.specs.declared.Dv.{Dv}
use Rattle.partials.specs.Dual.{dual}
use Rattle.solve.specs.Rows.{rows_of}
use Rattle.solve.specs.Outcome.{solution_of}
use Rattle.solve_partials.specs.Outcome.{room_of, rows_in, four_of}
use Rattle.solve_partials.proofs.Outcomes.{held_front, front_room}
use Rattle.solve_partials.proofs.solve_front.Goals as goal
use Rattle.solve_partials.proofs.solve_front.Goals.{Start}

-- the parts are as long as they are asked for
doubles-long : (b : Start) → let a = b.args in length (take (room_of a.m * (a.c + 1)) a.w.now) ≡ room_of a.m * (a.c + 1)
doubles-long b = length-take-le _ b.args.w.now b.requires.3

counts-long : (b : Start) → let a = b.args in length (take (room_of a.m) a.ns.now) ≡ room_of a.m
counts-long b = length-take-le _ b.args.ns.now b.requires.2

pub slice_bounds-solve_lent-end-2 : goal.slice_bounds-solve_lent-end-2
slice_bounds-solve_lent-end-2 c = sym (doubles-long (goal.at.slice_bounds-solve_lent-end-2 c).Start)

pub slice_bounds-solve_lent-end-4 : goal.slice_bounds-solve_lent-end-4
slice_bounds-solve_lent-end-4 c = sym (counts-long (goal.at.slice_bounds-solve_lent-end-4 c).Start)

pub solve_lent-requires : goal.solve_lent-requires
solve_lent-requires c =
    let a = c.args in
    let n : room_of a.m ≤ 224 = omega (arith, mul-le-mul_right (a.m + 2) c.requires.0, c.requires.0) in
    (front_room a.c (room_of a.m) a.w.now a.ns.now c.requires.2 c.requires.3 c.requires.1 n, counts-long (goal.at.solve_lent-requires c).Start, c.requires.0)

pub returns : goal.returns
unfolding rows_in
returns c =
    let call = c.solve_lent.ensures in
    let a = c.args in
    let m = a.m in
    let w = a.w.now in
    let ns = a.ns.now in
    let e = room_of m * (a.c + 1) in record {
      answers = call.answers ∙ ap (λ (l : List Dv). four_of a.at (solution_of dual m (rows_of m (m + 2) l)))
          (held_front a.c (room_of m) w ns c.requires.2 c.requires.3);
      doubles = ap (λ (t : List Float). t ++ drop e w) (call.doubles ∙ ap (λ (n : ℕ). replicate n zero64) (doubles-long (goal.at.returns c).Start));
      counts = ap (λ (t : List ℕ). t ++ drop (room_of m) ns) (call.counts ∙ ap (λ (n : ℕ). replicate n 0) (counts-long (goal.at.returns c).Start));
    }
