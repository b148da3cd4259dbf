-- `samples::walk` meets its contract: a turn adds the samples of one pair, and the domain's end stands behind them.
use mathlib.Core.Path.{◌≡◌, sym, ap, ◌∙◌}
use mathlib.Core.List.{[], ◌++◌}
use Prim.Native.Nat.{ℕ, ◌+◌, ◌-◌, ◌<◌, min}
use native.Mathlib.Nat.{min-eq_right}
use native.Mathlib.Omega.{arith}
use borrow.Author.Rules.{rules}
use lib.ListN.{length, set, take, drop}
use lib.Ieee.{Float, nan}
use Rattle.std.proofs.lemmas.Slice.Zip.{zip_turn, zip_end}
use Rattle.std.proofs.lemmas.List.{length_push}
use Rattle.meaning.specs.Scalar.{plain}
use Rattle.meaning.specs.Table.{at1}
use Rattle.shape.specs.Shape.{Shape}
use Rattle.samples.specs.Samples.{samples_of}
use Rattle.samples.specs.Walk.{walked, walk_of}
use Rattle.samples.proofs.Sampled.{sampled-first, next_knot, other_knots, pair_next, sampled_all, samples_count, samples_room}
use Rattle.samples.proofs.walk.Goals as goal

pub loop-w0-init : goal.loop-w0-init
loop-w0-init c = sampled-first _ _ _

pub loop-w0-preserved : goal.loop-w0-preserved
loop-w0-preserved c =
    let ks = c.args.knots.now in
    let turn = zip_turn ks (take (length ks - 1) (drop 1 ks)) c.loop-w0.yielded c.into_iter-w0-iterator.result c.loop-w0.w0-iterator c.next.new.self c.next.result
    (search rules) (search rules) c.loop-w0.yielded_by (c.in-Some.w0, c.in-Some.w1) c.in-Some.is c.next.ensures.steps in
    rw (length_push c.loop-w0.yielded (c.in-Some.w0, c.in-Some.w1))
    (pair_next ks c.args.per c.loop-w0.invariant c.requires.fact_3
    (let few = c.loop-w0.invariant.few in omega (arith, few, turn.1, c.requires.fact_2, c.requires.fact_3, c.told-room, c.loop-w0.invariant.long)) (turn.2 nan) (turn.3 nan ∙ next_knot ks (length c.loop-w0.yielded) turn.1)
    c.sample_rising-at.ensures.fact_1 c.sample_rising-at.ensures.fact_2)

pub returns : goal.returns
unfolding walk_of
returns c =
    let ks = c.args.knots.now in
    let per = c.args.per in
    let room = c.args.room.now in
    let end = zip_end ks (take (length ks - 1) (drop 1 ks)) c.loop-w0.yielded c.into_iter-w0-iterator.result c.loop-w0.w0-iterator c.next.new.self c.next.result
    (search rules) (search rules) c.loop-w0.yielded_by c.in-None.is c.next.ensures.steps in
    let n : ℕ = length ks - 4 in
    let many : length c.loop-w0.yielded ≡ n + 3 =
    end ∙ ap (λ (j : ℕ). min (length ks) j) (other_knots ks (omega (arith, c.requires.fact_1))) ∙ min-eq_right (omega arith) ∙ omega (arith, c.requires.fact_1) in
    let shape : Shape Float = record { n = n; xs = []; ys = []; knots = ks } in
    let l = samples_of shape per in
    let all = sampled_all c.loop-w0.invariant n many in
    let k = samples_count shape per all.0 in
    let fits : c.loop-w0.at < length room = omega (arith, c.loop-w0.invariant.few, many, c.requires.fact_2, c.told-room) in
    let last : length ks - 1 ≡ n + 3 = omega (arith, c.requires.fact_1) in
    let full = ap (λ (j : ℕ). set c.loop-w0.room c.loop-w0.at (at1 plain ks j)) last ∙ samples_room shape per room fits all.0 all.1 ∙ ap (λ (m : ℕ). l ++ drop m room) (sym k) in record {
      fact_1 = (λ i. walked (sym k i) (full i));
      fact_2 = omega (arith, c.loop-w0.invariant.few, many, c.requires.fact_2);
    }
