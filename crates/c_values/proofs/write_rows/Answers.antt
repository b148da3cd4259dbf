-- `c_values::write_rows` meets its contract: a turn puts one value and its count. A need of numbers is a law over them alone: a turn's record holds all
-- that is known of twenty values. Assumes nothing.
use mathlib.Core.Path.{◌≡◌, refl}
use Prim.Native.Nat.{ℕ, ◌+◌, ◌-◌, ◌*◌, ◌≤◌, ◌<◌, zero-le}
use native.Mathlib.Omega.{arith}
use lib.ListN.{length}
use lib.Seq.{paste-zero}
use Rattle.meaning.specs.Search.{listed}
use Rattle.meaning.proofs.Filling.{length-listed}
use Rattle.c_values.specs.Crossing.{value_of}
use Rattle.c_values.proofs.Rows.{listed_next, none-listed, one_written, all_listed, count_put}
use borrow.Author.Rules.{rules}
use Rattle.c_values.proofs.write_rows.Goals as goal

fits : {i n k : ℕ} → n ≡ k → 20 ≤ k → i < 20 → i < n
fits e h l = omega arith

next : {i : ℕ} → i < 20 → i + 1 ≤ 20
next h = omega arith

less : (i : ℕ) → i < 20 → 20 - (i + 1) < 20 - i
less i h = omega arith

whole : {i : ℕ} → 20 ≤ i → i ≤ 20 → i ≡ 20
whole h l = omega arith

pub loop-i-init : goal.loop-i-init
loop-i-init c =
    let a = c.args in
    let value = value_of a.rows in
    (refl, refl, zero-le, none-listed value a.out.now, paste-zero a.counts.now 0 (listed 0 20 (λ j. (value j).n)))

pub bounds-counts-i : goal.bounds-counts-i
bounds-counts-i c =
    fits c.loop-i.invariant.1 c.requires.fact_2 c.loop-i-test.true

pub loop-i-smaller : goal.loop-i-smaller
loop-i-smaller c = less c.loop-i.i c.loop-i-test.true

pub loop-i-preserved : goal.loop-i-preserved
loop-i-preserved c =
    let a = c.args in
    let value = value_of a.rows in
    let i = c.loop-i.i in
    let place : 28 * i ≡ 28 * length (listed 0 i value) = rw (length-listed 0 i value) in (
      omega arith,
      search rules,
      next c.loop-i-test.true,
      rw (listed_next i value) (one_written (value i) c.loop-i.invariant.3 place c.write.ensures.g_len c.write.ensures.out_after),
      count_put a.counts.now 20 i (λ j. (value j).n) c.requires.fact_2 c.loop-i-test.true c.loop-i.invariant.4,
    )

pub returns : goal.returns
returns c =
    let l = c.loop-i in
    let e : l.i ≡ 20 = whole c.loop-i-test.false l.invariant.2 in
    record {
      out_after = all_listed 20 (value_of c.args.rows) (rw e at l.invariant.3);
      counts_after = rw e at l.invariant.4;
    }
