-- `span::counted` meets its contract: between the ends the knots that t is not below are counted.
use mathlib.Core.Path.{◌≡◌, refl, sym, ◌∙◌}
use mathlib.Core.Bool.{not}
use Prim.Native.Nat.{◌-◌}
use native.Mathlib.Omega.{arith}
use lib.ListN.{take, drop, length-drop}
use lib.Ieee.{lt}
use Rattle.std.proofs.Common.{rules}
use Rattle.std.specs.List.{count_by}
use Rattle.span.proofs.Spans.{reached_bounds, reached_count, opened}
use Rattle.span.proofs.counted.Goals as goal

pub returns-then-t-u : goal.returns-then-t-u
returns-then-t-u c =
    let a = c.args in record {
      fact_1 = rw (opened a.u.now a.n a.t (omega arith) (omega arith) (omega arith), c.if-t-u.true);
      fact_2 = omega arith;
      fact_3 = omega arith;
    }

pub returns-then-t-u-2 : goal.returns-then-t-u-2
returns-then-t-u-2 c =
    let a = c.args in record {
      fact_1 = rw (opened a.u.now a.n a.t (omega arith) (omega arith) (omega arith), c.if-t-u.false, c.if-t-u-2.true);
      fact_2 = omega arith;
      fact_3 = omega arith;
    }

pub returns : goal.returns
returns c =
    let a = c.args in
    let n : c.count.result ≡ count_by (λ x. not (lt a.t x)) (take (a.n - 4) (drop 4 a.u.now)) = search rules in
    let r = reached_bounds a.u.now a.t (a.n - 4) in
    let k = reached_count a.u.now a.t (a.n - 4) (omega (arith, length-drop 4 a.u.now)) in record {
      fact_1 = rw n (k ∙ sym (opened a.u.now a.n a.t (omega arith) (omega arith) (omega arith) ∙ rw (c.if-t-u.false, c.if-t-u-2.false) refl));
      fact_2 = omega (arith, r.0, k, n);
      fact_3 = omega (arith, r.1, k, n);
    }
