-- `root::root_bits` meets its contract: `proofs/RootPattern.antt` has what the pattern stands for. Assumes nothing.
use mathlib.Core.Path.{sym, subst}
use Prim.Native.Nat.{ℕ, ◌+◌, ◌*◌, ◌/◌, ◌%◌, ◌≤◌, ◌<◌, ◌^◌}
use native.Mathlib.Omega.{arith}
use Rattle.root.proofs.Squares.{NearestWhole}
use Rattle.root.proofs.Scaling.{Moved}
use Rattle.root.proofs.RootPattern.{radicand, shift, pattern_below, pattern_is}
use Rattle.root.proofs.root_bits.Goals as goal
use Rattle.root.proofs.root_bits.Goals.{After-digits-q, After-parts-s}

known : (c : After-parts-s) → Moved c.parts-s.result.m (c.parts-s.result.a % 2)
known c = shift c.args.b _ _ c.parts-s.ensures

pub digits-q-requires : goal.digits-q-requires
digits-q-requires c =
    let w = known c in
    (subst (λ (n : ℕ). 2 ^ 52 ≤ n) (sym w.exact) w.least, subst (λ (n : ℕ). n < 2 ^ 54) (sym w.exact) (omega (arith, w.most)), omega arith)

-- what `digits` found, of the number that the shift by o has made without dropping a digit
near : (c : After-digits-q) → NearestWhole (radicand c.parts-s.result.m c.parts-s.result.a) c.digits-q.result
near c = subst (λ (n : ℕ). NearestWhole (n * 2 ^ 52) c.digits-q.result) (known c.before).exact c.digits-q.ensures

fits : (c : After-digits-q) → c.parts-s.result.a / 2 * 2 ^ 52 + c.digits-q.result < 0x7ff0_0000_0000_0000
fits c = pattern_below _ _ _ _ c.requires.1 c.parts-s.ensures (near c)

pub overflow_add-result : goal.overflow_add-result
overflow_add-result c = omega (arith, fits c)

pub returns : goal.returns
returns c = (fits c, pattern_is _ _ _ _ c.requires.1 c.parts-s.ensures (near c))
