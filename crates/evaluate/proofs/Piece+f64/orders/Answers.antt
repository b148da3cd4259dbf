-- `evaluate::Piece::orders` meets its contract: a turn puts the two coordinates of one order into the room.
use native.Mathlib.Omega.{arith}
use Rattle.std.proofs.Common.{rules}
use mathlib.Core.Path.{◌≡◌, sym, ap, ◌∙◌}
use Prim.Native.Nat.{ℕ, ◌+◌, ◌*◌, ◌<◌}
use lib.ListN.{length, set, length-take}
use lib.Seq.{get_or-take}
use lib.Ieee.{Float}
use Rattle.meaning.specs.Scalar.{plain}
use Rattle.meaning.proofs.For.{first, next, last}
use Rattle.plane.specs.Vector.{Vector}
use Rattle.evaluate.specs.Point.{placed}
use Rattle.evaluate.specs.Piece.{on_window, on_piece}
use Rattle.evaluate.proofs.Rooms.{point_alone}
use Rattle.evaluate.proofs.Piece+f64.orders.Goals as goal

pub returns-then-nd-eq0 : goal.returns-then-nd-eq0
returns-then-nd-eq0 c =
    let f : ℕ → ℕ → Vector Float = on_piece plain c.args.self.now c.args.t in
    let e = c.if-nd-eq0.true in
    c.alone.ensures ∙ point_alone (f c.args.nd) c.args.nd e (c.inside.ensures ∙ ap (λ (m : ℕ). f m 0) (sym e))

pub loop-k-init : goal.loop-k-init
loop-k-init c = first (omega arith)

pub loop-k-preserved : goal.loop-k-preserved
unfolding on_window
loop-k-preserved c =
    let l = c.loop-k in
    let h : l.k < c.args.nd + 1 = omega (arith, length-take (c.args.nd + 1) c.basis-ders.result) in
    next l.invariant h
    (ap (λ (p : Vector Float). set (set l.out (2 * l.k) p.x) (2 * l.k + 1) p.y) c.combine-p.ensures ∙ rw (get_or-take, c.basis-ders.ensures))

pub returns : goal.returns
unfolding placed
returns c =
    let h = c.basis-ders.type_inv in
    let n : length c.basis-ders.result ≡ 5 = search rules in
    last c.loop-k.invariant (omega (arith, length-take (c.args.nd + 1) c.basis-ders.result))
