-- `evaluate::Piece::orders` meets its contract: a turn puts the two coordinates of one order into the room.
use Prim.Native.Nat.{◌+◌, ◌*◌}
use lib.ListN.{set}
use Rattle.meaning.specs.Scalar.{plain}
use Rattle.meaning.proofs.For.{At}
use Rattle.evaluate.specs.Piece.{on_piece}
use Rattle.evaluate.proofs.Piece+f64.orders.Given as goal

abbrev pub invariant-loop-k : goal.invariant-loop-k
invariant-loop-k l =
    let f = on_piece plain l.self l.t l.nd in
    At 0 (l.nd + 1) (λ m r. set (set r (2 * m) (f m).x) (2 * m + 1) (f m).y) l.initial.out l.k l.out
