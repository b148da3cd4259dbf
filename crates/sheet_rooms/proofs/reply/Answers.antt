-- `sheet_rooms::reply` meets its contract: its three rooms are long enough for every input.
use mathlib.Core.Path.{◌≡◌, sym, ap, ◌∙◌}
use Prim.Native.Nat.{min}
use lib.ListN.{length, length-replicate}
use native.Mathlib.Omega.{arith}
use Rattle.sheet_rooms.proofs.Rooms.{replied, promised, replies}
use Rattle.sheet_rooms.proofs.reply.Goals as goal
use Rattle.sheet_rooms.proofs.reply.Goals.{After-min}

long : (c : After-min) → length c.args.room.now ≡ 20878
long c = omega arith

taken : (c : After-min) → c.min.result ≡ min c.args.n (length c.args.room.now)
taken c = c.min.ensures ∙ ap (min c.args.n) (sym (long c))

pub returns-clause-answer : goal.returns-clause-answer
returns-clause-answer c =
    replied c.args.room.now c.args.n (taken (goal.at.returns-clause-answer c).After-min) c.answer-count.ensures.answer (simp length-replicate (omega arith))

pub returns-clause-whole : goal.returns-clause-whole
returns-clause-whole c =
    let h = long (goal.at.returns-clause-whole c).After-min in
    replies c.args.room.now c.args.n (taken (goal.at.returns-clause-whole c).After-min) c.answer-count.ensures.answer
    (simp length-replicate (omega arith)) (omega (arith, h))

pub returns-clause-hull : goal.returns-clause-hull
returns-clause-hull c =
    let e = c.answer-count.ensures in
    promised c.args.room.now c.args.n (taken (goal.at.returns-clause-hull c).After-min) e.answer (simp length-replicate (omega arith)) e.hull
