-- `fit_partials::piece_at` meets its contract.
use mathlib.Core.Path.{sym, ◌∙◌}
use borrow.Author.Tests.{not-true, not-false}
use Rattle.fit_partials.proofs.Answered.{able-room, able_piece, able-doubles, able-counts, unable_piece, unable_doubles, unable_counts}
use mathlib.Core.Path.{ap}
use mathlib.Core.Bool.{not}
use Rattle.fit_partials.proofs.piece_at.Goals as goal

pub returns-then-not-has_room : goal.returns-then-not-has_room
returns-then-not-has_room c =
    let a = c.args in
    let e = sym c.has_room.ensures ∙ not-true c.has_room.result (ap not c.if-not-has_room.true) in record {
      answer = unable_piece a.q.now a.c a.t a.w.now a.ns.now e;
      doubles = unable_doubles a.q.now a.c a.t a.w.now a.ns.now e;
      counts = unable_counts a.q.now a.c a.t a.w.now a.ns.now e;
    }

pub piece_through-requires : goal.piece_through-requires
piece_through-requires c =
    let a = c.args in
    able-room a.q.now a.c a.t a.w.now a.ns.now (sym c.has_room.ensures ∙ not-false c.has_room.result (ap not c.if-not-has_room.false))

pub returns : goal.returns
returns c =
    let a = c.args in
    let e = sym c.has_room.ensures ∙ not-false c.has_room.result (ap not c.if-not-has_room.false) in
    let r = c.piece_through.ensures in record {
      answer = r.answer ∙ able_piece a.q.now a.c a.t a.w.now a.ns.now e;
      doubles = r.doubles ∙ able-doubles a.q.now a.c a.t a.w.now a.ns.now e;
      counts = r.counts ∙ able-counts a.q.now a.c a.t a.w.now a.ns.now e;
    }
