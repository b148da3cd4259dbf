-- `sheet_text::Page::put_lines` meets its contract: a turn prints one line.
use mathlib.Core.Path.{◌≡◌}
use Rattle.sheet_read.specs.Grammar.{numbers_at}
use Rattle.sheet_text.specs.Promise.{LinePromises}
use Rattle.sheet_text.proofs.Lines.{Printed}
use Rattle.sheet_text.proofs.Page.put_lines.Given as goal

abbrev pub invariant-loop-j : goal.invariant-loop-j
invariant-loop-j l =
    let x = l.fn.parameters in
    let p = l.initial.self in
    (l.self.room.ghost_name ≡ p.room.ghost_name) × Printed l.c (numbers_at l.s x.start x.count) p.room.now p.at l.j l.self.room.now l.self.at
    × LinePromises l.c (numbers_at l.s x.start x.count) l.j
