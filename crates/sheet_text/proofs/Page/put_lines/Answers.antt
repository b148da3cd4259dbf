-- `sheet_text::Page::put_lines` meets its contract: a turn prints one line.
use mathlib.Core.Path.{refl, ◌∙◌, subst}
use native.Mathlib.Omega.{arith}
use borrow.Author.Count.{below_more}
use Rattle.meaning.specs.Scalar.{plain}
use Rattle.meaning.specs.Table.{at1}
use Rattle.sheet_read.specs.Grammar.{numbers_at}
use Rattle.sheet_text.specs.Promise.{LinePromise}
use Rattle.sheet_text.proofs.Front.{numbers-long, number_is}
use Rattle.sheet_text.proofs.Lines.{printed_first, printed_next, printed_all}
use Rattle.sheet_text.proofs.Page.put_lines.Goals as goal

pub loop-j-init : goal.loop-j-init
loop-j-init c = (refl, printed_first _ (omega arith), λ k h. absurd (omega arith))

pub loop-j-preserved : goal.loop-j-preserved
loop-j-preserved c =
    let l = c.loop-j in
    let a = c.args in
    let x = a.parameters in
    let t = c.double.ensures ∙ number_is a.s.now x.start x.count l.j (omega arith) in
    let p = c.put_line.ensures in (
      p.same ∙ l.invariant.0,
      printed_next _ l.invariant.1 (omega (arith, numbers-long a.s.now x.start x.count)) t p.text,
      below_more (λ k. LinePromise a.c.now (at1 plain (numbers_at a.s.now x.start x.count) k)) l.j l.invariant.2 (subst (LinePromise a.c.now) t p.hull),
    )

pub returns-clause-text : goal.returns-clause-text
returns-clause-text c =
    let a = c.args in
    printed_all _ c.loop-j.invariant.1 (omega (arith, numbers-long a.s.now a.parameters.start a.parameters.count))

pub returns-clause-hull : goal.returns-clause-hull
returns-clause-hull c = λ k h. c.loop-j.invariant.2 k (omega arith)
