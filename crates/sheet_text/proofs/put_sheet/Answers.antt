-- `sheet_text::put_sheet` meets its contract: the numbers of the sheet are read, built and printed.
use Rattle.std.proofs.Common.{◌≡◌, ◌∙◌, rules}
use mathlib.Core.Path.{ap}
use mathlib.Core.Bool.{not}
use lib.Dec.{eqb}
use Rattle.knots.specs.Given.{given, given_list}
use Rattle.curve.specs.Build.{build_of}
use Rattle.fit.specs.Fit.{making}
use Rattle.build.specs.Build.{built}
use Rattle.sheet_read.specs.Read.{sheet_view}
use Rattle.sheet_text.specs.Answer.{points_of, knots_of, given_of, sheet_build}
use Rattle.sheet_text.proofs.Front.{are_given, given_are}
use Rattle.sheet_text.proofs.Sheets.{text-built, promise_built}
use Rattle.sheet_text.proofs.put_sheet.Goals as goal
use Rattle.sheet_text.proofs.put_sheet.Goals.{After-build-b}

is_built : (c : After-build-b) → making (build_of c.build-b.result) c.build-b.new.work ≡ sheet_build c.args.s.now (sheet_view c.args.x) c.args.work.now
is_built c =
    let a = c.args in
    let x = sheet_view a.x in
    let t = c.then_some-given in
    let e : c.take_numbers.new.out ≡ points_of a.s.now x = search rules in
    let f : c.take_numbers-2.new.out ≡ knots_of a.s.now x = search rules in
    let g : given t.result ≡ given_of a.s.now x = ap given t.ensures ∙ are_given _ (not (eqb x.knots.count 0)) in
    let h : given_list (λ k. k.now) t.result ≡ knots_of a.s.now x =
    ap (given_list (λ k. k.now)) t.ensures ∙ given_are _ a.s.now x.knots.start x.knots.count (λ k. k.now) f in
    c.build-b.ensures ∙ λ i. built x.form (e i) (g i) (h i) a.work.now

pub returns-clause-text : goal.returns-clause-text
returns-clause-text c =
    let a = c.args in
    rw (← text-built a.s.now (sheet_view a.x) a.work.now (is_built (goal.at.returns-clause-text c).After-build-b)) c.put_built.ensures.text

pub returns-clause-hull : goal.returns-clause-hull
returns-clause-hull c =
    let a = c.args in
    promise_built a.s.now (sheet_view a.x) a.work.now (is_built (goal.at.returns-clause-hull c).After-build-b) c.put_built.ensures.hull
