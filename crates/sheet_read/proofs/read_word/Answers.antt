-- `sheet_read::read_word` meets its contract.
use Rattle.std.proofs.Common.{◌≡◌, ◌∙◌, ap, ℕ, ◌+◌, Bool, List, length, drop, eqb, arith}
use Rattle.std.specs.Bool.{then_some}
use Rattle.std.specs.List.{starts_with}
use Rattle.std.proofs.lemmas.List.{length-drop, take_all}
use Rattle.sheet_read.proofs.Words.{word_begins, no_word_past}
use Rattle.sheet_read.proofs.read_word.Goals as goal

pub returns-in_err-get : goal.returns-in_err-get
returns-in_err-get c =
    let a = c.args in
    rw (no_word_past a.s.now a.w.now a.at c.requires.fact_3 c.requires.fact_2.0 (omega (arith, c.in_err-get.ensures.lookup))) c.from_residual.ensures

pub returns : goal.returns
returns c =
    let a = c.args in
    let rest : c.in_ok-get.field-0.now ≡ drop a.at a.s.now = c.in_ok-get.ensures.lookup.0.2 ∙ take_all _ _ (omega (arith, length-drop a.at a.s.now)) in
    c.then_some.ensures
    ∙ ap (λ (b : Bool). then_some b (a.at + length a.w.now))
    (c.starts_with.ensures.value ∙ ap (λ (t : List ℕ). starts_with eqb t a.w.now) rest ∙ word_begins a.s.now a.w.now a.at c.requires.fact_3)
