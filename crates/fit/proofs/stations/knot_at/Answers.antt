-- `fit::stations::knot_at` meets its contract: each case of the definition.
use Rattle.std.proofs.Common.{◌∙◌, sym, ◌+◌, ◌-◌, ◌<◌, ◌≤◌, length, arith}
use Rattle.std.proofs.lemmas.List.{get_or_default}
use borrow.Author.Tests.{lt-ltb, le-ltb, ltb-true, ltb-false}
use Rattle.fit.specs.Parameters.{knot_at}
use Rattle.fit.proofs.stations.knot_at.Goals as goal
use Rattle.fit.proofs.stations.knot_at.Goals.{then-j-lt6, else-j-lt6}

pub returns-then-j-lt4 : goal.returns-then-j-lt4
unfolding knot_at
returns-then-j-lt4 g c = rw (lt-ltb _ _ c.if-j-lt4.true) c.cst.ensures

pub returns-then-j-n : goal.returns-then-j-n
unfolding knot_at
returns-then-j-n g c =
    let n = length c.args.parameters.now in
    rw (le-ltb _ _ c.if-j-lt4.false, lt-ltb c.args.j (n + 2) (omega arith))
    (c.index-parameters-j.is ∙ get_or_default c.args.parameters.now (c.args.j - 3) _ _ (omega arith))

pub returns-then-j-n-2 : goal.returns-then-j-n-2
unfolding knot_at
returns-then-j-n-2 g c =
    let n = length c.args.parameters.now in
    let low : c.args.j < n + 6 = elim c.if-j-lt6.branch [
      | then-j-lt6 w ↦ omega arith
      | else-j-lt6 w ↦ let h = ltb-true (c.args.j - 6) n (sym w.value-is ∙ c.if-j-n-2.true) in omega arith
    ] in
    rw (le-ltb _ _ c.if-j-lt4.false, le-ltb c.args.j (n + 2) (omega arith), lt-ltb c.args.j (n + 6) low) c.cst-then-j-n-2.ensures

pub returns-else-j-n-2 : goal.returns-else-j-n-2
unfolding knot_at
returns-else-j-n-2 g c =
    let n = length c.args.parameters.now in
    let high : n + 6 ≤ c.args.j = elim c.if-j-lt6.branch [
      | then-j-lt6 w ↦ let h = ltb-false c.args.j 6 (sym w.value-is ∙ c.if-j-n-2.false) in absurd (omega arith)
      | else-j-lt6 w ↦ let h = ltb-false (c.args.j - 6) n (sym w.value-is ∙ c.if-j-n-2.false) in omega arith
    ] in
    rw (le-ltb _ _ c.if-j-lt4.false, le-ltb c.args.j (n + 2) (omega arith), le-ltb c.args.j (n + 6) high) c.cst-else-j-n-2.ensures
