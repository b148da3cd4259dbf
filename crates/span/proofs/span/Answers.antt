-- `span::span` meets its contract.
use mathlib.Core.Path.{◌∙◌}
use native.Mathlib.Omega.{arith}
use borrow.Author.Tests.{lt-ltb, le-ltb, le-leb}
use Rattle.span.specs.Counting.{counted_of}
use Rattle.span.proofs.Spans.{reaches, counted-span}
use Rattle.span.proofs.span.Goals as goal
use Rattle.span.proofs.span.Goals.{then-n-lt4-via-then-n-lt4, then-n-lt4-via-else-n-lt4+then-n-gt66, then-n-lt4-via-else-n-lt4+else-n-gt66+then-n-u}

pub returns-then-n-lt4-clause-fact_1 : goal.returns-then-n-lt4-clause-fact_1
unfolding counted_of
returns-then-n-lt4-clause-fact_1 c =
    elim c.then-n-lt4.branch [
      | then-n-lt4-via-then-n-lt4 w ↦ rw (lt-ltb _ _ w.if-n-lt4.true)
      | then-n-lt4-via-else-n-lt4+then-n-gt66 w ↦ rw (le-ltb _ _ w.if-n-lt4.false, lt-ltb _ _ w.if-n-gt66.true)
      | then-n-lt4-via-else-n-lt4+else-n-gt66+then-n-u w ↦ rw (le-ltb _ _ w.if-n-lt4.false, le-ltb _ _ w.if-n-gt66.false, le-leb _ _ w.if-n-u.true)
    ]

pub returns-then-n-lt4-clause-fact_2 : goal.returns-then-n-lt4-clause-fact_2
returns-then-n-lt4-clause-fact_2 c =
    λ f g up.
    elim c.then-n-lt4.branch [
      | then-n-lt4-via-then-n-lt4 w ↦ absurd (omega (arith, f, w.if-n-lt4.true))
      | then-n-lt4-via-else-n-lt4+then-n-gt66 w ↦ absurd (omega (arith, g, w.if-n-gt66.true))
      | then-n-lt4-via-else-n-lt4+else-n-gt66+then-n-u w ↦ absurd (omega (arith, reaches c.args.u.now c.args.n up, w.if-n-u.true))
    ]

pub returns-clause-fact_2 : goal.returns-clause-fact_2
returns-clause-fact_2 c = λ f g up. c.counted.ensures.fact_1 ∙ counted-span _ _ _ f g up
