-- `span::within` meets its contract: a test for each part of its definition.
use borrow.Author.Tests.{lt-ltb, le-ltb, lt-leb, le-leb}
use Rattle.span.specs.Within.{within}
use Rattle.span.proofs.within.Goals as goal
use Rattle.span.proofs.within.Goals.{then-i-lt3-via-then-i-lt3, then-i-lt3-via-else-i-lt3+then-i-n, then-i-lt3-via-else-i-lt3+else-i-n+then-n-gt66, then-i-lt3-via-else-i-lt3+else-i-n+else-n-gt66+then-n-u, then-i-lt3-via-else-i-lt3+else-i-n+else-n-gt66+else-n-u+then-t-u}

pub returns-then-i-lt3-clause-fact_1 : goal.returns-then-i-lt3-clause-fact_1
unfolding within
returns-then-i-lt3-clause-fact_1 c =
    elim c.then-i-lt3.branch [
      | then-i-lt3-via-then-i-lt3 w ↦ rw (lt-leb _ _ w.if-i-lt3.true)
      | then-i-lt3-via-else-i-lt3+then-i-n w ↦ rw (le-leb _ _ w.if-i-lt3.false, le-ltb _ _ w.if-i-n.true)
      | then-i-lt3-via-else-i-lt3+else-i-n+then-n-gt66 w ↦ rw (le-leb _ _ w.if-i-lt3.false, lt-ltb _ _ w.if-i-n.false, lt-leb _ _ w.if-n-gt66.true)
      | then-i-lt3-via-else-i-lt3+else-i-n+else-n-gt66+then-n-u w ↦
          rw (le-leb _ _ w.if-i-lt3.false, lt-ltb _ _ w.if-i-n.false, le-leb _ _ w.if-n-gt66.false, le-ltb _ _ w.if-n-u.true)
      | then-i-lt3-via-else-i-lt3+else-i-n+else-n-gt66+else-n-u+then-t-u w ↦
          rw (le-leb _ _ w.if-i-lt3.false, lt-ltb _ _ w.if-i-n.false, le-leb _ _ w.if-n-gt66.false, lt-ltb _ _ w.if-n-u.false, w.if-t-u.true)
    ]

pub returns-then-u-i-clause-fact_1 : goal.returns-then-u-i-clause-fact_1
unfolding within
returns-then-u-i-clause-fact_1 c =
    rw (le-leb _ _ c.if-i-lt3.false, lt-ltb _ _ c.if-i-n.false, le-leb _ _ c.if-n-gt66.false, lt-ltb _ _ c.if-n-u.false, c.if-t-u.false, c.if-u-i.true)

pub returns-else-u-i-clause-fact_1 : goal.returns-else-u-i-clause-fact_1
unfolding within
returns-else-u-i-clause-fact_1 c =
    rw (le-leb _ _ c.if-i-lt3.false, lt-ltb _ _ c.if-i-n.false, le-leb _ _ c.if-n-gt66.false, lt-ltb _ _ c.if-n-u.false, c.if-t-u.false, c.if-u-i.false)
