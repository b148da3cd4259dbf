-- `uniform::uniform` meets its contract: each knot is made by its index.
use Rattle.std.proofs.Common.{rules}
use borrow.Author.Tests.{le-leb, lt-leb}
use lib.Ieee.{nan}
use Rattle.meaning.proofs.Filling.{listed_same}
use Rattle.meaning.proofs.Made.{made}
use Rattle.uniform.specs.Uniform.{uniform_at, uniform_of}
use Rattle.uniform.proofs.uniform.Goals as goal
use Rattle.uniform.proofs.uniform.Goals.{then-n-lt4-via-then-n-lt4, then-n-lt4-via-else-n-lt4+then-n-gt66}

pub returns-then-n-lt4 : goal.returns-then-n-lt4
unfolding uniform_of
returns-then-n-lt4 c =
    elim c.then-n-lt4.branch [
      | then-n-lt4-via-then-n-lt4 w ↦ rw (lt-leb _ _ w.if-n-lt4.true) (listed_same 0 70 _)
      | then-n-lt4-via-else-n-lt4+then-n-gt66 w ↦ rw (le-leb _ _ w.if-n-lt4.false, lt-leb _ _ w.if-n-gt66.true) (listed_same 0 70 _)
    ]

pub returns : goal.returns
unfolding uniform_of
returns c =
    rw (le-leb _ _ c.if-n-lt4.false, le-leb _ _ c.if-n-gt66.false) (made _ (uniform_at c.args.n) nan (λ i y q k. search rules) c.from_fn.ensures.items)
