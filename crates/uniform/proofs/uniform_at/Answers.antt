-- `uniform::uniform_at` meets its contract.
use borrow.Author.Tests.{lt-ltb, le-ltb}
use Rattle.uniform.specs.Uniform.{uniform_at}
use Rattle.uniform.proofs.uniform_at.Goals as goal

pub returns-then-j-lt4 : goal.returns-then-j-lt4
unfolding uniform_at
returns-then-j-lt4 c = rw (lt-ltb _ _ c.if-j-lt4.true)

pub returns-then-j-n : goal.returns-then-j-n
unfolding uniform_at
returns-then-j-n c = rw (le-ltb _ _ c.if-j-lt4.false, lt-ltb _ _ c.if-j-n.true)

pub returns-then-j-n-2 : goal.returns-then-j-n-2
unfolding uniform_at
returns-then-j-n-2 c = rw (le-ltb _ _ c.if-j-lt4.false, le-ltb _ _ c.if-j-n.false, lt-ltb _ _ c.if-j-n-2.true)

pub returns-else-j-n-2 : goal.returns-else-j-n-2
unfolding uniform_at
returns-else-j-n-2 c = rw (le-ltb _ _ c.if-j-lt4.false, le-ltb _ _ c.if-j-n.false, le-ltb _ _ c.if-j-n-2.false)
