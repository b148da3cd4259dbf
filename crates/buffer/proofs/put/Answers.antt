-- `buffer::put` meets its contract: where one of the tests fails there is no room.
use mathlib.Core.Path.{◌≡◌, sym, ap, ◌∙◌}
use mathlib.Core.List.{List, ◌++◌}
use Prim.Native.Nat.{◌+◌, ◌-◌}
use native.Mathlib.Omega.{arith}
use borrow.Author.Tests.{le-leb, lt-leb}
use lib.ListN.{length, take, drop}
use lib.Seq.{take_all, length-take-le}
use lib.Ieee.{Float}
use Rattle.std.proofs.lemmas.Slice.{put_mid-paste}
use Rattle.buffer.specs.Pasted.{pasted}
use Rattle.buffer.proofs.put.Goals as goal
use Rattle.buffer.proofs.put.Goals.{else-n-src-via-then-n-src+then-at-out+else-n-out, else-n-src-via-then-n-src+else-at-out, else-n-src-via-else-n-src}

pub returns-then-n-out : goal.returns-then-n-out
unfolding pasted
returns-then-n-out c =
    let a = c.args in
    let src = a.src.now in
    let long : length (take a.n src) ≡ a.n = length-take-le a.n src c.if-n-src.true in
    put_mid-paste a.at (a.at + a.n - a.at) a.out.now _ (take a.n src) a.n c.copy_from_slice.ensures.after (omega arith) (sym long)
    ∙ ap (λ (l : List Float). take a.at a.out.now ++ l ++ drop (a.at + a.n) a.out.now) (take_all a.n (take a.n src) (omega (arith, long)))
    ∙ simp (le-leb _ _ c.if-n-src.true, le-leb _ _ c.if-at-out.true, le-leb _ _ c.if-n-out.true)

pub returns-else-n-src : goal.returns-else-n-src
unfolding pasted
returns-else-n-src c =
    elim c.else-n-src.branch [
      | else-n-src-via-then-n-src+then-at-out+else-n-out w ↦ simp (le-leb _ _ w.if-n-src.true, le-leb _ _ w.if-at-out.true, lt-leb _ _ w.if-n-out.false)
      | else-n-src-via-then-n-src+else-at-out w ↦ simp (le-leb _ _ w.if-n-src.true, lt-leb _ _ w.if-at-out.false)
      | else-n-src-via-else-n-src w ↦ simp (lt-leb _ _ w.if-n-src.false)
    ]
