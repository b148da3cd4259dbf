-- `fit::put_sides` meets its contract: a copy is made number by number.
use Rattle.std.proofs.Common.{◌∙◌, refl, ap, arith, ◌+◌, [], ◌∷◌, ℕ}
use Rattle.std.proofs.lemmas.Slice.{put_mid-paste}
use native.Mathlib.Nat.{add-zero}
use lib.ListN.{set}
use Rattle.meaning.specs.Loops.{turns}
use Rattle.fit.specs.Stored.{sides_put}
use Rattle.fit.proofs.Six.{copied}
use Rattle.fit.proofs.put_sides.Goals as goal

pub returns : goal.returns
unfolding sides_put turns
returns c =
    let a = c.args in
    let two = a.b.x ∷ a.b.y ∷ [] in
    put_mid-paste a.m _ a.t.now _ two 2 c.copy_from_slice.ensures.after (omega arith) refl ∙ copied 2 two a.m a.t.now (omega arith) (omega arith)
    ∙ ap (λ (j : ℕ). set (set a.t.now j a.b.x) (a.m + 1) a.b.y) (add-zero a.m)
