-- `c_values::write` meets its contract: the value, and the partials after it.
use mathlib.Core.Path.{◌≡◌, sym, ◌∙◌}
use Prim.Native.Nat.{◌+◌, ◌-◌}
use native.Mathlib.Omega.{arith}
use lib.ListN.{length, set}
use borrow.Author.Rules.{rules}
use Rattle.std.proofs.lemmas.Slice.{put_mid-paste}
use Rattle.c_values.proofs.Slices.{head_and_rest}
use Rattle.c_values.proofs.write.Goals as goal

pub returns-clause-out_after : goal.returns-clause-out_after
returns-clause-out_after c =
    let a = c.args in
    let h = c.well_formed in
    let full : length a.d.g ≡ 27 = search rules in
    put_mid-paste (a.at + 1) (a.at + 28 - (a.at + 1)) (set a.out.now a.at a.d.v) _ a.d.g 27 c.copy_from_slice.ensures.after (omega arith) (sym full)
    ∙ head_and_rest a.out.now a.at a.d.v a.d.g c.requires
