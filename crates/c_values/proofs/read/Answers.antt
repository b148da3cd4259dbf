-- `c_values::read` meets its contract: each of the 27 partials is an entry.
use mathlib.Core.Path.{◌∙◌, sym}
use Prim.Native.Nat.{ℕ, ◌+◌}
use native.Mathlib.Nat.{le_refl}
use lib.Ieee.{Float, nan}
use borrow.Author.Rules.{rules}
use Rattle.meaning.specs.Scalar.{zero64}
use Rattle.meaning.specs.Search.{listed}
use Rattle.meaning.proofs.Filling.{set_front}
use Rattle.meaning.proofs.Made.{made_of}
use Rattle.partials.specs.Dual.{partials}
use Rattle.c_values.specs.Crossing.{entry_of, read_dv}
use Rattle.c_values.proofs.read.Goals as goal

pub returns : goal.returns
unfolding read_dv partials listed
returns c =
    let a = c.args in
    let h : ℕ → Float = λ k. entry_of a.s.now (a.at + 1 + k) in
    rw (
      c.entry.ensures,
      made_of h nan c.from_fn.ensures.items (λ k y q e. (search rules, search rules)) ∙ sym (set_front h zero64 27 27 (le_refl 27)),
    )
