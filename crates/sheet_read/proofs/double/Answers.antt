-- `sheet_read::double` meets its contract.
use mathlib.Core.Path.{sym, ap, ◌∙◌}
use Prim.Native.Nat.{ℕ}
use lib.Ieee.{binary64, of_bits}
use Rattle.sheet_read.specs.Number.{double_at}
use Rattle.sheet_read.proofs.Numerals.{nothing_past}
use Rattle.sheet_read.proofs.double.Goals as goal

pub returns-else-at-s : goal.returns-else-at-s
unfolding double_at
returns-else-at-s c =
    let a = c.args in
    ap (λ (b : ℕ). of_bits binary64 b) (sym (nothing_past 16 a.s.now a.at c.if-at-s.false 16))

pub returns-then-at-s : goal.returns-then-at-s
unfolding double_at
returns-then-at-s c = c.f64_from_bits_with_nan.ensures ∙ ap (λ (b : ℕ). of_bits binary64 b) c.number.ensures
