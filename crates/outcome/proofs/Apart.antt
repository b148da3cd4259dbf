-- An answer's two cases are told apart, so that an equation for one allows one answer. Assumes nothing.
use mathlib.Core.Path.{◌≡◌, sym, ap}
use mathlib.Core.List.{List, [], ◌∷◌}
use native.Mathlib.Nat.{suc-ne-zero}
use lib.ListN.{length}
use lib.Ieee.{Float}
use Rattle.std.specs.Prelude.{Result, Ok, Err}
use Rattle.refusal.specs.declared.Refusal.{Refusal}
use Rattle.refusal.proofs.Rows.{same_rule}
use Rattle.outcome.specs.Told.{Values, told}

pub told-apart : (r s : Result Float Refusal) → told r ≡ told s → r ≡ s
told-apart (Ok t) (Ok x) e = ap Ok (ap (λ (v : Values). head v.values) e)
  where
    head : List Float → Float
    head [] = t
    head (y ∷ ys) = y
told-apart (Ok t) (Err k) e = absurd (suc-ne-zero 0 (ap (λ (v : Values). length v.values) e))
told-apart (Err k) (Ok x) e = absurd (suc-ne-zero 0 (ap (λ (v : Values). length v.values) (sym e)))
told-apart (Err k) (Err j) e = ap Err (same_rule k j (ap (λ (v : Values). v.refusal.number) e))
