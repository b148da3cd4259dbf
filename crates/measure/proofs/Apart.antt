-- The two cases of an answered interval are told apart, so that an equation for one allows one answer. Assumes nothing.
use mathlib.Core.Path.{◌≡◌, sym, ap}
use native.Mathlib.Nat.{suc-ne-zero}
use lib.ListN.{length, get_or}
use Rattle.std.specs.Prelude.{Result, Ok, Err}
use Rattle.refusal.specs.declared.Refusal.{Refusal}
use Rattle.refusal.proofs.Rows.{number_of, same_rule}
use Rattle.outcome.specs.Told.{Values}
use Rattle.measure.specs.declared.Interval.{Interval}
use Rattle.measure.specs.Measure.{interval}

pub interval-apart : (r s : Result Interval Refusal) → interval r ≡ interval s → r ≡ s
interval-apart (Ok c) (Ok d) e =
    let first : c.from ≡ d.from = ap (λ (v : Values). get_or v.values 0 c.from) e in
    let last : c.to ≡ d.to = ap (λ (v : Values). get_or v.values 1 c.from) e in
    λ i. Ok (record { from = first i; to = last i })
interval-apart (Ok c) (Err k) e = absurd (suc-ne-zero 1 (ap (λ (v : Values). length v.values) e))
interval-apart (Err k) (Ok d) e = absurd (suc-ne-zero 1 (ap (λ (v : Values). length v.values) (sym e)))
interval-apart (Err k) (Err j) e = ap Err (same_rule k j (number_of (ap (λ (v : Values). v.refusal) e)))
