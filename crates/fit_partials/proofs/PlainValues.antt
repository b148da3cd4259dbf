-- The values of the variables, of the parameters and of the knots are those of the plain fit. Assumes nothing.
use mathlib.Core.Path.{◌≡◌, ap, ◌∙◌}
use mathlib.Core.Bool.{Bool, true, ◌&&◌}
use mathlib.Core.List.{List, map}
use Prim.Native.Nat.{ℕ, zero, suc, ◌+◌, ◌-◌, ◌≤◌, ◌<◌}
use native.Mathlib.Omega.{arith}
use borrow.Author.Tests.{le-leb, lt-ltb}
use lib.ListN.{length, get_or}
use lib.Seq.{ext_get_or}
use lib.Ieee.{Float, nan}
use lib.Ieee.Scale.{finite}
use Rattle.meaning.specs.Scalar.{plain}
use Rattle.meaning.specs.Loops.{turns}
use Rattle.meaning.specs.Search.{listed}
use Rattle.meaning.proofs.Tests.{and_left}
use Rattle.meaning.proofs.Filling.{map_listed, length-listed, nth_listed}
use Rattle.partials.specs.declared.Dv.{Dv}
use Rattle.partials.specs.Dual.{count_of, var_dv, fine_dv, dual}
use Rattle.fit.specs.Parameters.{knot_at, fit_parameter}
use Rattle.value_laws.proofs.Values.{value_of, values}
use Rattle.value_laws.proofs.Fit.{map_fit_knot}
use Rattle.fit_partials.specs.Variables.{variables_of}

variable_value : (q : List Float) (i : ℕ) → i ≤ 26 → i < length q → value_of (var_dv q i) ≡ get_or q i nan
unfolding var_dv
variable_value q i a b = rw (le-leb i 26 a, lt-ltb i (length q) b)

pub variables_values : (q : List Float) → length q ≤ 27 → map value_of (variables_of q) ≡ q
unfolding variables_of
variables_values q few =
    map_listed value_of 0 (length q) (var_dv q)
    ∙ ext_get_or nan (listed 0 (length q) (λ i. value_of (var_dv q i))) q (length-listed 0 (length q) (λ i. value_of (var_dv q i)))
    (λ i h.
    let l : i < length q = omega (arith, length-listed 0 (length q) (λ i. value_of (var_dv q i))) in
    nth_listed (length q) i (λ i. value_of (var_dv q i)) nan l ∙ variable_value q i (omega arith) l)

pub knot-value : (q : List Float) (n j : ℕ) → length q ≤ 27
    → value_of (knot_at dual (fit_parameter dual (variables_of q) n) n j) ≡ knot_at plain (fit_parameter plain q n) n j
knot-value q n j few =
    map_fit_knot values (variables_of q) n j ∙ ap (λ (v : List Float). knot_at plain (fit_parameter plain v n) n j) (variables_values q few)

-- a value whose partials are finite, too, is finite
turns_back : (f : ℕ → Bool) (n : ℕ) (b : Bool) → turns 0 n (λ k x. x && f k) b ≡ true → b ≡ true
unfolding turns
turns_back f zero b h = h
turns_back f (suc n) b h = turns_back f n b (and_left (turns 0 n (λ k x. x && f k) b) (f (0 + n)) h)

pub fine-value : (d : Dv) → fine_dv d ≡ true → finite d.v ≡ true
unfolding fine_dv
fine-value d h = turns_back (λ k. finite (get_or d.g k nan)) (count_of d - 0) (finite d.v) h
