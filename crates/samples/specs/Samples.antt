-- Parameters spread over the domain. docs/RULES.md, "Samples", decides.
use Rattle.std.specs.Prelude.{cond, List, [], ◌∷◌, ◌++◌, ℕ, ◌+◌, length, ltb, pos, Result, Ok, Err, Float}
use Rattle.std.specs.Float.{binary64}
use Rattle.std.specs.Float.Ieee.{add, sub, mul, div, lt, of_int}
use Rattle.meaning.specs.Scalar.{plain}
use Rattle.meaning.specs.Table.{at1}
use Rattle.meaning.specs.Loops.{run}
use Rattle.refusal.specs.declared.Refusal.{Refusal}
use Rattle.refusal.specs.Refusals.{Verdict, row, is_none}
use Rattle.meaning.specs.Search.{listed}
use Rattle.shape.specs.Shape.{Shape}
use Rattle.shape.specs.Offered.{Offered}
use Rattle.outcome.specs.Outcome.{delivery_rules, Outcome, answering}

-- sample s of `per` between w0 and w1: w0 + (w1 - w0) * s / per, multiplied before divided
abbrev pub sample_at : Float → Float → ℕ → ℕ → Float
sample_at w0 w1 per s = add binary64 w0 (div binary64 (mul binary64 (sub binary64 w1 w0) (of_int binary64 (pos s))) (of_int binary64 (pos per)))

-- all of them where w1 lies above w0
abbrev pub rising_samples : Float → Float → ℕ → List Float
rising_samples w0 w1 per = cond (lt w0 w1) (listed 0 per (sample_at w0 w1 per)) []

-- knot pair i
abbrev pub pair_samples : List Float → ℕ → ℕ → List Float
pair_samples ks per i = rising_samples (at1 plain ks i) (at1 plain ks (i + 1)) per

-- each pair of n + 4 knots in turn
abbrev pub pairs_of : ℕ → List Float → ℕ → List Float
pairs_of n ks per = run 0 (n + 3) (λ i l. l ++ pair_samples ks per i) []

-- and the domain's end
unfoldable pub samples_of : Shape Float → ℕ → List Float
samples_of c per = pairs_of c.n c.knots per ++ (at1 plain c.knots (c.n + 3) ∷ [])

-- an outcome, and beside its slice a lent number: how many numbers were written, or what it was
pub record Counted : Type 0 where
  pub refusal : Verdict
  pub out : List Float
  pub count : ℕ

abbrev pub counted : Verdict → List Float → ℕ → Counted
counted r out n = record { refusal = r; out = out; count = n }

-- the count that is answered, and n with a refusal
abbrev pub count_in : Result ℕ Refusal → ℕ → ℕ
count_in (Ok k) n = k
count_in (Err r) n = n

abbrev pub counting : Outcome → ℕ → ℕ → Counted
counting o k n = counted o.refusal o.out (cond (is_none o.refusal) k n)

unfoldable pub samples_answer : Offered → ℕ → List Float → ℕ → Counted
samples_answer who per out n =
    let numbers = samples_of who.shape per in
    let rules = who.rules ++ (row 13 (ltb 16 per) ∷ delivery_rules numbers (length numbers) out) in
    counting (answering rules numbers (length numbers) out) (length numbers) n
