-- What a call leaves behind that is asked many questions: from the loop that asks them to the equation, and from the equation back to each question by
-- itself. Assumes nothing.
use mathlib.Core.Path.{◌≡◌, refl, sym, ap, ◌∙◌, subst}
use mathlib.Core.List.{List, [], ◌∷◌, ◌++◌}
use Prim.Native.Nat.{ℕ, suc, ◌+◌, ◌*◌, ◌≤◌, ◌<◌}
use native.Mathlib.Nat.{mul-le-mul_right}
use native.Mathlib.Numerals.{add-one}
use native.Mathlib.Omega.{arith}
use lib.ListN.{length, get_or, set, take, drop}
use lib.Ieee.{Float}
use Rattle.refusal.specs.Refusals.{Verdict, Row, refusal, none, first_of}
use Rattle.refusal.proofs.Rows.{Passed, number_of}
use Rattle.outcome.specs.Outcome.{Outcome, outcome}
use Rattle.outcome.proofs.Doors.{passes_true, passes_false}
use Rattle.many.specs.Many.{place_of, in_places, Many, many, answering_many}
use Rattle.many.proofs.Places.{none_filled, length-places, next_place, one_filled, place_filled, place-long, one_set, one_stands}

-- a question leaves a place as long as it was
abbrev pub Keeps : (ℕ → List Float → Outcome) → Type 0
Keeps each = (k : ℕ) (place : List Float) → length (each k place).out ≡ length place

-- the two slices once the first k questions are answered: what the loop keeps
pub record Asked (w : ℕ) (each : ℕ → List Float → Outcome) (out : List Float) (refusals : List ℕ) (k : ℕ) (out' : List Float) (refusals' : List ℕ)
    : Type 0 where
  pub numbers : out' ≡ in_places k w (λ j. (each j (place_of w j out)).out) out
  pub told : refusals' ≡ in_places k 1 (λ j. (each j (place_of w j out)).refusal.number ∷ []) refusals

pub asked_all : {w : ℕ} {each : ℕ → List Float → Outcome} {out : List Float} {refusals : List ℕ} {k n : ℕ} {out' : List Float} {refusals' : List ℕ}
    → Asked w each out refusals k out' refusals' → k ≡ n → Asked w each out refusals n out' refusals'
asked_all {w} {each} {out} {refusals} {k} {n} {out'} {refusals'} a e = subst (λ (m : ℕ). Asked w each out refusals m out' refusals') e a

module _ (w : ℕ) (each : ℕ → List Float → Outcome) (out : List Float) (refusals : List ℕ) where
  abbrev left : ℕ → Outcome
  left k = each k (place_of w k out)

  pub asked-first : Asked w each out refusals 0 out refusals
  asked-first = record { numbers = none_filled w (λ j. (left j).out) out; told = none_filled 1 (λ j. (left j).refusal.number ∷ []) refusals }

  module _ (n : ℕ) (room : n * w ≤ length out) (keeps : Keeps each) where
    wide : (k : ℕ) → k < n → length (left k).out ≡ w
    wide k h = keeps k (place_of w k out) ∙ place-long w k n out room h

    -- both slices stay as long as they were
    pub asked-long : n ≤ length refusals → {k : ℕ} {out' : List Float} {refusals' : List ℕ} → Asked w each out refusals k out' refusals' → k ≤ n
        → (length out' ≡ length out) × (length refusals' ≡ length refusals)
    asked-long many {k} a h =
        let m = mul-le-mul_right w h in (
          ap length a.numbers ∙ length-places w (λ j. (left j).out) out k (λ j g. wide j (omega arith)) (omega arith),
          ap length a.told ∙ length-places 1 (λ j. (left j).refusal.number ∷ []) refusals k (λ j g. refl) (omega arith),
        )

    -- one question: o is what it leaves of its place as it stands now
    pub asked_next : n ≤ length refusals → {k : ℕ} {out' next : List Float} {refusals' told : List ℕ} → Asked w each out refusals k out' refusals' → k < n
        → (o : Outcome) → o ≡ each k (place_of w k out') → next ≡ take (k * w) out' ++ (o.out ++ drop (k * w + w) out')
        → told ≡ set refusals' k o.refusal.number
        → Asked w each out refusals (k + 1) next told
    asked_next many {k} {out'} {next} {refusals'} {told} a h o e q p =
        let f : ℕ → List Float = λ j. (left j).out in
        let same : o ≡ left k =
        e ∙ ap (each k) (ap (place_of w k) a.numbers ∙ next_place w f out k (λ j g. wide j (omega arith))) in
        let filled : next ≡ in_places (suc k) w f out =
        q ∙ rw (same, a.numbers) (one_filled w f out k (λ j g. wide j (omega arith))) in
        let set : told ≡ in_places (suc k) 1 (λ j. (left j).refusal.number ∷ []) refusals =
        p ∙ rw same (one_set (λ j. (left j).refusal.number) refusals k (omega arith) a.told) in
        rw (add-one k) (record { numbers = filled; told = set })

    -- the equation, and each question by itself
    module _ (rules : List Row) where
      pub asked_alone : {r : Verdict} {out' : List Float} {refusals' : List ℕ} → many r out' refusals' ≡ answering_many rules n w each out refusals → r ≡ none
          → (k : ℕ) → k < n → outcome (refusal (get_or refusals' k 0)) (place_of w k out') ≡ each k (place_of w k out)
      unfolding answering_many
      asked_alone {r} {out'} {refusals'} a z k h =
          let passed : Passed rules = ap (λ (m : Many). m.refusal.number) (sym a) ∙ number_of z in
          let b = rw (passes_true rules passed) at a in
          let place : place_of w k out' ≡ (left k).out =
          ap (λ (m : Many). place_of w k m.out) b ∙ place_filled w (λ j. (left j).out) out n k wide h in
          let number : get_or refusals' k 0 ≡ (left k).refusal.number =
          ap (λ (m : Many). get_or m.refusals k 0) b ∙ one_stands (λ j. (left j).refusal.number) refusals n k 0 h in
          λ i. outcome (refusal (number i)) (place i)

  module _ (rules : List Row) (n : ℕ) {r : Verdict} (e : r ≡ first_of rules) where
    pub many_refused : (r.number ≡ 0 → ⊥) → many r out refusals ≡ answering_many rules n w each out refusals
    unfolding answering_many
    many_refused h = rw (passes_false rules (λ z. h (number_of e ∙ z))) (ap (λ (x : Verdict). many x out refusals) e)

    pub many-answered : Passed rules → {out' : List Float} {refusals' : List ℕ} → Asked w each out refusals n out' refusals'
        → many r out' refusals' ≡ answering_many rules n w each out refusals
    unfolding answering_many
    many-answered z a = rw (passes_true rules z) (λ i. many (e i) (a.numbers i) (a.told i))
