-- What a call leaves behind, from the tests that it makes one after the other. Assumes nothing.
use mathlib.Core.Path.{◌≡◌, refl, sym, ap, ◌∙◌, subst}
use mathlib.Core.Bool.{Bool, true, false, not}
use mathlib.Core.List.{List, [], ◌∷◌, ◌++◌}
use Prim.Native.Nat.{ℕ, suc, ◌-◌, ◌≤◌}
use native.Mathlib.Nat.{suc-ne-zero}
use native.Mathlib.Omega.{arith}
use borrow.Author.Tests.{le-leb, eq-eqb, ne_eqb}
use lib.Dec.{T}
use lib.ListN.{length, take, drop, take-append-drop}
use lib.Seq.{paste, length-take-le, take-append-le}
use lib.Ieee.{Float}
use Rattle.buffer.specs.Pasted.{pasted}
use Rattle.refusal.specs.Refusals.{Verdict, Row, row, first_of, refusal, none, passes}
use Rattle.refusal.proofs.Rows.{Passed, Refused, number_of, numbered, row-applies, row-passes, no_rows, second_decides, first_decides, passed_none}
use Rattle.outcome.specs.Outcome.{delivery_rules, Outcome, outcome, answering}
use Rattle.outcome.specs.Told.{Values, telling}

-- whether rules let it pass
pub passes_true : (rules : List Row) → Passed rules → passes rules ≡ true
passes_true rules z = eq-eqb (first_of rules).number 0 z

pub passes_false : (rules : List Row) → Refused rules → passes rules ≡ false
passes_false rules h = ne_eqb (first_of rules).number 0 h

-- ---- numbers in a lent slice

-- an equation of outcomes as a record, so that a law finds the rules, the numbers and the slice in it
pub record Leaves (rules : List Row) (numbers : List Float) (k : ℕ) (out : List Float) (o : Outcome) : Type 0 where
  pub is : o ≡ answering rules numbers k out

module _ {numbers : List Float} {k : ℕ} {out : List Float} where
  pub leaves : {rules : List Row} {o : Outcome} → Leaves rules numbers k out o → o ≡ answering rules numbers k out
  leaves a = a.is

  -- rules that say the same
  same_rules : {a b : List Row} {o : Outcome} → first_of b ≡ first_of a → Leaves a numbers k out o → Leaves b numbers k out o
  unfolding answering
  same_rules e l = record { is = rw e l.is }

  -- nothing is written where a rule applies, and all of it where none does
  pub left : (rules : List Row) {r : Verdict} → r ≡ first_of rules → (r.number ≡ 0 → ⊥) → Leaves rules numbers k out (outcome r out)
  unfolding answering
  left rules e h = record { is = rw (passes_false rules (λ z. h (number_of e ∙ z))) (ap (λ (x : Verdict). outcome x out) e) }

  pub written : (rules : List Row) {r : Verdict} {out' : List Float} → r ≡ first_of rules → Passed rules → out' ≡ paste out 0 numbers k → Leaves rules numbers k out (outcome r out')
  unfolding answering
  written rules e z q = record { is = rw (passes_true rules z) (λ i. outcome (e i) (q i)) }

  -- a row applies: its refusal is answered
  pub stop : (n : ℕ) {b : Bool} {rs : List Row} {r : Verdict} → r ≡ refusal (suc n) → b ≡ true → Leaves (row (suc n) b ∷ rs) numbers k out (outcome r out)
  stop n {b} {rs} e h = left (row (suc n) b ∷ rs) (e ∙ sym (row-applies (row (suc n) b) rs h)) (λ z. suc-ne-zero n (number_of (sym e) ∙ z))

  -- a row does not apply
  pub pass : (n : ℕ) {b : Bool} {rs : List Row} {o : Outcome} → b ≡ false → Leaves rs numbers k out o → Leaves (row n b ∷ rs) numbers k out o
  pass n {b} {rs} h a = same_rules (row-passes (row n b) rs h) a

  -- no row is left
  pub done : {r : Verdict} {out' : List Float} → r ≡ none → out' ≡ paste out 0 numbers k → Leaves [] numbers k out (outcome r out')
  done e q = written [] (e ∙ sym no_rows) (number_of no_rows) q

  -- the curve's own rules come first
  pub refused : (rules rs : List Row) {r : Verdict} → r ≡ first_of rules → (r.number ≡ 0 → ⊥) → Leaves (rules ++ rs) numbers k out (outcome r out)
  refused rules rs e h = left (rules ++ rs) (e ∙ sym (first_decides rules rs (λ z. h (number_of e ∙ z)))) h

  pub after : (rules : List Row) {rs : List Row} {o : Outcome} → T (numbered rules) → Passed rules → Leaves rs numbers k out o → Leaves (rules ++ rs) numbers k out o
  after rules {rs} t z a = same_rules (second_decides rules rs t z) a

-- numbers for which there is room are put in whole
pub put_all : (numbers : List Float) (k : ℕ) (out : List Float) → k ≤ length numbers → k ≤ length out → pasted numbers k out 0 ≡ paste out 0 numbers k
unfolding pasted
put_all numbers k out g h = rw (le-leb k (length numbers) g, le-leb 0 (length out) (omega arith), le-leb k (length out - 0) (omega arith))

-- the first n of them stand at the front
pub put_first : (n k : ℕ) (out numbers : List Float) → n ≤ k → k ≤ length numbers → take n (paste out 0 numbers k) ≡ take n numbers
put_first n k out numbers h g =
    let few : n ≤ length (take k numbers) = omega (arith, length-take-le k numbers g) in
    take-append-le n (take k numbers) _ few ∙ sym (take-append-le n (take k numbers) (drop k numbers) few) ∙ ap (take n) (take-append-drop k numbers)

-- numbers that were delivered are those that they are equal to
pub delivered_as : (k : ℕ) (out : List Float) {l l' : List Float} {o : Outcome} → l ≡ l' → o ≡ answering (delivery_rules l k out) l k out → Leaves (delivery_rules l' k out) l' k out o
delivered_as k out {l} {l'} {o} e a = record { is = subst (λ (x : List Float). o ≡ answering (delivery_rules x k out) x k out) e a }

-- ---- values, or a refusal

pub record Tells (rules : List Row) (values : List Float) (o : Values) : Type 0 where
  pub is : o ≡ telling rules values

abbrev pub untold : Verdict → Values
untold r = record { refusal = r; values = [] }

module _ {values : List Float} where
  pub tells : {rules : List Row} {o : Values} → Tells rules values o → o ≡ telling rules values
  tells a = a.is

  same_telling : {a b : List Row} {o : Values} → first_of b ≡ first_of a → Tells a values o → Tells b values o
  unfolding telling
  same_telling e l = record { is = rw e l.is }

  pub left-told : (rules : List Row) {r : Verdict} → r ≡ first_of rules → (r.number ≡ 0 → ⊥) → Tells rules values (untold r)
  unfolding telling
  left-told rules e h = record { is = rw (passes_false rules (λ z. h (number_of e ∙ z))) (ap untold e) }

  pub stop_told : (n : ℕ) {b : Bool} {rs : List Row} {r : Verdict} → r ≡ refusal (suc n) → b ≡ true → Tells (row (suc n) b ∷ rs) values (untold r)
  stop_told n {b} {rs} e h = left-told (row (suc n) b ∷ rs) (e ∙ sym (row-applies (row (suc n) b) rs h)) (λ z. suc-ne-zero n (number_of (sym e) ∙ z))

  pub pass_told : (n : ℕ) {b : Bool} {rs : List Row} {o : Values} → b ≡ false → Tells rs values o → Tells (row n b ∷ rs) values o
  pass_told n {b} {rs} h a = same_telling (row-passes (row n b) rs h) a

  pub done-told : Tells [] values (record { refusal = none; values = values })
  unfolding telling first_of
  done-told = record { is = refl }

  pub refused_told : (rules rs : List Row) {r : Verdict} → r ≡ first_of rules → (r.number ≡ 0 → ⊥) → Tells (rules ++ rs) values (untold r)
  refused_told rules rs e h = left-told (rules ++ rs) (e ∙ sym (first_decides rules rs (λ z. h (number_of e ∙ z)))) h

  pub after-told : (rules : List Row) {rs : List Row} {o : Values} → T (numbered rules) → Passed rules → Tells rs values o → Tells (rules ++ rs) values o
  after-told rules {rs} t z a = same_telling (second_decides rules rs t z) a

  -- the curve's own rules are all there are
  pub passed_told : (rules : List Row) {o : Values} → T (numbered rules) → Passed rules → Tells [] values o → Tells rules values o
  passed_told rules t z a = same_telling (passed_none rules t z ∙ sym no_rows) a

-- a test that failed, and one that passed
pub not_told : {a b t : Bool} → a ≡ b → not a ≡ t → not b ≡ t
not_told e h = ap not (sym e) ∙ h
