-- From the build of a sheet to its answer. Assumes nothing.
use mathlib.Core.Path.{◌≡◌, sym, ap, ◌∙◌, subst}
use mathlib.Core.Bool.{true, false}
use mathlib.Core.List.{List}
use Prim.Native.Nat.{ℕ, ◌≤◌}
use native.Mathlib.Nat.{le_trans}
use native.Mathlib.Omega.{arith}
use borrow.Author.Tests.{ltb-false}
use lib.ListN.{length}
use lib.Ieee.{Float}
use Rattle.refusal.specs.Refusals.{refusal}
use Rattle.curve.specs.Build.{Built}
use Rattle.fit.specs.Fit.{Making, making}
use Rattle.meaning.proofs.Tests.{by_two}
use Rattle.sheet_read.proofs.Sections.{limits}
use Rattle.sheet_read.specs.Grammar.{Sheet, sheet_of}
use Rattle.sheet_text.specs.Printed.{refusal_text}
use Rattle.sheet_text.specs.Curves.{built_text}
use Rattle.sheet_text.specs.Answer.{parameters_of, sheet_build, sheet_text, sheet_work, answer_text, answer_work, too_short, Answered}
use Rattle.sheet_text.specs.Promise.{BuiltPromise, ReadPromise}
use Rattle.sheet_text.proofs.Front.{numbers-long}
use Rattle.sheet_text.proofs.Putting.{refusal_short}
use Rattle.sheet_text.proofs.Lines.{built_short}

-- ---- the build

module _ (s : List ℕ) (x : Sheet) (work : List Float) {b : Built} {work' : List Float} (h : making b work' ≡ sheet_build s x work) where
  pub text-built : built_text b (parameters_of s x) ≡ sheet_text s x work
  unfolding sheet_text
  text-built = ap (λ (m : Making). built_text m.built (parameters_of s x)) h

  pub promise_built : BuiltPromise b (parameters_of s x) x.parameters.count → ReadPromise s x work
  promise_built p = subst (λ (m : Making). BuiltPromise m.built (parameters_of s x) x.parameters.count) h p

-- ---- the answer to any text

module _ (s : List ℕ) (work : List Float) where
  module _ (f : (sheet_of s).formed ≡ false) where
    pub malformed_text : answer_text s work ≡ refusal_text (refusal 16)
    unfolding answer_text
    malformed_text = rw f

    pub malformed_work : answer_work s work ≡ work
    unfolding answer_work
    malformed_work = rw f

  module _ {x : Sheet} (e : x ≡ sheet_of s) (f : x.formed ≡ true) where
    pub formed_text : answer_text s work ≡ sheet_text s x work
    unfolding answer_text
    formed_text = rw (← e, f)

    pub formed_work : answer_work s work ≡ sheet_work s x work
    unfolding answer_work
    formed_work = rw (← e, f)

-- ---- no answer is longer than the longest

pub answer_short : (s : List ℕ) (work : List Float) → length (answer_text s work) ≤ 36876
unfolding answer_text sheet_text
answer_short s work =
    let x = sheet_of s in
    by_two x.formed
    (λ h.
    rw h
    (le_trans (built_short (sheet_build s x work).built (parameters_of s x))
    (omega (arith, numbers-long s x.parameters.start x.parameters.count, (limits s).parameters.0))))
    (λ h. rw h (omega (arith, refusal_short (refusal 16))))

-- what the door answers is a count of bytes of `out`
pub counted : {s out : List ℕ} {work : List Float} {n : ℕ} {out' : List ℕ} {work' : List Float} → Answered s out work n out' work' → n ≤ length out
counted {s} {out} {work} a =
    by_two (too_short out) (λ h. rw (a.count, h) (omega arith))
    (λ h. rw (a.count, h) (omega (arith, answer_short s work, ltb-false (length out) 36876 h)))

-- two outcomes that the contract allows coincide
pub one_answer : {s out : List ℕ} {work : List Float} {n n' : ℕ} {out₁ out₂ : List ℕ} {work₁ work₂ : List Float} → Answered s out work n out₁ work₁
    → Answered s out work n' out₂ work₂ → (n ≡ n') × (out₁ ≡ out₂) × (work₁ ≡ work₂)
one_answer a b = (a.count ∙ sym b.count, a.bytes ∙ sym b.bytes, a.lent ∙ sym b.lent)
