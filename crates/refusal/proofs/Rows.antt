-- Tables of refusals, row by row and one after the other. Assumes nothing.
use mathlib.Core.Path.{◌≡◌, refl, sym, ap, ◌∙◌}
use mathlib.Core.Bool.{Bool, true, false, ◌&&◌, cond}
use mathlib.Core.List.{List, [], ◌∷◌, ◌++◌}
use Prim.Native.Nat.{ℕ, zero, suc}
use native.Mathlib.Nat.{suc-ne-zero}
use native.Mathlib.Omega.{arith}
use lib.Dec.{T}
use Rattle.meaning.proofs.Tests.{by_two}
use Rattle.std.specs.Prelude.{◌-◌, get_or, ⊤, Result, Ok, Err, IsErr, IsErrAnd}
use Rattle.refusal.specs.declared.Refusal.{Refusal}
use Rattle.refusal.specs.declared.Refusal.TheVariants.{OddCoordinates, FewHandles, FewControlPoints, ManyHandles, KnotsWithFitPoints, KnotCount, UnfitKnot, NotClamped, NoInterval, CrowdedKnot, WildCoordinate, WildParameter, TooMuchAsked, ShortSlice, WildOutcome, NoSheet, RecordMismatch}
use Rattle.refusal.specs.Refusals.{Verdict, refusal, Row, row, first_of, none, number_by, verdict}

-- no row applies
abbrev pub Passed : List Row → Type 0
Passed rules = (first_of rules).number ≡ 0

-- and one does
abbrev pub Refused : List Row → Type 0
Refused rules = (first_of rules).number ≡ 0 → ⊥

pub number_of : {x y : Verdict} → x ≡ y → x.number ≡ y.number
number_of e = ap (λ (x : Verdict). x.number) e

-- ---- the first row

module _ (r : Row) (rs : List Row) where
  pub row-applies : r.applies ≡ true → first_of (r ∷ rs) ≡ r.refusal
  unfolding first_of
  row-applies h = rw h

  pub row-passes : r.applies ≡ false → first_of (r ∷ rs) ≡ first_of rs
  unfolding first_of
  row-passes h = rw h

-- a row before tables that say the same
pub same_after : (r : Row) (a b : List Row) → first_of a ≡ first_of b → first_of (r ∷ a) ≡ first_of (r ∷ b)
unfolding first_of
same_after r a b e = ap (cond r.applies r.refusal) e

pub no_rows : first_of [] ≡ none
unfolding first_of
no_rows = refl

-- what passes the table passes its first row and the rest
pub row_passed : (k : ℕ) (b : Bool) (rs : List Row) → Passed (row (suc k) b ∷ rs) → (b ≡ false) × Passed rs
unfolding first_of
row_passed k true rs h = absurd (suc-ne-zero k h)
row_passed k false rs h = (refl, h)

-- ---- two tables, one after the other

abbrev above : ℕ → Bool
above zero = false
above (suc k) = true

-- the number of each row is above 0, so that 0 says that none applies
abbrev pub numbered : List Row → Bool
numbered [] = true
numbered (r ∷ rs) = above r.refusal.number && numbered rs

both : (a b : Bool) → T (a && b) → T a × T b
both true b h = (tt, h)
both false b h = absurd h

not_zero : (k : ℕ) → T (above k) → k ≡ 0 → ⊥
not_zero zero h e = h
not_zero (suc k) h e = omega arith

pub rest-numbered : (r : Row) (rs : List Row) → T (numbered (r ∷ rs)) → T (numbered rs)
rest-numbered r rs h = (both (above r.refusal.number) (numbered rs) h).1

-- the same row before others
pub other_rest : (r : Row) (a b : List Row) → (T (numbered a) → T (numbered b)) → T (numbered (r ∷ a)) → T (numbered (r ∷ b))
other_rest r a b f h = by (above r.refusal.number) h
  where
    by : (x : Bool) → T (x && numbered a) → T (x && numbered b)
    by true h = f h
    by false h = h

-- what passes numbered rows passes the first and the rest
pub head_passed : (r : Row) (rs : List Row) → T (numbered (r ∷ rs)) → Passed (r ∷ rs) → (r.applies ≡ false) × Passed rs
head_passed r rs h e =
    by_two r.applies
    (λ p. absurd (not_zero r.refusal.number (both (above r.refusal.number) (numbered rs) h).0 (number_of (sym (row-applies r rs p)) ∙ e)))
    (λ p. (p, number_of (sym (row-passes r rs p)) ∙ e))

-- nothing in the first applies: the second decides
pub second_decides : (a b : List Row) → T (numbered a) → Passed a → first_of (a ++ b) ≡ first_of b
second_decides [] b h e = refl
second_decides (r ∷ rs) b h e =
    let q = head_passed r rs h e in
    row-passes r (rs ++ b) q.0 ∙ second_decides rs b (rest-numbered r rs h) q.1

-- nothing applies
pub passed_none : (a : List Row) → T (numbered a) → Passed a → first_of a ≡ none
passed_none [] h e = no_rows
passed_none (r ∷ rs) h e =
    let q = head_passed r rs h e in
    row-passes r rs q.0 ∙ passed_none rs (rest-numbered r rs h) q.1

-- something in the first applies
pub first_decides : (a b : List Row) → Refused a → first_of (a ++ b) ≡ first_of a
unfolding first_of
first_decides [] b e = absurd (e refl)
first_decides (r ∷ rs) b e =
    by_two r.applies
    (λ p. row-applies r (rs ++ b) p ∙ sym (row-applies r rs p))
    (λ p. row-passes r (rs ++ b) p ∙ first_decides rs b (λ q. e (number_of (row-passes r rs p) ∙ q)) ∙ sym (row-passes r rs p))

-- nothing in both applies: nothing in either does
pub both_pass : (a b : List Row) → T (numbered a) → Passed (a ++ b) → Passed a × Passed b
both_pass a b h e = by (first_of a).number refl
  where
    by : (m : ℕ) → (first_of a).number ≡ m → Passed a × Passed b
    by zero q = (q, number_of (sym (second_decides a b h q)) ∙ e)
    by (suc m) q = absurd (suc-ne-zero m (sym q ∙ number_of (sym (first_decides a b (λ z. suc-ne-zero m (sym q ∙ z)))) ∙ e))

-- ---- the code's answers

-- the number of a rule is not 0
pub ruled : (r : Refusal) → number_by r ≡ 0 → ⊥
ruled OddCoordinates e = suc-ne-zero 0 e
ruled FewHandles e = suc-ne-zero 1 e
ruled FewControlPoints e = suc-ne-zero 2 e
ruled ManyHandles e = suc-ne-zero 3 e
ruled KnotsWithFitPoints e = suc-ne-zero 4 e
ruled KnotCount e = suc-ne-zero 5 e
ruled UnfitKnot e = suc-ne-zero 6 e
ruled NotClamped e = suc-ne-zero 7 e
ruled NoInterval e = suc-ne-zero 8 e
ruled CrowdedKnot e = suc-ne-zero 9 e
ruled WildCoordinate e = suc-ne-zero 10 e
ruled WildParameter e = suc-ne-zero 11 e
ruled TooMuchAsked e = suc-ne-zero 12 e
ruled ShortSlice e = suc-ne-zero 13 e
ruled WildOutcome e = suc-ne-zero 14 e
ruled NoSheet e = suc-ne-zero 15 e
ruled RecordMismatch e = suc-ne-zero 16 e

-- the rule of a number: so a number has one
abbrev by_number : ℕ → Refusal
by_number k =
    get_or
    (OddCoordinates ∷ FewHandles ∷ FewControlPoints ∷ ManyHandles ∷ KnotsWithFitPoints ∷ KnotCount
    ∷ UnfitKnot ∷ NotClamped ∷ NoInterval ∷ CrowdedKnot ∷ WildCoordinate ∷ WildParameter
    ∷ TooMuchAsked ∷ ShortSlice ∷ WildOutcome ∷ NoSheet ∷ RecordMismatch ∷ [])
    (k - 1)
    OddCoordinates

found_again : (r : Refusal) → by_number (number_by r) ≡ r
found_again OddCoordinates = refl
found_again FewHandles = refl
found_again FewControlPoints = refl
found_again ManyHandles = refl
found_again KnotsWithFitPoints = refl
found_again KnotCount = refl
found_again UnfitKnot = refl
found_again NotClamped = refl
found_again NoInterval = refl
found_again CrowdedKnot = refl
found_again WildCoordinate = refl
found_again WildParameter = refl
found_again TooMuchAsked = refl
found_again ShortSlice = refl
found_again WildOutcome = refl
found_again NoSheet = refl
found_again RecordMismatch = refl

pub same_rule : (r s : Refusal) → number_by r ≡ number_by s → r ≡ s
same_rule r s e = sym (found_again r) ∙ ap by_number e ∙ found_again s

-- so a verdict has one answer
pub verdict_apart : (x y : Result ⊤ Refusal) → verdict x ≡ verdict y → x ≡ y
verdict_apart (Ok a) (Ok b) e = refl
verdict_apart (Ok a) (Err s) e = absurd (ruled s (number_of (sym e)))
verdict_apart (Err r) (Ok a) e = absurd (ruled r (number_of e))
verdict_apart (Err r) (Err s) e = ap Err (same_rule r s (number_of e))

-- on Err the verdict has a number, on Ok it has none
module _ {A : Type 0} {x : Result A Refusal} where
  pub err_number : {r : Refusal} → x ≡ Err r → (verdict x).number ≡ 0 → ⊥
  err_number {r} e h = ruled r (number_of (ap verdict (sym e)) ∙ h)

  pub ok_number : {a : A} → x ≡ Ok a → (verdict x).number ≡ 0
  ok_number e = number_of (ap verdict e)

-- an answer that a table decides: on Err a row applies, on Ok none does
module _ {A : Type 0} {x : Result A Refusal} (rows : List Row) (told : verdict x ≡ first_of rows) where
  pub err_refused : {r : Refusal} → x ≡ Err r → Refused rows
  err_refused e h = err_number e (number_of told ∙ h)

  pub ok_none : {a : A} → x ≡ Ok a → first_of rows ≡ none
  ok_none e = sym told ∙ ap verdict e

  pub ok_passed : {a : A} → x ≡ Ok a → Passed rows
  ok_passed e = number_of (ok_none e)

  -- where rows come after it, they decide on Ok
  pub ok_decides : {a : A} → (more : List Row) → T (numbered rows) → x ≡ Ok a → first_of (rows ++ more) ≡ first_of more
  ok_decides more h e = second_decides rows more h (ok_passed e)

-- what `?` hands on of an answer: the same verdict, whatever rows come after the table
module _ {A B : Type 0} {x : Result A Refusal} {r : Refusal} (e : x ≡ Err r) where
  pub handed_on : (y : Result B Refusal) → IsErr y × IsErrAnd y (λ s. s ≡ r) → verdict y ≡ verdict x
  handed_on (Ok b) h = absurd h.1
  handed_on (Err s) h = ap (λ (q : Refusal). refusal (number_by q)) h.1 ∙ ap verdict (sym e)

  pub err_decides : (y : Result B Refusal) → IsErr y × IsErrAnd y (λ s. s ≡ r) → (rows more : List Row) → verdict x ≡ first_of rows
      → verdict y ≡ first_of (rows ++ more)
  err_decides y h rows more told = handed_on y h ∙ told ∙ sym (first_decides rows more (err_refused rows told e))
