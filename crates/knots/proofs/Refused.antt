-- The table of refusals, gone through row by row. Assumes nothing.
use mathlib.Core.Path.{◌≡◌, refl, sym, ap, ◌∙◌, subst}
use mathlib.Core.Bool.{Bool, true, false, cond}
use mathlib.Core.List.{List, []}
use Prim.Native.Nat.{ℕ, ◌+◌, ◌≤◌, ◌<◌}
use native.Mathlib.Omega.{arith}
use borrow.Author.Tests.{ltb-false, leb-false, lt-ltb, le-ltb, le-leb, lt-leb, eq-eqb, ne_eqb}
use lib.ListN.{length}
use lib.Ieee.{Float}
use Rattle.refusal.specs.Refusals.{Verdict}
use Rattle.refusal.specs.Refusals.{refusal, none, first_of}
use lib.Dec.{T}
use Rattle.refusal.proofs.Rows.{Passed, Refused, number_of, row_passed, numbered, passed_none}
use Rattle.knots.specs.declared.Form.{Form}
use Rattle.knots.specs.declared.Form.TheVariants.{Control, Fit}
use Rattle.knots.specs.Rules.{few_handles, no_cubic, too_many, wrong_count, some_unfit, not_clamped, no_interval, some_crowded, knot_rules}

-- ---- the number of handles, test by test

module _ (form : Form) (n : ℕ) where
  pub few : n < 2 → refusal 2 ≡ first_of (knot_rules form n false [])
  unfolding first_of knot_rules
  few h = rw (lt-ltb n 2 h)

  module _ (two : 2 ≤ n) where
    pub no_cubic_lem : form ≡ Control → n < 4 → refusal 3 ≡ first_of (knot_rules form n false [])
    unfolding first_of knot_rules
    no_cubic_lem e h = subst (λ (f : Form). refusal 3 ≡ first_of (knot_rules f n false [])) (sym e) (rw (le-ltb n 2 two, le-leb 2 n two, le-leb n 3 (omega arith)))

    pub control-many : form ≡ Control → 4 ≤ n → 66 < n → refusal 4 ≡ first_of (knot_rules form n false [])
    unfolding first_of knot_rules
    control-many e h g = subst (λ (f : Form). refusal 4 ≡ first_of (knot_rules f n false [])) (sym e) (rw (le-ltb n 2 two, le-leb 2 n two, lt-leb n 3 h, lt-ltb 66 n g))

    pub control-room : form ≡ Control → 4 ≤ n → n ≤ 66 → none ≡ first_of (knot_rules form n false [])
    unfolding first_of knot_rules
    control-room e h g = subst (λ (f : Form). none ≡ first_of (knot_rules f n false [])) (sym e) (rw (le-ltb n 2 two, le-leb 2 n two, lt-leb n 3 h, le-ltb 66 n g))

    pub fit_many : form ≡ Fit → 64 < n → refusal 4 ≡ first_of (knot_rules form n false [])
    unfolding first_of knot_rules
    fit_many e g = subst (λ (f : Form). refusal 4 ≡ first_of (knot_rules f n false [])) (sym e) (rw (le-ltb n 2 two, lt-ltb 64 n g))

    pub fit_room : form ≡ Fit → n ≤ 64 → none ≡ first_of (knot_rules form n false [])
    unfolding first_of knot_rules
    fit_room e g = subst (λ (f : Form). none ≡ first_of (knot_rules f n false [])) (sym e) (rw (le-ltb n 2 two, le-ltb 64 n g))

-- ---- where no list is given, no other row applies

none-given : (form : Form) (handles : ℕ) (ks : List Float) → first_of (knot_rules form handles false []) ≡ first_of (knot_rules form handles false ks)
unfolding first_of knot_rules
none-given form handles ks = refl

abbrev first_rows : Bool → Bool → Bool → Verdict → Verdict
first_rows a b c r = cond a (refusal 2) (cond b (refusal 3) (cond c (refusal 4) r))

stays : (a b c : Bool) (r : Verdict) → ((first_rows a b c none).number ≡ 0 → ⊥) → first_rows a b c none ≡ first_rows a b c r
stays true b c r h = refl
stays false true c r h = refl
stays false false true r h = refl
stays false false false r h = absurd (h refl)

by_handles : (form : Form) (handles : ℕ) (given : Bool) (ks : List Float)
    → Refused (knot_rules form handles false []) → first_of (knot_rules form handles false []) ≡ first_of (knot_rules form handles given ks)
unfolding first_of knot_rules
by_handles form handles given ks = stays (few_handles handles) (no_cubic form handles) (too_many form handles) _

fit_parts : (handles : ℕ) → Passed (knot_rules Fit handles false []) → (few_handles handles ≡ false) × (too_many Fit handles ≡ false)
unfolding knot_rules
fit_parts handles h =
    let r2 = row_passed 1 _ _ h in
    let r3 = row_passed 2 _ _ r2.1 in
    (r2.0, (row_passed 3 _ _ r3.1).0)

with_fit : (handles : ℕ) (ks : List Float) → Passed (knot_rules Fit handles false []) → refusal 5 ≡ first_of (knot_rules Fit handles true ks)
unfolding knot_rules first_of
with_fit handles ks h = let p = fit_parts handles h in rw (p.0, p.1)

pub handles_passed : (n : ℕ) → few_handles n ≡ false → no_cubic Control n ≡ false → too_many Control n ≡ false → (4 ≤ n) × (n ≤ 66)
handles_passed n h g l = (omega (arith, leb-false n 3 (rw (le-leb 2 n (ltb-false n 2 h)) at g)), ltb-false 66 n l)

-- whether knots are given or not
pub room_for : (n : ℕ) (given : Bool) (ks : List Float) → Passed (knot_rules Control n given ks) → (4 ≤ n) × (n ≤ 66)
unfolding knot_rules
room_for n given ks h =
    let r2 = row_passed 1 _ _ h in
    let r3 = row_passed 2 _ _ r2.1 in
    let r4 = row_passed 3 _ _ r3.1 in
    handles_passed n r2.0 r3.0 r4.0

pub numbered-knots : (form : Form) (n : ℕ) (given : Bool) (ks : List Float) → T (numbered (knot_rules form n given ks))
unfolding knot_rules
numbered-knots form n given ks = tt

-- ---- the whole table, from the rows on the handles

module _ (form : Form) (n : ℕ) (given : Bool) (ks : List Float) {r : Verdict} (told : r ≡ first_of (knot_rules form n false [])) where
  pub check_refused : (r.number ≡ 0 → ⊥) → r ≡ first_of (knot_rules form n given ks)
  check_refused h = told ∙ by_handles form n given ks (λ z. h (number_of told ∙ z))

  module _ (passed : r.number ≡ 0) where
    handles_pass : Passed (knot_rules form n false [])
    handles_pass = number_of (sym told) ∙ passed

    pub check_unlisted : given ≡ false → none ≡ first_of (knot_rules form n given ks)
    check_unlisted e =
        sym (passed_none _ (numbered-knots form n false []) handles_pass) ∙ none-given form n ks ∙ ap (λ (g : Bool). first_of (knot_rules form n g ks)) (sym e)

    pub check_fit : given ≡ true → form ≡ Fit → refusal 5 ≡ first_of (knot_rules form n given ks)
    check_fit e f =
        with_fit n ks (subst (λ (x : Form). Passed (knot_rules x n false [])) f handles_pass)
        ∙ (λ i. first_of (knot_rules (sym f i) n (sym e i) ks))

    pub check_room : form ≡ Control → (4 ≤ n) × (n ≤ 66)
    check_room f = room_for n false [] (subst (λ (x : Form). Passed (knot_rules x n false [])) f handles_pass)

  pub check_list : given ≡ true → form ≡ Control → {s : Verdict} → s ≡ first_of (knot_rules Control n true ks) → s ≡ first_of (knot_rules form n given ks)
  check_list e f q = q ∙ (λ i. first_of (knot_rules (sym f i) n (sym e i) ks))

-- ---- a list for a number of control points that a curve can have

module _ (n : ℕ) (room : (4 ≤ n) × (n ≤ 66)) (ks : List Float) where
  past-handles : first_of (knot_rules Control n true ks)
      ≡ cond (wrong_count n ks) (refusal 6) (cond (some_unfit ks) (refusal 7) (cond (not_clamped n ks) (refusal 8) (cond (no_interval n ks) (refusal 9) (cond (some_crowded n ks) (refusal 10) none))))
  unfolding first_of knot_rules
  past-handles = rw (le-ltb n 2 (omega arith), le-leb 2 n (omega arith), lt-leb n 3 room.0, le-ltb 66 n room.1)

  pub wrong_count_lem : (length ks ≡ n + 4 → ⊥) → refusal 6 ≡ first_of (knot_rules Control n true ks)
  wrong_count_lem h = rw (past-handles, ne_eqb (length ks) (n + 4) h)

  module _ (long : length ks ≡ n + 4) where
    pub one_unfit : some_unfit ks ≡ true → refusal 7 ≡ first_of (knot_rules Control n true ks)
    one_unfit h = rw (past-handles, eq-eqb (length ks) (n + 4) long, h)

    pub none-unfit : some_unfit ks ≡ false
        → first_of (knot_rules Control n true ks) ≡ cond (not_clamped n ks) (refusal 8) (cond (no_interval n ks) (refusal 9) (cond (some_crowded n ks) (refusal 10) none))
    none-unfit h = rw (past-handles, eq-eqb (length ks) (n + 4) long, h)
