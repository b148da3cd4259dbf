-- The lines of a curve's parameters. Assumes nothing.
use mathlib.Core.Path.{◌≡◌, refl, sym, ap, ◌∙◌}
use mathlib.Core.List.{List, [], ◌∷◌, ◌++◌, append_assoc, append-nil}
use Prim.Native.Nat.{ℕ, ◌+◌, ◌*◌, ◌≤◌, ◌<◌}
use native.Mathlib.Numerals.{add-one}
use native.Mathlib.Omega.{arith}
use borrow.Author.Tests.{eq-eqb, ne_eqb, eqb-true, eqb-false}
use lib.ListN.{length, take, length-append}
use lib.Seq.{take-suc, take_all}
use lib.Ieee.{Float, nan}
use Rattle.meaning.specs.Scalar.{plain}
use Rattle.meaning.specs.Table.{at1}
use Rattle.meaning.proofs.Tests.{by_two}
use Rattle.refusal.specs.Refusals.{Verdict, is_none}
use Rattle.outcome.specs.Outcome.{outcome}
use Rattle.curve.specs.declared.Curve.{Curve}
use Rattle.curve.specs.Build.{Built}
use Rattle.sheet_text.specs.Printed.{refusal_text, head_text, point_text}
use Rattle.sheet_text.specs.Put.{Put}
use Rattle.sheet_text.specs.Curves.{line_answer, line_text, lines_text, built_text}
use Rattle.sheet_text.proofs.Putting.{joined, nothing, refusal_short, head_short, point_long}

module _ (c : Curve) (t : Float) {r : Verdict} {xy : List Float} (told : outcome r xy ≡ line_answer c t) where
  pub line_refused : (r.number ≡ 0 → ⊥) → line_text c t ≡ refusal_text r
  unfolding line_text
  line_refused h = rw (← told, ne_eqb r.number 0 h)

  pub line_point : r.number ≡ 0 → line_text c t ≡ point_text (at1 plain xy 0) (at1 plain xy 1)
  unfolding line_text
  line_point h = rw (← told, eq-eqb r.number 0 h)

line_short : (c : Curve) (t : Float) → length (line_text c t) ≤ 36
unfolding line_text
line_short c t =
    let o = line_answer c t in
    by_two (is_none o.refusal)
    (λ h. rw h (omega (arith, point_long (at1 plain o.out 0) (at1 plain o.out 1))))
    (λ h. rw h (omega (arith, refusal_short o.refusal)))

-- ---- one line after the other

module _ (c : Curve) where
  pub lines_append : (a b : List Float) → lines_text c (a ++ b) ≡ lines_text c a ++ lines_text c b
  unfolding lines_text
  lines_append [] b = refl
  lines_append (t ∷ a) b = ap (λ (l : List ℕ). line_text c t ++ l) (lines_append a b) ∙ sym (append_assoc (line_text c t) (lines_text c a) (lines_text c b))

  -- one parameter more
  pub lines_more : (ts : List Float) (j : ℕ) → j < length ts → lines_text c (take (j + 1) ts) ≡ lines_text c (take j ts) ++ line_text c (at1 plain ts j)
  unfolding lines_text
  lines_more ts j h =
      ap (λ (n : ℕ). lines_text c (take n ts)) (add-one j)
      ∙ ap (lines_text c) (take-suc ts j nan h)
      ∙ lines_append (take j ts) (at1 plain ts j ∷ [])
      ∙ ap (λ (l : List ℕ). lines_text c (take j ts) ++ l) (append-nil (line_text c (at1 plain ts j)))

  pub no_lines : (ts : List Float) → lines_text c (take 0 ts) ≡ []
  unfolding lines_text
  no_lines ts = refl

  -- what the loop keeps: the lines so far stand from `at` on, and each took at most 36 bytes
  pub record Printed (ts : List Float) (out₀ : List ℕ) (at j : ℕ) (out : List ℕ) (next : ℕ) : Type 0 where
    pub put : Put out₀ at (lines_text c (take j ts)) out next
    pub few : length (lines_text c (take j ts)) ≤ 36 * j

  module _ {ts : List Float} {out₀ : List ℕ} {at : ℕ} where
    pub printed_first : at ≤ length out₀ → Printed ts out₀ at 0 out₀ at
    printed_first h = record { put = rw (no_lines ts) (nothing h); few = rw (no_lines ts) (omega arith) }

    pub printed_next : {j : ℕ} {out : List ℕ} {next : ℕ} → Printed ts out₀ at j out next → j < length ts → {t : Float} → t ≡ at1 plain ts j
        → {out' : List ℕ} {next' : ℕ} → Put out next (line_text c t) out' next' → Printed ts out₀ at (j + 1) out' next'
    printed_next {j} p h {t} e q =
        record {
          put = rw (lines_more ts j h, ← e) (joined p.put q);
          few = rw (lines_more ts j h, ← e, length-append (lines_text c (take j ts)) (line_text c t)) (omega (arith, p.few, line_short c t));
        }

    pub printed_all : {j : ℕ} {out : List ℕ} {next : ℕ} → Printed ts out₀ at j out next → length ts ≤ j → Put out₀ at (lines_text c ts) out next
    printed_all {j} p h = rw (take_all j ts h) at p.put

  -- 36 bytes to a line, at most
  pub lines_short : (ts : List Float) → length (lines_text c ts) ≤ 36 * length ts
  unfolding lines_text
  lines_short [] = omega arith
  lines_short (t ∷ ts) = rw (length-append (line_text c t) (lines_text c ts)) (omega (arith, line_short c t, lines_short ts))

-- ---- a build

module _ (b : Built) (ts : List Float) where
  pub built_refused : (b.refusal.number ≡ 0 → ⊥) → built_text b ts ≡ refusal_text b.refusal
  unfolding built_text
  built_refused h = rw (ne_eqb b.refusal.number 0 h)

  pub built_printed : b.refusal.number ≡ 0 → built_text b ts ≡ head_text b.curve.points b.curve.knot_count ++ lines_text b.curve ts
  unfolding built_text
  built_printed h = rw (eq-eqb b.refusal.number 0 h)

  pub built_short : length (built_text b ts) ≤ 12 + 36 * length ts
  built_short =
      let c = b.curve in
      by_two (is_none b.refusal)
      (λ h.
      rw (built_printed (eqb-true b.refusal.number 0 h), length-append (head_text c.points c.knot_count) (lines_text c ts))
      (omega (arith, head_short c.points c.knot_count, lines_short c ts)))
      (λ h. rw (built_refused (eqb-false b.refusal.number 0 h)) (omega (arith, refusal_short b.refusal)))
