-- What is printed in decimal is below 100, and so printed as a sheet writes a count. Assumes nothing.
use mathlib.Core.Path.{◌≡◌, sym, ap, ◌∙◌}
use mathlib.Core.Bool.{Bool, true, ◌&&◌, cond}
use mathlib.Core.List.{List, [], ◌∷◌}
use Prim.Native.Nat.{ℕ, ◌*◌, ◌%◌, ◌≤◌, ◌<◌}
use native.Mathlib.Omega.{arith}
use borrow.Author.Tests.{ltb-true, ltb-false, lt-ltb}
use lib.Dec.{T, ltb, ltb→lt}
use lib.Ieee.{Float}
use lib.Ieee.Fits.{and_l, and_r}
use Rattle.meaning.proofs.Tests.{by_two}
use Rattle.refusal.specs.Refusals.{Row, first_of, passes}
use Rattle.refusal.proofs.Rows.{row-applies, row-passes}
use Rattle.knots.specs.declared.Form.{Form}
use Rattle.knots.specs.declared.Form.TheVariants.{Control, Fit}
use Rattle.knots.specs.Rules.{knot_rules}
use Rattle.outcome.specs.Outcome.{answering}
use Rattle.shape.specs.Shape.{points_in}
use Rattle.shape.specs.Rules.{shape_rules, handle_rules}
use Rattle.curve.specs.declared.Curve.{Curve}
use Rattle.curve.specs.Record.{record_rules}
use Rattle.curve.specs.Build.{building, build_rules}
use Rattle.fit.specs.Fit.{curve_through}
use Rattle.build.specs.Build.{curve_of, rules_of}
use Rattle.point.specs.Point.{point_answer}
use Rattle.sheet_read.specs.Number.{glyph}
use Rattle.sheet_read.specs.Grammar.{Sheet}
use Rattle.sheet_read.specs.Written.{digits_text, count_text}
use Rattle.sheet_read.proofs.Sections.{Limits}
use Rattle.sheet_text.specs.Printed.{decimal_text}
use Rattle.sheet_text.specs.Curves.{line_answer}
use Rattle.sheet_text.specs.Answer.{points_of, knots_of, given_of, sheet_build}
use Rattle.sheet_text.proofs.Front.{numbers-long}
use Rattle.sheet_text.proofs.Putting.{one_digit, two_digits}

-- below 100 it is decimal, with no needless zero
pub decimal_count : (n : ℕ) → n < 100 → decimal_text n ≡ count_text n
unfolding count_text digits_text
decimal_count n h =
    by_two (ltb n 10)
    (λ e.
    let d : n ≡ n % 10 = omega (arith, ltb-true n 10 e) in
    one_digit n (ltb-true n 10 e) ∙ ap (λ (k : ℕ). glyph k ∷ []) d ∙ (λ i. digits_text 10 (cond (sym e i) 1 (cond (ltb n 100) 2 (cond (ltb n 1000) 3 4))) n))
    (λ e. two_digits n (ltb-false n 10 e) ∙ (λ i. digits_text 10 (cond (sym e i) 1 (cond (sym (lt-ltb n 100 h) i) 2 (cond (ltb n 1000) 3 4))) n))

-- ---- refusals

abbrev small : List Row → Bool
small [] = true
small (r ∷ rs) = ltb r.refusal.number 100 && small rs

first_small : (rs : List Row) → T (small rs) → (first_of rs).number < 100
unfolding first_of
first_small [] h = omega arith
first_small (r ∷ rs) h =
    by_two r.applies (λ e. rw (row-applies r rs e) (ltb→lt r.refusal.number 100 (and_l (ltb r.refusal.number 100) (small rs) h)))
    (λ e. rw (row-passes r rs e) (first_small rs (and_r (ltb r.refusal.number 100) (small rs) h)))

pub build_small : (form : Form) (coords : List Float) (given : Bool) (ks : List Float) (short : Bool) → (first_of (rules_of form coords given ks short)).number < 100
unfolding build_rules handle_rules knot_rules
build_small form coords given ks short = first_small (rules_of form coords given ks short) tt

pub line_small : (c : Curve) (t : Float) → (line_answer c t).refusal.number < 100
unfolding point_answer answering record_rules shape_rules knot_rules
line_small c t = first_small _ tt

-- ---- counts

abbrev Few : Curve → Type 0
Few c = (c.points ≤ 68) × (c.knot_count ≤ 72)

curve_few : (form : Form) (coords : List Float) (given : Bool) (ks : List Float) → points_in coords ≤ 66 → Few (curve_of form coords given ks)
unfolding curve_through
curve_few Fit coords given ks h = (omega arith, omega arith)
curve_few Control coords given ks h = (omega arith, omega arith)

built-few : (rules : List Row) (c : Curve) → Few c → Few (building rules c).curve
unfolding building
built-few rules c h = by_two (passes rules) (λ e. rw e h) (λ e. rw e (omega arith, omega arith))

pub counts-few : (s : List ℕ) (x : Sheet) (work : List Float) → Limits x → Few (sheet_build s x work).built.curve
counts-few s x work l =
    built-few _ (curve_of x.form (points_of s x) (given_of s x) (knots_of s x))
    (curve_few x.form (points_of s x) (given_of s x) (knots_of s x) (omega (arith, numbers-long s x.points.start (2 * x.points.count), l.points.0)))
