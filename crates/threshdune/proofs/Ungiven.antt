-- Knots that are not given are not read. Assumes nothing.
use mathlib.Core.Path.{◌≡◌, refl, ap, ◌∙◌}
use mathlib.Core.Bool.{Bool, true, false, cond}
use mathlib.Core.List.{List, []}
use Prim.Native.Nat.{ℕ}
use lib.Ieee.{Float}
use Rattle.refusal.specs.Refusals.{Verdict, refusal}
use Rattle.knots.specs.declared.Form.{Form}
use Rattle.knots.specs.declared.Form.TheVariants.{Control, Fit}
use Rattle.knots.specs.Rules.{knot_rules}
use Rattle.shape.specs.Rules.{handle_rules}
use Rattle.curve.specs.Build.{build_rules}
use Rattle.build.specs.Build.{Sliced, sliced, built_into}
use Rattle.residual.specs.Curve.{control_shape}
use Rattle.residual.specs.Residual.{Lent, Outcome, asked, asked_rules, leaving, residual_answer}

module _ (coords ks control out : List Float) where
  without : (given : Bool) → built_into Control coords given (cond given ks []) [] control out ≡ built_into Control coords given ks [] control out
  unfolding build_rules handle_rules knot_rules
  without true = refl
  without false = refl

  -- what a build leaves behind that is told whether they are, by the number of its refusal
  pub built_given : {given g : Bool} {l : List Float} → g ≡ given → l ≡ cond given ks [] → {r : Verdict} {n : ℕ} {control' out' work : List Float} → n ≡ r.number
      → sliced r control' out' work ≡ built_into Control coords g l [] control out
      → sliced (refusal n) control' out' [] ≡ built_into Control coords given ks [] control out
  built_given {given} e q {control' = control'} {out' = out'} m b =
      ap (λ k. sliced (refusal k) control' out' []) m
      ∙ ap (λ (s : Sliced). sliced s.refusal s.control s.knots []) (b ∙ (λ i. built_into Control coords (e i) (q i) [] control out))
      ∙ without given

-- and the same of residuals
module _ (form : Form) (q ks : List Float) (px py t : Float) (l : Lent) where
  unheld : (given : Bool) → residual_answer (asked form q given (cond given ks []) px py t) l ≡ residual_answer (asked form q given ks px py t) l
  unfolding leaving asked_rules handle_rules knot_rules control_shape
  unheld true = refl
  unheld false = by form
    where
      by : (f : Form) → residual_answer (asked f q false [] px py t) l ≡ residual_answer (asked f q false ks px py t) l
      by Control = refl
      by Fit = refl

  pub held_given : {given g : Bool} {k : List Float} {f : Form} → f ≡ form → g ≡ given → k ≡ cond given ks [] → {r : Verdict} {n : ℕ} {after : Lent} → n ≡ r.number
      → ◌≡◌ {A = Outcome} (record { refusal = r; after = after }) (residual_answer (asked f q g k px py t) l)
      → ◌≡◌ {A = Outcome} (record { refusal = refusal n; after = after }) (residual_answer (asked form q given ks px py t) l)
  held_given {given} o e p {after = after} m b =
      ap (λ j. record { refusal = refusal j; after = after }) m ∙ b ∙ (λ i. residual_answer (asked (o i) q (e i) (p i) px py t) l) ∙ unheld given
