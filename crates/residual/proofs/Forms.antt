-- What each form asks of the slices, and what it leaves in them. Assumes nothing.
use mathlib.Core.Path.{◌≡◌, refl, sym, subst}
use mathlib.Core.Bool.{Bool}
use mathlib.Core.List.{List}
use Prim.Native.Nat.{ℕ, ◌+◌, ◌*◌}
use native.Mathlib.Nat.{zero-mul}
use lib.Ieee.{Float}
use Rattle.std.specs.Prelude.{Some}
use Rattle.meaning.specs.Scalar.{zero64}
use Rattle.refusal.proofs.Rows.{Passed}
use Rattle.knots.specs.declared.Form.{Form}
use Rattle.knots.specs.declared.Form.TheVariants.{Control, Fit}
use Rattle.shape.specs.Rules.{handle_rules}
use Rattle.fit.proofs.Asked.{fit_room}
use Rattle.residual.specs.declared.Piece.{Piece}
use Rattle.residual.specs.Curve.{control_shape, shape_of, stored_fine}
use Rattle.residual.specs.Residual.{cells_for, cleared}
use Rattle.residual.specs.Piece.{Read, Ready, ReadyFit, Judged}

module _ {form : Form} {q : List Float} {given : Bool} {ks : List Float} {c : ℕ} {work : List Float} {counts : List ℕ} where
  pub control_ready : Ready form q given ks c work counts → form ≡ Control → Passed (handle_rules Control q given ks)
  control_ready r e = subst (λ (f : Form). Passed (handle_rules f q given ks)) e r.rules

  pub fit_ready : Ready form q given ks c work counts → form ≡ Fit → ReadyFit q c work counts
  fit_ready r e = by (subst (λ (f : Form). Ready f q given ks c work counts) e r)
    where
      by : Ready Fit q given ks c work counts → ReadyFit q c work counts
      by s =
          record { two = (fit_room q given ks s.rules).0; few = s.few; wide = s.wide; narrow = s.narrow; bytes = s.bytes; doubles = s.doubles }

module _ (form : Form) (q : List Float) where
  pub control-judged : (given : Bool) (ks : List Float) (t : Float) (p : Piece) → form ≡ Control → Read (control_shape q given ks) t p
      → Judged (stored_fine form q) (shape_of form q given ks) t (Some p)
  control-judged given ks t p e r = subst (λ (x : Form). Judged (stored_fine x q) (shape_of x q given ks) t (Some p)) (sym e) (refl, r)

  pub control-doubles : (c : ℕ) (work : List Float) → form ≡ Control → work ≡ cleared (cells_for form q * (c + 1)) zero64 work
  control-doubles c work e =
      subst (λ (x : Form). work ≡ cleared (cells_for x q * (c + 1)) zero64 work) (sym e) (rw (zero-mul (c + 1)) refl)

  pub control-counts : (counts : List ℕ) → form ≡ Control → counts ≡ cleared (cells_for form q) 0 counts
  control-counts counts e = subst (λ (x : Form). counts ≡ cleared (cells_for x q) 0 counts) (sym e) refl
