-- The rules of handles with 11 for a question's own point behind them. Assumes nothing.
use mathlib.Core.Path.{◌≡◌, refl, sym, ap, ◌∙◌}
use mathlib.Core.Bool.{Bool, true, false}
use mathlib.Core.List.{List, [], ◌∷◌, ◌++◌}
use lib.Ieee.{Float}
use Rattle.refusal.specs.Refusals.{Verdict, row, first_of, refusal}
use Rattle.refusal.proofs.Rows.{number_of, row-applies, row-passes, no_rows, second_decides, first_decides, passed_none}
use Rattle.knots.specs.declared.Form.TheVariants.{Control}
use Rattle.knots.specs.Rules.{knot_rules}
use Rattle.shape.specs.Rules.{handle_rules}
use Rattle.shape.specs.Offered.{with11}
use Rattle.shape.proofs.Handles.{numbered-handles}

module _ (wild : Bool) (coords ks : List Float) {r : Verdict} (known : r ≡ first_of (handle_rules Control coords true ks)) where
  behind : with11 wild (handle_rules Control coords true ks) ≡ handle_rules Control coords true ks ++ (row 11 wild ∷ [])
  unfolding handle_rules knot_rules
  behind = refl

  pub handles_refused : (r.number ≡ 0 → ⊥) → r ≡ first_of (with11 wild (handle_rules Control coords true ks))
  handles_refused h = known ∙ sym (ap first_of behind ∙ first_decides (handle_rules Control coords true ks) _ (λ z. h (number_of known ∙ z)))

  module _ (passed : r.number ≡ 0) where
    left : first_of (with11 wild (handle_rules Control coords true ks)) ≡ first_of (row 11 wild ∷ [])
    left = ap first_of behind ∙ second_decides (handle_rules Control coords true ks) _ (numbered-handles Control coords true ks) (number_of (sym known) ∙ passed)

    pub wild_refused : wild ≡ true → refusal 11 ≡ first_of (with11 wild (handle_rules Control coords true ks))
    wild_refused h = sym (left ∙ row-applies _ [] h)

    pub tame_passes : wild ≡ false → r ≡ first_of (with11 wild (handle_rules Control coords true ks))
    tame_passes h =
        known ∙ passed_none _ (numbered-handles Control coords true ks) (number_of (sym known) ∙ passed) ∙ sym (left ∙ row-passes _ [] h ∙ no_rows)
