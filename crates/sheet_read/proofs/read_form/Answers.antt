-- `sheet_read::read_form` meets its contract: the first form whose line the text begins with.
use Rattle.std.proofs.Common.{◌≡◌, ℕ, refl, ◌∙◌, sym, Bool, true, false, cond, List, [], ◌∷◌, None, Some, rules, tests, eqb}
use Rattle.std.specs.Bool.{then_some}
use Rattle.std.specs.List.{starts_with, find}
use Rattle.std.proofs.lemmas.Iterator.{YieldsList-from_slice}
use Rattle.std.proofs.lemmas.Iterator.Consumers.{YieldsList-at, YieldsList-from_copied}
use Rattle.std.proofs.lemmas.Iterator.Search.{find_from_yields_List}
use Rattle.std.proofs.lemmas.Iterator.Adapters.{option_map_id}
use Rattle.knots.specs.declared.Form.{Form}
use Rattle.knots.specs.declared.Form.TheVariants.{Control, Fit}
use Rattle.sheet_read.specs.Grammar.{form_text, form_stands, form_of}
use Rattle.sheet_read.proofs.Words.{word_begins}
use Rattle.sheet_read.proofs.read_form.Goals as goal

abbrev says : List ℕ → Form → Bool
says s form = starts_with eqb s (form_text form)

said : (s : List ℕ) (form : Form) → says s form ≡ form_stands s form
said s Control = word_begins s (form_text Control) 0 refl
said s Fit = word_begins s (form_text Fit) 0 refl

first_said : (s : List ℕ) → find (says s) (Fit ∷ Control ∷ []) ≡ then_some (form_stands s (form_of s)) (form_of s)
first_said s = rw (said s Fit, said s Control) (by (form_stands s Fit) refl)
  where
    by : (b : Bool) → form_stands s Fit ≡ b
        → cond b (Some Fit) (cond (form_stands s Control) (Some Control) None) ≡ then_some (form_stands s (cond b Fit Control)) (cond b Fit Control)
    by true e = rw e
    by false e = other (form_stands s Control)
      where
        other : (b : Bool) → cond b (Some Control) None ≡ then_some b Control
        other true = refl
        other false = refl

pub returns : goal.returns
returns c =
    let s = c.args.s.now in
    sym (option_map_id c.find.result)
    ∙ find_from_yields_List (says s) _ _ c.find.result c.find.ensures.ran
    (YieldsList-from_copied (YieldsList-at c.copied.ensures.source (YieldsList-from_slice (Fit ∷ Control ∷ []) cc))) (λ x b q k. search (rules, tests))
    ∙ first_said s
