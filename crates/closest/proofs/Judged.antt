-- The rules of a search, from the tests that the code makes one after the other. Assumes nothing.
use mathlib.Core.Path.{◌≡◌, sym, ap, ◌∙◌}
use mathlib.Core.Bool.{Bool, true, false, not, ◌||◌}
use mathlib.Core.List.{[], ◌∷◌}
use borrow.Author.Tests.{not-false}
use lib.Ieee.{Float, ne, is_nan}
use Rattle.refusal.specs.Refusals.{Verdict, refusal, none}
use Rattle.outcome.specs.Outcome.{either_wild}
use Rattle.outcome.specs.Told.{Values, telling}
use Rattle.outcome.proofs.Doors.{untold, tells, stop_told, pass_told, done-told}
use Rattle.number.proofs.Compared.{nan_is}
use Rattle.plane.specs.Vector.{Vector}
use Rattle.shape.specs.Shape.{Shape}
use Rattle.closest.specs.Search.{samples_fine, newton_from, closest_of, search_rules}
use Rattle.closest.specs.Sampling.{best_sample}
use Rattle.closest.specs.declared.Best.{Best}
use Rattle.closest.proofs.Least.{fine_is, nearest_is}

module _ (c : Shape Float) (p : Vector Float) where
  abbrev Answers : Values → Type 0
  Answers r = r ≡ telling (search_rules c p []) (closest_of c p ∷ [])

  -- the point
  module _ {w : Bool} (is : w ≡ either_wild p.x p.y) where
    pub wild_point : w ≡ true → {r : Verdict} → r ≡ refusal 11 → Answers (untold r)
    wild_point h e = tells (stop_told 10 e (sym is ∙ h))

    -- the samples
    module _ (h : w ≡ false) {best : Best} (s : best ≡ best_sample c p) where
      tame : either_wild p.x p.y ≡ false
      tame = sym is ∙ h

      all_fine_lem : best.fine ≡ samples_fine c p
      all_fine_lem = ap (λ (z : Best). z.fine) s ∙ fine_is c p

      pub wild_sample : not best.fine ≡ true → {r : Verdict} → r ≡ refusal 15 → Answers (untold r)
      wild_sample h e = tells (pass_told 11 tame (stop_told 14 e (rw (← all_fine_lem, h))))

      -- the last parameter
      module _ (f : not best.fine ≡ false) {t : Float} (e : t ≡ newton_from c p best.t) where
        last_is : t ≡ closest_of c p
        unfolding closest_of
        last_is =
            let fine : (best_sample c p).fine ≡ true = ap (λ (z : Best). z.fine) (sym s) ∙ not-false best.fine f in
            e ∙ ap (newton_from c p) (ap (λ (z : Best). z.t) s ∙ nearest_is c p fine)

        judged : {z : Bool} → ne t t ≡ z → not (samples_fine c p) || is_nan (closest_of c p) ≡ z
        judged h = rw (← all_fine_lem, f, ← last_is) (sym (nan_is t) ∙ h)

        pub lost : ne t t ≡ true → {r : Verdict} → r ≡ refusal 15 → Answers (untold r)
        lost h q = tells (pass_told 11 tame (stop_told 14 q (judged h)))

        pub found : ne t t ≡ false → Answers (record { refusal = none; values = t ∷ [] })
        found h = ap (λ (z : Float). record { refusal = none; values = z ∷ [] }) last_is ∙ tells (pass_told 11 tame (pass_told 15 (judged h) done-told))
