-- The rules, from the tests that are made one after the other. Assumes nothing.
use mathlib.Core.Path.{◌≡◌, sym, ap, ◌∙◌}
use mathlib.Core.Bool.{Bool, true, false, not, ◌||◌}
use mathlib.Core.List.{List, [], ◌∷◌, ◌++◌}
use Prim.Native.Nat.{ℕ, ◌+◌, ◌*◌, ◌%◌, ◌≤◌, ◌<◌}
use native.Mathlib.Omega.{arith}
use borrow.Author.Tests.{eq-eqb, ne_eqb, lt-ltb, le-ltb, ltb-false, eqb-true, not-false}
use lib.ListN.{length}
use lib.Dec.{T, ltb}
use lib.Ieee.{Float}
use lib.Ieee.Scale.{finite}
use Rattle.meaning.proofs.Tests.{or_left, or_right}
use Rattle.refusal.specs.Refusals.{Verdict, Row, row, first_of, refusal}
use Rattle.refusal.proofs.Rows.{Passed, number_of, numbered, row-applies, row-passes, row_passed, no_rows}
use Rattle.refusal.proofs.Rows.{second_decides, first_decides, both_pass, passed_none}
use Rattle.knots.specs.declared.Form.{Form}
use Rattle.knots.specs.Rules.{knot_rules}
use Rattle.shape.specs.Shape.{points_in}
use Rattle.shape.specs.Rules.{handle_rules}
use Rattle.shape.proofs.Handles.{numbered-handles}
use Rattle.residual.specs.Residual.{asked, asked_rules, lacks_of}

module _ (form : Form) (q : List Float) (given : Bool) (ks : List Float) (px py t : Float) where
  abbrev rules : List Row
  rules = asked_rules (asked form q given ks px py t)

  -- of the point and the parameter
  abbrev held : List Row
  held = row 11 (not (finite px) || not (finite py)) ∷ row 12 (not (finite t)) ∷ []

  pub numbered-asked : T (numbered rules)
  unfolding asked_rules handle_rules knot_rules
  numbered-asked = tt

  pub odd : (length q % 2 ≡ 0 → ⊥) → refusal 1 ≡ first_of rules
  unfolding asked_rules
  odd h = sym (row-applies _ _ (ap not (ne_eqb (length q % 2) 0 h)))

  module _ (even : length q % 2 ≡ 0) where
    pub many : 12 < points_in q → refusal 4 ≡ first_of rules
    unfolding asked_rules
    many h = sym (row-passes _ _ (ap not (eq-eqb (length q % 2) 0 even)) ∙ row-applies _ _ (lt-ltb 12 (points_in q) h))

    module _ (few : points_in q ≤ 12) where
      left : first_of rules ≡ first_of (handle_rules form q given ks ++ held)
      unfolding asked_rules
      left = row-passes _ _ (ap not (eq-eqb (length q % 2) 0 even)) ∙ row-passes _ _ (le-ltb 12 (points_in q) few)

      module _ {r : Verdict} (known : r ≡ first_of (handle_rules form q given ks)) where
        pub refused : (r.number ≡ 0 → ⊥) → r ≡ first_of rules
        refused h = known ∙ sym (left ∙ first_decides _ _ (λ z. h (number_of known ∙ z)))

        module _ (passed : r.number ≡ 0) where
          rest : first_of rules ≡ first_of held
          rest = left ∙ second_decides _ _ (numbered-handles form q given ks) (number_of (sym known) ∙ passed)

          pub wild_x : not (finite px) ≡ true → refusal 11 ≡ first_of rules
          wild_x h = sym (rest ∙ row-applies _ _ (rw h))

          module _ (x : not (finite px) ≡ false) where
            pub wild_y : not (finite py) ≡ true → refusal 11 ≡ first_of rules
            wild_y h = sym (rest ∙ row-applies _ _ (rw (x, h)))

            module _ (y : not (finite py) ≡ false) where
              last : first_of rules ≡ first_of (row 12 (not (finite t)) ∷ [])
              last = rest ∙ row-passes _ _ (rw (x, y))

              pub wild_t : not (finite t) ≡ true → refusal 12 ≡ first_of rules
              wild_t h = sym (last ∙ row-applies _ _ h)

              pub all_pass : not (finite t) ≡ false → r ≡ first_of rules
              all_pass h =
                  known ∙ passed_none _ (numbered-handles form q given ks) (number_of (sym known) ∙ passed) ∙ sym (last ∙ row-passes _ [] h ∙ no_rows)

  -- what they let through
  pub passed_handles : Passed rules → (length q ≤ 24) × Passed (handle_rules form q given ks)
  unfolding asked_rules
  passed_handles h =
      let a = row_passed 0 _ _ h in
      let b = row_passed 3 _ _ a.1 in
      let even : length q % 2 ≡ 0 = eqb-true (length q % 2) 0 (not-false _ a.0) in
      let few : points_in q ≤ 12 = ltb-false 12 (points_in q) b.0 in
      (omega arith, (both_pass (handle_rules form q given ks) _ (numbered-handles form q given ks) b.1).0)

-- ---- none of the slices is short

module _ (cells c doubles bytes three rows : ℕ) where
  pub all_long : lacks_of cells c doubles bytes three rows ≡ false → (cells * (c + 1) ≤ doubles) × (cells ≤ bytes) × (3 ≤ three) × (3 * c ≤ rows)
  all_long h =
      let one = or_right (ltb doubles (cells * (c + 1))) (ltb bytes cells || (ltb three 3 || ltb rows (3 * c))) h in
      let two = or_right (ltb bytes cells) (ltb three 3 || ltb rows (3 * c)) one in (
        ltb-false doubles _ (or_left _ (ltb bytes cells || (ltb three 3 || ltb rows (3 * c))) h),
        ltb-false bytes cells (or_left _ (ltb three 3 || ltb rows (3 * c)) one),
        ltb-false three 3 (or_left _ (ltb rows (3 * c)) two),
        ltb-false rows (3 * c) (or_right (ltb three 3) _ two),
      )
