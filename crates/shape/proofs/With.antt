-- The rules of a curve with 11 for a question's own point among them. Assumes nothing.
use mathlib.Core.Path.{◌≡◌, refl, ◌∙◌}
use mathlib.Core.Bool.{Bool, true, false, cond}
use mathlib.Core.List.{List, [], ◌∷◌, ◌++◌}
use lib.Dec.{T, eqb}
use Rattle.refusal.specs.Refusals.{Row, row, first_of}
use Rattle.refusal.proofs.Rows.{Passed, number_of, numbered, row-passes, row_passed, same_after, rest-numbered, other_rest, head_passed, second_decides}
use Rattle.shape.specs.Offered.{with11}

module _ (w : Bool) where
  -- the row stands before the first of the rules, or behind it
  either_way : (P : List Row → Type 0) (r : Row) (rs : List Row) → P (row 11 w ∷ r ∷ rs) → P (r ∷ with11 w rs) → P (with11 w (r ∷ rs))
  either_way P r rs a b = by (eqb r.refusal.number 17)
    where
      by : (t : Bool) → P (cond t (row 11 w ∷ r ∷ rs) (r ∷ with11 w rs))
      by true = a
      by false = b

  pub with_numbered : (rs : List Row) → T (numbered rs) → T (numbered (with11 w rs))
  with_numbered [] h = tt
  with_numbered (r ∷ rs) h = either_way (λ l. T (numbered l)) r rs h (other_rest r rs (with11 w rs) (with_numbered rs) h)

  -- past the curve's rules the point's is left, and what follows
  pub with_past : (rs more : List Row) → T (numbered rs) → Passed rs → first_of (with11 w rs ++ more) ≡ first_of (row 11 w ∷ more)
  with_past [] more h e = refl
  with_past (r ∷ rs) more h e =
      let q = head_passed r rs h e in
      either_way (λ l. first_of (l ++ more) ≡ first_of (row 11 w ∷ more)) r rs (same_after (row 11 w) (r ∷ (rs ++ more)) more (second_decides (r ∷ rs) more h e))
      (row-passes r (with11 w rs ++ more) q.0 ∙ with_past rs more (rest-numbered r rs h) q.1)

  pub with_passed : (rs : List Row) → T (numbered rs) → Passed (with11 w rs) → (w ≡ false) × Passed rs
  with_passed [] h e = row_passed 10 w [] e
  with_passed (r ∷ rs) h e =
      either_way (λ l. Passed l → (w ≡ false) × Passed (r ∷ rs)) r rs (row_passed 10 w (r ∷ rs))
      (λ g.
      let q = head_passed r (with11 w rs) (other_rest r rs (with11 w rs) (with_numbered rs) h) g in
      let s = with_passed rs (rest-numbered r rs h) q.1 in
      (s.0, number_of (row-passes r rs q.0) ∙ s.1))
      e

-- a point that is fine changes nothing
pub with_none : (rs : List Row) → first_of (with11 false rs) ≡ first_of rs
with_none [] = row-passes (row 11 false) [] refl
with_none (r ∷ rs) =
    either_way false (λ l. first_of l ≡ first_of (r ∷ rs)) r rs (row-passes (row 11 false) (r ∷ rs) refl) (same_after r (with11 false rs) rs (with_none rs))
