-- The rows of the system: their lengths, the verdict on all of them, and that they depend on the parameters that they read alone. Assumes nothing.
use mathlib.Core.Path.{◌≡◌, refl, sym, ap, ◌∙◌, subst}
use mathlib.Core.Bool.{cond}
use mathlib.Core.List.{List, [], flatten}
use Prim.Native.Nat.{ℕ, ◌+◌, ◌-◌, ◌≤◌, ◌<◌}
use native.Mathlib.Nat.{zero-add}
use native.Mathlib.Omega.{arith}
use lib.Dec.{leb, eqb}
use borrow.Author.Tests.{leb-true}
use lib.ListN.{length, get_or, set}
use lib.Ieee.{Float}
use Rattle.meaning.specs.Scalar.{Ops, plain, zero64, one64}
use Rattle.meaning.specs.Table.{at1}
use Rattle.meaning.specs.Search.{every}
use Rattle.span.specs.Counting.{counted_of}
use Rattle.meaning.proofs.Filling.{length-listed, nth_listed}
use Rattle.meaning.proofs.Every.{every_same}
use Rattle.solve.specs.Rows.{flat, Shaped}
use Rattle.solve.specs.Stored.{all_fine}
use Rattle.solve.proofs.Stored.{fine-flat}
use Rattle.solve.proofs.Lists.{length_cond, blend, blend_start, blend_next, blend_all}
use Rattle.solve.proofs.Flat.{shaped_set}
use Rattle.plane.specs.Vector.{Vector}
use Rattle.fit.specs.System.{origin, row_of, fit_row, fit_rows}
use Rattle.fit.specs.Parameters.{point_at}
use Rattle.fit.specs.Stored.{found_fit_row, found_fit_rows}
use Rattle.fit.proofs.Sums.{listed_cong, choice_cong}

module _ {A : Type 0} (o : Ops A) (sp : Float → ℕ) (us : List A) where
  pub length-row : (m : ℕ) (t : A) (d : ℕ) (b : Vector A) → length (row_of o sp us m t d b) ≡ m + 2
  unfolding row_of
  length-row m t d b = length-listed 0 (m + 2) _

  module _ (p : ℕ → A) (q : List A) (n : ℕ) where
    pub length-fit_row : (r : ℕ) → length (fit_row o sp us p q n r) ≡ n + 2 + 2
    unfolding fit_row
    length-fit_row r =
        let first = row_of o sp us (n + 2) (o.cst zero64) 2 (origin o) in
        let point = row_of o sp us (n + 2) (p (r - 1)) 0 (point_at o q (r - 1)) in
        let final = row_of o sp us (n + 2) (o.cst one64) 2 (origin o) in
        length_cond (eqb r 0) first (cond (leb r n) point final) (n + 2 + 2) (length-row (n + 2) (o.cst zero64) 2 (origin o))
        (length_cond (leb r n) point final (n + 2 + 2) (length-row (n + 2) (p (r - 1)) 0 (point_at o q (r - 1))) (length-row (n + 2) (o.cst one64) 2 (origin o)))

    pub fit_row-at : (r : ℕ) → r < n + 2 → get_or (fit_rows o sp us p q n) r [] ≡ fit_row o sp us p q n r
    unfolding fit_rows
    fit_row-at r l = nth_listed (n + 2) r (fit_row o sp us p q n) [] l

    pub length-fit_rows : length (fit_rows o sp us p q n) ≡ n + 2
    unfolding fit_rows
    length-fit_rows = length-listed 0 (n + 2) (fit_row o sp us p q n)

    pub fit_rows_shaped : Shaped (n + 2) (n + 2 + 2) (fit_rows o sp us p q n)
    fit_rows_shaped = record { count = length-fit_rows; each = λ r l. ap length (fit_row-at r l) ∙ length-fit_row r }

  -- the same parameters give the same rows
  module _ (p p' : ℕ → A) (q : List A) (n : ℕ) (some : 1 ≤ n) (h : (k : ℕ) → k < n → p k ≡ p' k) where
    pub fit_row_cong : (r : ℕ) → fit_row o sp us p q n r ≡ fit_row o sp us p' q n r
    unfolding fit_row
    fit_row_cong r =
        ap (cond (eqb r 0) (row_of o sp us (n + 2) (o.cst zero64) 2 (origin o)))
        (choice_cong (leb r n) (row_of o sp us (n + 2) (p (r - 1)) 0 (point_at o q (r - 1))) (row_of o sp us (n + 2) (p' (r - 1)) 0 (point_at o q (r - 1)))
        (row_of o sp us (n + 2) (o.cst one64) 2 (origin o))
        (λ e. let l : r ≤ n = leb-true r n e in ap (λ (t : A). row_of o sp us (n + 2) t 0 (point_at o q (r - 1))) (h (r - 1) (omega arith))))

    pub fit_rows_cong : fit_rows o sp us p q n ≡ fit_rows o sp us p' q n
    unfolding fit_rows
    fit_rows_cong = listed_cong 0 (n + 2) (fit_row o sp us p q n) (fit_row o sp us p' q n) (λ r l. fit_row_cong r)

-- the same of the rows with the span that the search finds
module _ (us ps q : List Float) (n : ℕ) where
  pub found-row_at : (r : ℕ) → r < n + 2 → get_or (found_fit_rows us ps q n) r [] ≡ found_fit_row us ps q n r
  unfolding found_fit_rows found_fit_row
  found-row_at = fit_row-at plain (counted_of us (n + 2)) us (at1 plain ps) q n

  pub found-verdict : every (n + 2) (λ r. all_fine plain (found_fit_row us ps q n r)) ≡ all_fine plain (flatten (found_fit_rows us ps q n))
  unfolding found_fit_rows found_fit_row fit_rows
  found-verdict =
      let row = fit_row plain (counted_of us (n + 2)) us (at1 plain ps) q n in
      sym (fine-flat plain 0 (n + 2) row ∙ every_same (n + 2) _ _ (λ r l. ap (λ (k : ℕ). all_fine plain (row k)) (zero-add r)))

  pub found_shaped : Shaped (n + 2) (n + 2 + 2) (found_fit_rows us ps q n)
  unfolding found_fit_rows
  found_shaped = fit_rows_shaped plain (counted_of us (n + 2)) us (at1 plain ps) q n

-- ---- rows written into a buffer one after the other

-- the rows below r are those of F, the others those of M
pub record Written {A : Type 0} (m s : ℕ) (F : List (List A)) (r : ℕ) (M : List (List A)) (rest w : List A) : Type 0 where
  pub rows : w ≡ flat (blend r F M) rest
  pub shape : Shaped m s (blend r F M)

module _ {A : Type 0} {m s : ℕ} {F M : List (List A)} {rest w : List A} (f : Shaped m s F) (g : Shaped m s M) where
  pub none_written : w ≡ flat M rest → Written m s F 0 M rest w
  none_written e =
      let same : blend 0 F M ≡ M = blend_start F M 0 [] (f.count ∙ sym g.count) (λ i h. absurd (omega arith)) in
      record { rows = e ∙ ap (λ (N : List (List A)). flat N rest) (sym same); shape = subst (Shaped m s) (sym same) g }

  pub one_more : {r : ℕ} {w' y : List A} → Written m s F r M rest w → r < m → y ≡ get_or F r [] → w' ≡ flat (set (blend r F M) r y) rest → Written m s F (r + 1) M rest w'
  one_more {r} {w'} {y} old l e q =
      let turn = blend_next F M (blend r F M) r y [] refl (f.count ∙ sym g.count) (omega (arith, g.count)) e in
      record {
        rows = q ∙ ap (λ (N : List (List A)). flat N rest) turn;
        shape = subst (Shaped m s) turn (shaped_set r y old.shape l (ap length e ∙ f.each r l));
      }

  pub all_written : {r : ℕ} → Written m s F r M rest w → m ≤ r → w ≡ flat F rest
  all_written {r} old l = old.rows ∙ ap (λ (N : List (List A)). flat N rest) (blend_all F M r (f.count ∙ sym g.count) (omega (arith, g.count)))
