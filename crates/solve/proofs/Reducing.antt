-- The loop that reduces the rows below row col by a pivot row: its invariant, and what it leaves. Over any scalar, for any store of rows. Assumes nothing.
use mathlib.Core.Path.{◌≡◌, sym, ap, ◌∙◌}
use mathlib.Core.Bool.{Bool, true, ◌&&◌}
use mathlib.Core.List.{List, []}
use Prim.Native.Nat.{ℕ, ◌+◌, ◌≤◌, ◌<◌}
use native.Mathlib.Omega.{arith}
use lib.ListN.{length, get_or, set, take, drop, get_or-append}
use lib.Seq.{get_or-take, length-take-le}
use Rattle.meaning.specs.Scalar.{Ops}
use Rattle.meaning.specs.Search.{every}
use Rattle.meaning.proofs.Every.{every_next}
use Rattle.solve.specs.Left.{Becomes}
use Rattle.solve.specs.Elimination.{reduced, reduced_rows}
use Rattle.solve.specs.Verdicts.{reduced_ok, reduced_rows_ok, row_fine}
use Rattle.solve.proofs.Lists.{blend, blend_all}
use Rattle.solve.proofs.Steps.{rows-length, rows_at, row-above, rows_start, rows-read, rows_turn, rows_fine_start, rows-fine_at}

module _ {A : Type 0} (o : Ops A) (m n col : ℕ) (p : List A) (M : List (List A)) where
  -- the rows once the loop is at r: reduced by p below r, as they were from r on
  abbrev pub partly : ℕ → List (List A)
  partly r = blend r (reduced_rows o m n col p M) M

  pub record Reducing (r : ℕ) (N : List (List A)) (fine : Bool) : Type 0 where
    pub rows : N ≡ partly r
    pub verdict : fine ≡ every r (row_fine o n col p M)
    pub below : col < r
    pub few : r ≤ m

  module _ (l : length M ≡ m) where
    pub reducing_start : col < m → Reducing (col + 1) M true
    reducing_start h =
        record { rows = rows_start o n col p m M h l; verdict = rows_fine_start o n col p m M; below = omega arith; few = omega arith }

    -- row r is reduced
    pub reducing_next : {r : ℕ} {N L : List (List A)} {fine test both : Bool} → Reducing r N fine → r < m
        → Becomes (λ K. set K r (reduced o n col p (get_or K r []))) (λ K. reduced_ok o n col p (get_or K r [])) N L test
        → both ≡ (fine && test) → Reducing (r + 1) L both
    reducing_next {r} a h does f =
        record {
          rows = does.0
              ∙ ap (λ (K : List (List A)). set K r (reduced o n col p (get_or K r []))) a.rows
              ∙ rows_turn o n col p m M r a.below h l;
          verdict = every_next (row_fine o n col p M) r a.verdict
              (does.1
              ∙ ap (λ (K : List (List A)). reduced_ok o n col p (get_or K r [])) a.rows
              ∙ ap (reduced_ok o n col p) (rows-read o n col p m M r l)
              ∙ rows-fine_at o n col p m M r a.below) f;
          below = omega (arith, a.below);
          few = omega arith;
        }

    -- row col itself stays
    pivot_stays : (r : ℕ) → col < r → r ≤ m → get_or (partly r) col [] ≡ get_or M col []
    pivot_stays r c h =
        let R = reduced_rows o m n col p M in
        get_or-append (take r R) (drop r M) [] col (omega (arith, length-take-le r R (omega (arith, rows-length o n col p m M))))
        ∙ get_or-take r R col [] c
        ∙ rows_at o n col p m M col (omega arith)
        ∙ row-above o n col p m M col (omega arith)

    -- where it is p, by the row that stands there
    pub reducing_by : get_or M col [] ≡ p → {r : ℕ} {N L : List (List A)} {fine test both : Bool} → Reducing r N fine → r < m
        → Becomes (λ K. set K r (reduced o n col (get_or K col []) (get_or K r []))) (λ K. reduced_ok o n col (get_or K col []) (get_or K r [])) N L test
        → both ≡ (fine && test) → Reducing (r + 1) L both
    reducing_by own {r} {N} a h does f =
        let pivot : get_or N col [] ≡ p = ap (λ (K : List (List A)). get_or K col []) a.rows ∙ pivot_stays r a.below a.few ∙ own in
        reducing_next a h (
          does.0 ∙ ap (λ (q : List A). set N r (reduced o n col q (get_or N r []))) pivot,
          does.1 ∙ ap (λ (q : List A). reduced_ok o n col q (get_or N r [])) pivot,
        ) f

    pub reducing_end : {r : ℕ} {N : List (List A)} {fine : Bool} → Reducing r N fine → m ≤ r
        → Becomes (reduced_rows o m n col p) (reduced_rows_ok o m n col p) M N fine
    unfolding reduced_rows_ok
    reducing_end {r} a h =
        let e : r ≡ m = omega (arith, a.few) in (
          a.rows ∙ blend_all (reduced_rows o m n col p M) M r (rows-length o n col p m M ∙ sym l) (omega arith),
          a.verdict ∙ ap (λ (k : ℕ). every k (row_fine o n col p M)) e,
        )
