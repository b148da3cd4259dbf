-- One turn of the loop that takes a row off another, a number at a turn: over any scalar. Assumes nothing.
use mathlib.Core.Path.{◌≡◌, refl, sym, ap, ◌∙◌}
use mathlib.Core.Bool.{true, false, ◌&&◌}
use mathlib.Core.List.{List, []}
use Prim.Native.Nat.{ℕ, ◌+◌, ◌*◌, ◌≤◌, ◌<◌}
use native.Mathlib.Omega.{arith}
use lib.ListN.{get_or, set}
use lib.Seq.{get_or-set_same, get_or-set_other, set-set, set-get_or}
use lib.Dec.{ltb}
use lib.Ieee.{eq}
use Rattle.meaning.specs.Scalar.{Ops, zero64}
use Rattle.meaning.specs.Table.{at1, at2}
use Rattle.solve.specs.Rows.{Shaped}
use Rattle.solve.specs.Elimination.{less_by, less_at, subtracted, reduced}
use Rattle.solve.specs.Verdicts.{subtracted_ok, reduced_ok}
use Rattle.solve.proofs.Lists.{row_le, blend, blend_all}
use Rattle.solve.proofs.Steps.{sub_length, sub_start, sub_value, sub_turn}

-- number k of row r stands within the rows
pub inside : (r k m s : ℕ) → r < m → k < s → r * s + k < m * s
inside r k m s h l = omega (arith, row_le r m s h)

-- ---- row r less f times row col above it, from column col on, number by number
module _ {A : Type 0} (o : Ops A) (m col r : ℕ) (f : A) (M : List (List A)) where
  abbrev row : List A
  row = get_or M r []

  abbrev pivotal : List A
  pivotal = get_or M col []

  abbrev target : List A
  target = subtracted o m col f pivotal row

  -- the rows once the numbers below k are worked out
  abbrev pub lessened : ℕ → List (List A)
  lessened k = set M r (blend k target row)

  module _ (sh : Shaped m (m + 2) M) (h : r < m) (n : col < r) where
    pub lessened_start : M ≡ lessened col
    lessened_start = sym (set-get_or M r []) ∙ ap (set M r) (sub_start o m col f pivotal row (omega (arith, sh.each r h)))

    pub lessened_end : lessened (m + 2) ≡ set M r target
    lessened_end = ap (set M r) (blend_all target row (m + 2) (sub_length o m col f pivotal row) (omega (arith, sh.each r h)))

    module _ (N : List (List A)) (k : ℕ) (v : A) (b : col ≤ k) (l : k < m + 2) (e : N ≡ lessened k)
        (q : v ≡ less_by o (ltb k m) f (at2 o N r k) (at2 o N col k)) where
      at_row : get_or N r [] ≡ blend k target row
      at_row = ap (λ (K : List (List A)). get_or K r []) e ∙ get_or-set_same M r (blend k target row) [] (omega (arith, sh.count))

      at_pivot : get_or N col [] ≡ pivotal
      at_pivot = ap (λ (K : List (List A)). get_or K col []) e ∙ get_or-set_other M r col (blend k target row) [] (λ q. absurd (omega arith))

      pub lessened_value : v ≡ less_at o m col f pivotal row k
      lessened_value =
          sub_value o m col f pivotal row (blend k target row) k v refl b (q ∙ (λ t. less_by o (ltb k m) f (at1 o (at_row t) k) (at1 o (at_pivot t) k)))

      pub lessened_next : set N r (set (get_or N r []) k v) ≡ lessened (k + 1)
      lessened_next =
          let step = sub_turn o m col f pivotal row (blend k target row) k v refl (omega (arith, sh.each r h)) lessened_value in
          (λ t. set (e t) r (set (at_row t) k v))
          ∙ ap (λ (R : List A). set (lessened k) r R) step
          ∙ set-set M r (blend k target row) (blend (k + 1) target row)

-- ---- a row that is skipped, and one that is reduced
module _ {A : Type 0} (o : Ops A) (n col : ℕ) (p t : List A) where
  module _ (e : eq (o.val (at1 o t col)) zero64 ≡ true) where
    pub skipped : reduced o n col p t ≡ t
    unfolding reduced
    skipped = rw e

    pub skipped_ok : reduced_ok o n col p t ≡ true
    unfolding reduced_ok
    skipped_ok = rw e

  module _ (e : eq (o.val (at1 o t col)) zero64 ≡ false) where
    pub taken-off : reduced o n col p t ≡ subtracted o n col (o.over (at1 o t col) (at1 o p col)) p t
    unfolding reduced
    taken-off = rw e

    pub taken_off_ok : reduced_ok o n col p t ≡ (o.fine (o.over (at1 o t col) (at1 o p col)) && subtracted_ok o n col (o.over (at1 o t col) (at1 o p col)) p t)
    unfolding reduced_ok
    taken_off_ok = rw e
