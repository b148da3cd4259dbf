-- The pivot of a column in the words of docs/RULES.md, "Solve", over any scalar: from the diagonal down the entry of greatest size, in IEEE 754's
-- totalOrder, and of equals the last. One row has it, and no other: `pivot_is` and `one_pivot` in `solve/proofs/Pivots`.
use Rattle.std.specs.Prelude.{Bool, ◌||◌, cond, List, ℕ, leb}
use Rattle.std.proofs.Math.Dec.{ltb}
use Rattle.meaning.specs.Scalar.{Ops}
use Rattle.meaning.specs.Number.{smaller, at_least}
use Rattle.meaning.specs.Table.{at2}
use Rattle.meaning.specs.Search.{seek_from, seek, every}

module _ {A : Type 0} (o : Ops A) where
  -- the entry of row r in column col gives way to that of row p: its size is not the greater one, and it is the smaller one where r comes after p
  abbrev pub gives_way : ℕ → List (List A) → ℕ → ℕ → Bool
  gives_way col M p r =
      let x = o.val (at2 o M r col) in
      let y = o.val (at2 o M p col) in
      cond (leb r p) (at_least y x) (smaller x y)

  -- row p has the pivot of column col: of m rows every one from the diagonal down gives way to it
  unfoldable pub has_pivot : ℕ → ℕ → List (List A) → ℕ → Bool
  unfolding every smaller
  has_pivot m col M p = every m (λ r. ltb r col || gives_way col M p r)

  -- the row that has it
  unfoldable pub pivot : ℕ → ℕ → List (List A) → ℕ
  unfolding seek_from has_pivot
  pivot m col M = seek col m (has_pivot m col M)
