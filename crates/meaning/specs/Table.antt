-- Lists and tables of scalars as the code indexes them: a read past the end gives the scalar's `off`, and a row past the end is empty.
use Rattle.std.specs.Prelude.{ℕ, List, [], get_or, set}
use Rattle.meaning.specs.Scalar.{Ops}

module _ {A : Type 0} (o : Ops A) where
  -- what stands at i of a list, and in row i at column j of a table by rows
  abbrev pub at1 : List A → ℕ → A
  at1 l i = get_or l i o.off

  abbrev pub at2 : List (List A) → ℕ → ℕ → A
  at2 t i j = get_or (get_or t i []) j o.off

-- the table with v in row i at column j
abbrev pub put2 : {A : Type 0} → List (List A) → ℕ → ℕ → A → List (List A)
put2 t i j v = set t i (set (get_or t i []) j v)
