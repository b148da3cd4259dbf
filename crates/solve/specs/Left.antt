-- Inner: what a function makes of a row, or a step of a solve of the rows, and its verdict on what it stored.
use Rattle.std.specs.Prelude.{◌≡◌, Bool, List}

-- the list t, of numbers or of rows, is t' afterwards, by the step, and q is the step's verdict
abbrev pub Becomes : {A : Type 0} → (List A → List A) → (List A → Bool) → List A → List A → Bool → Type 0
Becomes step ok t t' q = (t' ≡ step t) × (q ≡ ok t)
