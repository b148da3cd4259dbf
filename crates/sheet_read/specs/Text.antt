-- A text as a list of bytes, and what stands at a place of one. Past the end stands 0, which no rule of the sheet takes for anything.
use Rattle.std.specs.Prelude.{ℕ, ◌+◌, Bool, true, ◌&&◌, List, [], ◌∷◌, length, get_or, ltb, eqb}
use Prim.Native.Char.{code}
use Prim.Native.String.{String, [] as ε, ◌∷◌ as ◌▹◌}
use Rattle.meaning.specs.Search.{every}

-- the bytes of a word, by their codes
abbrev pub text : String → List ℕ
text ε = []
text (c ▹ w) = code c ∷ text w

abbrev pub byte_at : List ℕ → ℕ → ℕ
byte_at s i = get_or s i 0

-- no byte of the word is 0
abbrev pub solid : List ℕ → Bool
solid [] = true
solid (x ∷ w) = ltb 0 x && solid w

-- the word w stands in s at `at`
unfoldable pub word_stands : List ℕ → List ℕ → ℕ → Bool
word_stands s w at = every (length w) (λ i. eqb (byte_at s (at + i)) (byte_at w i))
