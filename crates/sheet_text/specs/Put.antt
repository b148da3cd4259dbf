-- Inner: a text put into a lent slice, which only private contracts cite.
use Rattle.std.specs.Prelude.{◌≡◌, List, ℕ, ◌+◌, ◌≤◌, length}
use Rattle.std.proofs.Math.Seq.{paste}
use Rattle.sheet_text.specs.declared.Page.{Page}

-- there was room for the text w from index `at` on, and `out` holds it there afterwards; `at'` is the index after it
pub record Put (out : List ℕ) (at : ℕ) (w : List ℕ) (out' : List ℕ) (at' : ℕ) : Type 0 where
  pub room : at + length w ≤ length out
  pub long : length out' ≡ length out
  pub bytes : out' ≡ paste out at w (length w)
  pub place : at' ≡ at + length w

-- q is the page p with the text w behind what was written
abbrev pub Puts : Page → List ℕ → Page → Type 0
Puts p w q = Put p.room.now p.at w q.room.now q.at
