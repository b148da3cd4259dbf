-- Texts put into a slice one after the other. Assumes nothing.
use mathlib.Core.Path.{◌≡◌, refl, sym, ap, ◌∙◌}
use mathlib.Core.List.{List, [], ◌∷◌, ◌++◌}
use Prim.Native.Nat.{ℕ, ◌+◌, ◌-◌, ◌*◌, ◌/◌, ◌%◌, ◌^◌, ◌≤◌, ◌<◌}
use native.Mathlib.Nat.{add-zero, add_assoc}
use native.Mathlib.Omega.{arith}
use borrow.Author.Tests.{ltb-true, ltb-false, lt-ltb, le-ltb}
use lib.Dec.{ltb}
use lib.Ieee.{Float, binary64, to_bits}
use lib.ListN.{length, length-append}
use lib.Seq.{paste, paste-zero}
use Rattle.meaning.proofs.Tests.{by_two}
use Rattle.meaning.proofs.Filling.{length-listed}
use Rattle.meaning.proofs.Pasting.{twice}
use Rattle.sheet_read.specs.Text.{text}
use Rattle.sheet_read.specs.Number.{glyph}
use Rattle.sheet_text.specs.Printed.{hex_text, decimal_text, double_text, refusal_text, head_text, point_text}
use Rattle.sheet_text.specs.Put.{Put}
use Rattle.refusal.specs.Refusals.{Verdict}

module _ {out : List ℕ} {at : ℕ} where
  -- nothing is put in
  pub nothing : at ≤ length out → Put out at [] out at
  nothing h = record { room = omega arith; long = refl; bytes = paste-zero out at []; place = sym (add-zero at) }

  -- one text after another
  pub joined : {t u out' out'' : List ℕ} {at' at'' : ℕ} → Put out at t out' at' → Put out' at' u out'' at'' → Put out at (t ++ u) out'' at''
  joined {t} {u} {out'} {out''} {at'} {at''} a b =
      record {
        room = rw (length-append t u) (omega (arith, a.room, a.long, a.place, b.room));
        long = b.long ∙ a.long;
        bytes = b.bytes ∙ (λ i. paste (a.bytes i) (a.place i) u (length u)) ∙ twice out t u at (omega (arith, a.room));
        place = b.place ∙ ap (λ (n : ℕ). n + length u) a.place ∙ add_assoc at (length t) (length u) ∙ ap (λ (n : ℕ). at + n) (sym (length-append t u));
      }

-- ---- how long the texts are

module _ (n : ℕ) where
  pub one_digit : n < 10 → decimal_text n ≡ glyph n ∷ []
  unfolding decimal_text
  one_digit h = rw (lt-ltb n 10 h)

  pub two_digits : 10 ≤ n → decimal_text n ≡ glyph (n / 10 % 10) ∷ glyph (n % 10) ∷ []
  unfolding decimal_text
  two_digits h = rw (le-ltb n 10 h)

  pub few_decimal : length (decimal_text n) ≤ 2
  few_decimal = by_two (ltb n 10) (λ h. rw (one_digit (ltb-true n 10 h)) (omega arith)) (λ h. rw (two_digits (ltb-false n 10 h)) (omega arith))

  pub hex_long : length (hex_text n) ≡ 16
  unfolding hex_text
  hex_long = length-listed 0 16 (λ i. glyph (n / 2 ^ (60 - 4 * i) % 16))

-- ---- how long the lines are

pub double-long : (x : Float) → length (double_text x) ≡ 16
unfolding double_text
double-long x = hex_long (to_bits binary64 x)

line_end : (t : List ℕ) → length (t ++ text "\n") ≡ length t + 1
line_end t = length-append t (text "\n")

pub refusal_short : (r : Verdict) → length (refusal_text r) ≤ 5
unfolding refusal_text
refusal_short r = rw (line_end (text "r " ++ decimal_text r.number)) (omega (arith, few_decimal r.number))

pub head_short : (n k : ℕ) → length (head_text n k) ≤ 12
unfolding head_text
head_short n k =
    rw (length-append (text "curve " ++ decimal_text n) ((text " " ++ decimal_text k) ++ text "\n"), line_end (text " " ++ decimal_text k))
    (omega (arith, few_decimal n, few_decimal k))

pub point_long : (x y : Float) → length (point_text x y) ≡ 36
unfolding point_text
point_long x y =
    length-append (text "p " ++ double_text x) ((text " " ++ double_text y) ++ text "\n")
    ∙ omega (arith, line_end (text " " ++ double_text y), double-long x, double-long y)
