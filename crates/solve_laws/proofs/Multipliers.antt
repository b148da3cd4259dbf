-- A multiplier that is not finite shows in what its row stores, in the pivot's column first. So it need not be judged. Assumes nothing.
use mathlib.Core.Path.{◌≡◌, refl, sym, ◌∙◌}
use mathlib.Core.Bool.{Bool, true, false}
use mathlib.Core.List.{List}
use Prim.Native.Nat.{ℕ, zero, suc, ◌<◌}
use native.Mathlib.Nat.{le_refl}
use borrow.Author.Tests.{le-ltb}
use lib.Dec.{ltb, eqb-suc-zero}
use lib.ListN.{length, drop}
use lib.Ieee.{Float, nan, inf, fin, binary64, add, sub, neg, mul, div, eq}
use lib.Ieee.Scale.{finite}
use Rattle.meaning.specs.Scalar.{plain, zero64}
use Rattle.meaning.specs.Table.{at1}
use Rattle.meaning.proofs.Tests.{no, by_two}
use Rattle.meaning.proofs.Every.{each}
use Rattle.solve.specs.Elimination.{less_by, less_at, reduced}
use Rattle.solve.specs.Verdicts.{fine_at, subtracted_ok}
use Rattle.solve.proofs.Steps.{fine-at}
use Rattle.solve.proofs.Stored.{sub_stored}
use Rattle.solve.specs.Stored.{all_fine}
use Rattle.solve_laws.proofs.Zeros.{times_wild}

wild_times : (x y : Float) → finite x ≡ false → finite (mul binary64 x y) ≡ false
unfolding mul
wild_times (fin s m e) y h = no (sym h)
wild_times nan nan h = refl
wild_times nan (inf t) h = refl
wild_times nan (fin t n d) h = refl
wild_times (inf s) nan h = refl
wild_times (inf s) (inf t) h = refl
wild_times (inf s) (fin t zero d) h = refl
wild_times (inf s) (fin t (suc n) d) h = rw (eqb-suc-zero n)

less_wild : (x y : Float) → finite y ≡ false → finite (sub binary64 x y) ≡ false
unfolding sub add neg
less_wild x (fin t n d) h = no (sym h)
less_wild nan nan h = refl
less_wild (inf s) nan h = refl
less_wild (fin s m e) nan h = refl
less_wild nan (inf t) h = refl
less_wild (inf true) (inf true) h = refl
less_wild (inf true) (inf false) h = refl
less_wild (inf false) (inf true) h = refl
less_wild (inf false) (inf false) h = refl
less_wild (fin s m e) (inf t) h = refl

less_by_wild : (matrix : Bool) (f x y : Float) → finite f ≡ false → finite (less_by plain matrix f x y) ≡ false
less_by_wild true f x y h = less_wild x (mul binary64 f y) (wild_times f y h)
less_by_wild false f x y h = less_wild x (mul binary64 y f) (times_wild y f h)

-- the row t, not skipped, reduced by the pivot row p
pub multiplier_shows : (n col : ℕ) (p t : List Float) → col < length t → eq (at1 plain t col) zero64 ≡ false
    → all_fine plain (drop col (reduced plain n col p t)) ≡ true → finite (div binary64 (at1 plain t col) (at1 plain p col)) ≡ true
unfolding reduced subtracted_ok less_at
multiplier_shows n col p t h z ok =
    let f = div binary64 (at1 plain t col) (at1 plain p col) in
    let all : subtracted_ok plain n col f p t ≡ true = sym (sub_stored plain n col f p t) ∙ rw z at ok in
    let here = fine-at plain n col f p t col (le_refl col) ∙ each (length t) (fine_at plain n col f p t) all col h in
    by_two (finite f) (λ e. e)
    (λ e. no (sym (less_by_wild (ltb col n) f (at1 plain t col) (at1 plain p col) e) ∙ rw (le-ltb col col (le_refl col)) at here))
