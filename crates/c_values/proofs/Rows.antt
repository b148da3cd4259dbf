-- Values with partials written one behind the other, and their counts. Assumes nothing.
use mathlib.Core.Path.{◌≡◌, refl, sym, ap, ◌∙◌}
use mathlib.Core.List.{List, [], ◌∷◌, ◌++◌, append_assoc, append-nil}
use Prim.Native.Nat.{ℕ, zero, suc, ◌+◌, ◌*◌, ◌≤◌, ◌<◌, zero-le}
use native.Mathlib.Nat.{zero-add, add-zero, suc-add, add-suc}
use native.Mathlib.Numerals.{add-one}
use native.Mathlib.Omega.{arith}
use lib.ListN.{length, set, length-append}
use lib.Seq.{paste, paste-zero, paste-suc}
use lib.Ieee.{Float}
use Rattle.meaning.specs.Search.{listed}
use Rattle.meaning.proofs.Filling.{length-listed, nth_listed}
use Rattle.meaning.proofs.Pasting.{twice}
use Rattle.partials.specs.declared.Dv.{Dv}
use Rattle.c_values.specs.Crossing.{all_numbers}

-- one index more
listed_more : {A : Type 0} (i d : ℕ) (f : ℕ → A) → listed i (suc d) f ≡ listed i d f ++ (f (i + d) ∷ [])
unfolding listed
listed_more i zero f = ap (λ (k : ℕ). f k ∷ []) (sym (add-zero i))
listed_more {A} i (suc d) f =
    ap (λ (l : List A). f i ∷ l) (listed_more (suc i) d f)
    ∙ ap (λ (k : ℕ). f i ∷ (listed (suc i) d f ++ (f k ∷ []))) (suc-add i d ∙ sym (add-suc i d))

pub listed_next : {A : Type 0} (d : ℕ) (f : ℕ → A) → listed 0 (d + 1) f ≡ listed 0 d f ++ (f d ∷ [])
listed_next {A} d f = ap (λ (k : ℕ). listed 0 k f) (add-one d) ∙ listed_more 0 d f ∙ ap (λ (k : ℕ). listed 0 d f ++ (f k ∷ [])) (zero-add d)

-- ---- the numbers

numbers_append : (a b : List Dv) → all_numbers (a ++ b) ≡ all_numbers a ++ all_numbers b
unfolding all_numbers
numbers_append [] b = refl
numbers_append (d ∷ a) b =
    ap (λ (l : List Float). (d.v ∷ d.g) ++ l) (numbers_append a b) ∙ sym (append_assoc (d.v ∷ d.g) (all_numbers a) (all_numbers b))

numbers_more : (a : List Dv) (d : Dv) → all_numbers (a ++ (d ∷ [])) ≡ all_numbers a ++ (d.v ∷ d.g)
unfolding all_numbers
numbers_more a d = numbers_append a (d ∷ []) ∙ ap (λ (l : List Float). all_numbers a ++ l) (append-nil (d.v ∷ d.g))

-- the values ds stand at the front, in 28 numbers each
pub record Written (ds : List Dv) (out l : List Float) : Type 0 where
  pub long : length (all_numbers ds) ≡ 28 * length ds
  pub is : l ≡ paste out 0 (all_numbers ds) (length (all_numbers ds))

pub none_written : (out : List Float) → Written [] out out
unfolding all_numbers
none_written out = record { long = refl; is = paste-zero out 0 [] }

pub none-listed : (f : ℕ → Dv) (out : List Float) → Written (listed 0 0 f) out out
unfolding listed
none-listed f out = none_written out

pub one_written : {ds : List Dv} {out l l' : List Float} {k : ℕ} (d : Dv) → Written ds out l → k ≡ 28 * length ds → length d.g ≡ 27
    → l' ≡ paste l k (d.v ∷ d.g) 28 → Written (ds ++ (d ∷ [])) out l'
one_written {ds} {out} {l} {l'} {k} d a e g p =
    let t = all_numbers ds in
    let u = d.v ∷ d.g in
    let more = numbers_more ds d in
    let wide : length u ≡ 28 = ap suc g in
    let place : k ≡ 0 + length t = omega (arith, a.long) in
    record {
      long = ap length more ∙ length-append t u ∙ omega (arith, a.long, wide, length-append ds (d ∷ []));
      is = p
          ∙ (λ i. paste (a.is i) (place i) u (sym wide i))
          ∙ twice out t u 0 zero-le
          ∙ ap (λ (w : List Float). paste out 0 w (length w)) (sym more);
    }

-- all of them
pub all_written : {ds : List Dv} {out l : List Float} → Written ds out l → l ≡ paste out 0 (all_numbers ds) (28 * length ds)
all_written {ds} {out} a = a.is ∙ ap (λ (k : ℕ). paste out 0 (all_numbers ds) k) a.long

pub all_listed : {out l : List Float} (d : ℕ) (f : ℕ → Dv) → Written (listed 0 d f) out l → l ≡ paste out 0 (all_numbers (listed 0 d f)) (28 * d)
all_listed {out} d f a = all_written a ∙ ap (λ (k : ℕ). paste out 0 (all_numbers (listed 0 d f)) (28 * k)) (length-listed 0 d f)

-- ---- the counts

-- one of d numbers more
pub count_put : (ns : List ℕ) (d i : ℕ) (f : ℕ → ℕ) {l : List ℕ} → d ≤ length ns → i < d → l ≡ paste ns 0 (listed 0 d f) i
    → set l i (f i) ≡ paste ns 0 (listed 0 d f) (i + 1)
count_put ns d i f {l} room h e =
    let s = listed 0 d f in
    (λ j. set (e j) (sym (zero-add i) j) (sym (nth_listed d i f 0 h) j))
    ∙ paste-suc ns 0 s i 0 (omega arith) (omega (arith, length-listed 0 d f))
    ∙ ap (paste ns 0 s) (sym (add-one i))
