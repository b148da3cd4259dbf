-- What std's methods on slices answer, in the words of the grammar. Assumes nothing.
use mathlib.Core.Path.{◌≡◌, sym, ap, ◌∙◌}
use mathlib.Core.Bool.{Bool, true, false, not, ◌&&◌}
use mathlib.Core.List.{List, [], ◌∷◌}
use Prim.Native.Nat.{ℕ, suc, ◌+◌, ◌-◌, ◌≤◌, ◌<◌, zero-le, min}
use native.Mathlib.Omega.{arith}
use borrow.Author.Tests.{ltb-true, ltb-false, eqb-true, eq-eqb, ne_eqb}
use lib.Dec.{eqb, ltb}
use lib.ListN.{length, take, drop, get_or-eq_default}
use Rattle.std.specs.List.{starts_with, prefix_len}
use Rattle.std.proofs.lemmas.List.{get_or-drop, get_or-take, length-take, length-drop}
use Rattle.std.proofs.lemmas.List.Sums.{prefix_len_passes, prefix_len_stops, prefix_len-le-length}
use Rattle.meaning.specs.Search.{every}
use Rattle.meaning.proofs.Tests.{refuted, by_two, same_test, and_left, and_right}
use Rattle.meaning.proofs.Every.{every-none, every_front, every_same, each}
use Rattle.meaning.proofs.Searching.{seek_is}
use Rattle.sheet_read.specs.Text.{byte_at, solid, word_stands}
use Rattle.sheet_read.specs.Number.{is_decimal, digits_at}

same_other : (a b : ℕ) → eqb a b ≡ eqb b a
same_other a b = same_test (eqb a b) (eqb b a) (λ h. eq-eqb b a (sym (eqb-true a b h))) (λ h. eq-eqb a b (sym (eqb-true b a h)))

-- ---- a word

visible : (w : List ℕ) → solid w ≡ true → 1 ≤ length w → 0 < byte_at w 0
visible [] h l = absurd (omega arith)
visible (x ∷ w) h l = ltb-true 0 x (and_left (ltb 0 x) (solid w) h)

-- a text begins with a word, no byte of which is 0, where each byte of the word stands in it
begins : (t w : List ℕ) → solid w ≡ true → starts_with eqb t w ≡ every (length w) (λ i. eqb (byte_at t i) (byte_at w i))
begins t [] h = every-none _
begins [] (x ∷ w) h =
    sym (every_front (length w) (λ i. eqb (byte_at [] i) (byte_at (x ∷ w) i))
    ∙ ap (λ (b : Bool). b && every (length w) (λ i. eqb (byte_at [] (suc i)) (byte_at (x ∷ w) (suc i))))
    (ne_eqb 0 x (λ e. absurd (omega (arith, e, ltb-true 0 x (and_left (ltb 0 x) (solid w) h))))))
begins (y ∷ t) (x ∷ w) h =
    (λ i. same_other x y i && begins t w (and_right (ltb 0 x) (solid w) h) i)
    ∙ sym (every_front (length w) (λ i. eqb (byte_at (y ∷ t) i) (byte_at (x ∷ w) i)))

module _ (s w : List ℕ) (at : ℕ) where
  pub word_begins : solid w ≡ true → starts_with eqb (drop at s) w ≡ word_stands s w at
  unfolding word_stands
  word_begins h = begins (drop at s) w h ∙ every_same (length w) _ _ (λ i l. ap (λ (b : ℕ). eqb b (byte_at w i)) (get_or-drop at s i 0))

  -- no word stands past the end
  pub no_word_past : solid w ≡ true → 1 ≤ length w → length s < at → word_stands s w at ≡ false
  unfolding word_stands
  no_word_past h l p =
      refuted _ (λ q.
      let first : byte_at w 0 ≡ byte_at s (at + 0) = sym (eqb-true _ _ (each (length w) (λ i. eqb (byte_at s (at + i)) (byte_at w i)) q 0 l)) in
      absurd (omega (arith, first, get_or-eq_default s 0 {n = at + 0} (omega arith), visible w h l)))

-- ---- digits

module _ (s : List ℕ) (at : ℕ) where
  pub digits_counted : prefix_len is_decimal (take 4 (drop at s)) ≡ digits_at s at
  unfolding digits_at
  digits_counted =
      let t = take 4 (drop at s) in
      let n = prefix_len is_decimal t in
      let long : length t ≡ min 4 (length s - at) = length-take 4 (drop at s) ∙ ap (λ (k : ℕ). min 4 k) (length-drop at s) in
      let l : n ≤ length t = prefix_len-le-length is_decimal t in
      let here : (i : ℕ) → i < 4 → byte_at t i ≡ byte_at s (at + i) = λ i k. get_or-take 4 (drop at s) i 0 k ∙ get_or-drop at s i 0 in
      seek_is (λ i. not (is_decimal (byte_at s (at + i)))) 0 4 n
      (record {
        low = zero-le;
        high = omega arith;
        before = λ i g k. ap not (ap is_decimal (sym (here i (omega arith))) ∙ prefix_len_passes is_decimal t i 0 k);
        found = λ k.
            by_two (ltb n (length t)) (λ g. ap not (ap is_decimal (sym (here n k)) ∙ prefix_len_stops is_decimal t 0 (ltb-true n (length t) g)))
            (λ g. ap (λ (b : ℕ). not (is_decimal b)) (get_or-eq_default s 0 (let m : length t ≤ n = ltb-false n (length t) g in omega arith)));
      })
