-- `sheet_read::number` meets its contract: i digits write a number below 16 ^ i.
use Rattle.std.proofs.Common.{◌≡◌, List, [], ◌∷◌, ◌++◌, ◌∙◌, ℕ, ◌+◌, ◌*◌, ◌^◌, ◌<◌, ◌≤◌, length, refl, rules, arith, of_calls, Some}
use Rattle.std.proofs.lemmas.Fn.{serves_by}
use Rattle.std.proofs.lemmas.Iterator.{YieldsList-from_range}
use Rattle.std.proofs.lemmas.Iterator.Consumers.{YieldsList-turn, fold_from_yields_List}
use Rattle.std.proofs.lemmas.List.FromFn.{length-range_with_len, get_or-range_with_len}
use Rattle.std.proofs.lemmas.List.{length_push}
use native.Mathlib.Nat.{sub-zero, zero-add}
use Rattle.sheet_read.specs.Text.{byte_at}
use Rattle.sheet_read.specs.Number.{digit_of, number_at}
use Rattle.sheet_read.proofs.Numerals.{digit_small, larger, fits_word}
use Rattle.sheet_read.proofs.Ranges.{fold_listed}
use Rattle.sheet_read.proofs.number.Goals as goal

-- one digit more
grown : (xs : List ℕ) (x : ℕ) {v base d w : ℕ} → w ≡ v * base + d → base ≤ 16 → d < 16 → v < 16 ^ length xs → w < 16 ^ length (xs ++ x ∷ [])
grown xs x e g k h = rw (length_push xs x, e) (larger (length xs) h g k)

-- and it fits
room : (i : ℕ) {v base d : ℕ} → v < 16 ^ i → base ≤ 16 → i < 16 → d < 16 → v * base + d < 2 ^ 64
room i h g l k = fits_word (i + 1) (larger i h g k) (omega arith)

pub fold-requires-clause-callable : goal.fold-requires-clause-callable
fold-requires-clause-callable c =
    let road = YieldsList-from_range 0 c.args.n c.args.n refl (sub-zero _) in
    serves_by _ (λ xs p. (p.0.0.now ≡ c.args.base) × (p.0.2.now ≡ c.args.at) × (p.1 < 16 ^ length xs)) (λ xs q x v j k. (
      search rules,
      search rules,
      let e : v.1 ≡ q.1 * q.0.0.now + digit_of (byte_at q.0.1.now (q.0.2.now + x)) = search rules in
          let low : q.0.0.now ≤ 16 = omega (arith, j.0, c.requires.fact_1) in
          grown xs x e low (digit_small _) j.2,
    )) _ _ _ _ (refl, refl, omega arith)
    (λ xs t q x u y st j.
    let turn = YieldsList-turn road xs t y (Some x) u x refl st in
    let small : length xs < c.args.n = omega (arith, turn.0, length-range_with_len 0 c.args.n) in
    let low : q.0.0.now ≤ 16 = omega (arith, j.0, c.requires.fact_1) in
    let at_x : x ≡ length xs = turn.1 ∙ get_or-range_with_len 0 c.args.n (length xs) x small ∙ zero-add (length xs) in
    let place : q.0.2.now + x < 2 ^ 64 = omega (arith, j.1, at_x, small, c.requires.fact_2, c.requires.fact_3) in
    let most : q.1 * q.0.0.now + 15 < 2 ^ 64 = room (length xs) j.2 low (omega (arith, small, c.requires.fact_2)) (omega arith) in
    search of_calls)

pub returns : goal.returns
unfolding number_at
returns c =
    let a = c.args in
    let h = λ (v i : ℕ). v * a.base + digit_of (byte_at a.s.now (a.at + i)) in
    fold_from_yields_List _ h 0 _ c.fold.ensures.ran (YieldsList-from_range 0 a.n a.n refl (sub-zero _)) (λ v x b q k. search rules) ∙ fold_listed h a.n 0
