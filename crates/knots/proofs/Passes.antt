-- What the passes over the knots tell, which keep in a flag whether each pair so far is as it should be. Assumes nothing.
use mathlib.Core.Path.{◌≡◌, refl, sym, ap, ◌∙◌}
use mathlib.Core.Bool.{Bool, true, false, not, ◌&&◌, ◌||◌, cond}
use mathlib.Core.List.{List, [], ◌∷◌}
use Prim.Native.Nat.{ℕ, suc, ◌+◌, ◌-◌, ◌≤◌, ◌<◌, min}
use native.Mathlib.Omega.{arith}
use native.Mathlib.Nat.{min-eq_left, min-eq_right}
use borrow.Author.Tests.{lt-ltb, not-true, not-false}
use lib.ListN.{length, get_or, take, drop, length-drop}
use lib.Seq.{get_or-take, get_or-drop, length-take-le}
use lib.Dec.{ltb}
use lib.Ieee.{Float, nan, lt, eq, ne}
use lib.Ieee.Scale.{finite}
use Rattle.std.specs.List.{fold, list_all, zip, range_with_len}
use Rattle.std.proofs.lemmas.List.FromFn.{length-range_with_len, get_or-range_with_len}
use Rattle.meaning.specs.Search.{seek_from, some}
use Rattle.meaning.proofs.Searching.{kept_all, all_some, pairs_some}
use Rattle.meaning.proofs.Tests.{or_false}
use Rattle.knots.specs.Rules.{knot, unfit, some_unfit, unlike}
use Rattle.knots.specs.Repeat.{repeats}

-- knots lo on, n of them
part_long : (ks : List Float) (lo n : ℕ) → lo + n ≤ length ks → length (take n (drop lo ks)) ≡ n
part_long ks lo n h = length-take-le n (drop lo ks) (omega (arith, length-drop lo ks))

part_at : (ks : List Float) (lo n i : ℕ) → i < n → get_or (take n (drop lo ks)) i nan ≡ knot ks (lo + i)
part_at ks lo n i h = get_or-take n (drop lo ks) i nan h ∙ get_or-drop lo ks i nan

-- ---- a knot that equals the third after it

not-not : (b : Bool) → b ≡ not (not b)
not-not true = refl
not-not false = refl

pub told_repeats : (ks : List Float) (n : ℕ) → 1 ≤ n
    → fold (λ f j. f && ne (knot ks j) (knot ks (j + 3))) true (range_with_len 1 (n - 1)) ≡ not (some 1 n (repeats ks))
unfolding ne
told_repeats ks n h =
    let js = range_with_len 1 (n - 1) in
    let many = length-range_with_len 1 (n - 1) in
    kept_all (λ j. ne (knot ks j) (knot ks (j + 3))) js true
    ∙ all_some (λ j. ne (knot ks j) (knot ks (j + 3))) 0 js (repeats ks) 1 n (omega (arith, many))
    (λ i l.
    let low : i < n - 1 = omega (arith, many) in
    rw (get_or-range_with_len 1 (n - 1) i 0 low) (not-not (eq (knot ks (1 + i)) (knot ks (1 + i + 3)))))

-- ---- a knot that is not finite, or less than the one before

-- the first by itself, then the others
first_apart : (p : ℕ → Bool) (n : ℕ) → some 0 (suc n) p ≡ p 0 || some 1 (suc n) p
unfolding seek_from
first_apart p n =
    let e : suc n - 0 ≡ suc n = omega arith in
    let f : suc n - 1 ≡ n = omega arith in
    rw (e, f) (by (p 0))
  where
    by : (b : Bool) → ltb (cond b 0 (seek_from 1 n p)) (suc n) ≡ b || ltb (seek_from 1 n p) (suc n)
    by true = lt-ltb 0 (suc n) (omega arith)
    by false = refl

both_fine : (a b c : Bool) → c ≡ not a || b → a && not b ≡ not c
both_fine true b c e = ap not (sym e)
both_fine false b c e = ap not (sym e)

not_and : (a b : Bool) → not a || b ≡ not (a && not b)
not_and true true = refl
not_and true false = refl
not_and false b = refl

pub told_unfit : (ks : List Float) → 1 ≤ length ks
    → fold (λ f p. f && (finite p.1 && not (lt p.1 p.0))) (finite (knot ks 0)) (zip ks (take (length ks - 1) (drop 1 ks))) ≡ not (some_unfit ks)
told_unfit [] h = absurd (omega arith)
told_unfit (k ∷ rest) h =
    let ks = k ∷ rest in
    let n = length rest in
    let others = part_long ks 1 (length ks - 1) (omega arith) in
    let fewer : min (length ks) (length ks - 1) ≡ length ks - 1 = min-eq_right (omega arith) in
    pairs_some (λ p. finite p.1 && not (lt p.1 p.0)) nan nan ks (take (length ks - 1) (drop 1 ks)) (unfit ks) 1 (length ks)
    (rw (others, fewer) (omega arith))
    (λ i l g.
    let e : 1 + i - 1 ≡ i = omega arith in
    rw (part_at ks 1 (length ks - 1) i (omega (arith, others)), e, lt-ltb 0 (1 + i) (omega arith)) (not_and (finite (knot ks (1 + i))) (lt (knot ks (1 + i)) (knot ks i))))
    (finite (knot ks 0))
    ∙ both_fine (finite (knot ks 0)) (some 1 (length ks) (unfit ks)) (some_unfit ks) (first_apart (unfit ks) n ∙ ap (λ b. b || some 1 (length ks) (unfit ks)) (or_false (not (finite (knot ks 0)))))

-- ---- knots that are all equal to one

pub told_first : (ks : List Float) → 4 ≤ length ks → list_all (λ k. eq k (knot ks 0)) (take 4 ks) ≡ not (some 0 4 (unlike ks 0))
unfolding ne
told_first ks h =
    let long = length-take-le 4 ks h in
    all_some (λ k. eq k (knot ks 0)) nan (take 4 ks) (unlike ks 0) 0 4 (omega (arith, long))
    (λ i l.
    let e : 0 + i ≡ i = omega arith in
    rw e (ap (λ (x : Float). not (eq x (knot ks 0))) (sym (get_or-take 4 ks i nan (omega (arith, long))))))

pub told_last : (ks : List Float) (n : ℕ) → length ks ≡ n + 4
    → list_all (λ k. eq k (knot ks (n + 3))) (take (length ks - n) (drop n ks)) ≡ not (some n (n + 4) (unlike ks (n + 3)))
unfolding ne
told_last ks n h =
    let long = part_long ks n (length ks - n) (omega (arith, h)) in
    all_some (λ k. eq k (knot ks (n + 3))) nan (take (length ks - n) (drop n ks)) (unlike ks (n + 3)) n (n + 4) (omega (arith, long, h))
    (λ i l. ap (λ (x : Float). not (eq x (knot ks (n + 3)))) (sym (part_at ks n (length ks - n) i (omega (arith, long)))))

-- ---- what the code's tests say

pub found_by : {r s : Bool} → r ≡ not s → r ≡ false → s ≡ true
found_by e h = not-false _ (sym e ∙ h)

pub none_by : {r s : Bool} → r ≡ not s → r ≡ true → s ≡ false
none_by e h = not-true _ (sym e ∙ h)
