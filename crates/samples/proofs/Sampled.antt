-- The samples in their room: pair after pair, then the end. Assumes nothing.
use mathlib.Core.Path.{◌≡◌, refl, sym, ap, ◌∙◌, subst}
use mathlib.Core.Bool.{Bool, true, false, not, cond}
use mathlib.Core.List.{List, [], ◌∷◌, ◌++◌}
use Prim.Native.Nat.{ℕ, zero, suc, ◌+◌, ◌-◌, ◌*◌, ◌≤◌, ◌<◌}
use native.Mathlib.Nat.{le_refl, zero-add}
use borrow.Author.Tests.{eq-eqb, ne_eqb}
use native.Mathlib.Numerals.{add-one}
use native.Mathlib.Omega.{arith}
use borrow.Rule.Slice.PartMut.{mid_of, put_mid, mid_len}
use Rattle.std.proofs.lemmas.Slice.{put_mid-paste}
use lib.ListN.{length, get_or, set, take, drop, length-take, length-drop, length-append, get_or-append}
use lib.Seq.{paste, length-paste, length-take-le, get_or-take, get_or-drop, take-append_seam, take-length, take_at, take_all, drop-append-add, drop-drop, drop-cons, set_at, append_snoc}
use lib.Dec.{ltb}
use lib.Ieee.{Float, nan, lt}
use lib.Ieee.Scale.{finite}
use Rattle.meaning.specs.Scalar.{plain}
use Rattle.meaning.specs.Table.{at1}
use Rattle.meaning.specs.Loops.{turns}
use Rattle.std.proofs.Common.{true≢false}
use Rattle.std.specs.Prelude.{Result, Ok, Err, IsErr}
use Rattle.refusal.specs.declared.Refusal.{Refusal}
use Rattle.refusal.specs.Refusals.{Verdict, verdict, row, first_of, is_none}
use Rattle.refusal.proofs.Rows.{ruled}
use Rattle.meaning.specs.Search.{some, listed}
use Rattle.meaning.proofs.Filling.{length-listed, nth_listed}
use Rattle.meaning.proofs.Searching.{some-found, none_found, found_some, found_none}
use Rattle.meaning.proofs.Tests.{by_two}
use Rattle.shape.specs.Shape.{Shape}
use Rattle.outcome.specs.Outcome.{some_wild, delivery_rules, Outcome, outcome, answering}
use Rattle.outcome.proofs.Doors.{Leaves}
use Rattle.samples.specs.Walk.{Walked, walked, walk_of}
use Rattle.samples.specs.Samples.{sample_at, rising_samples, pair_samples, pairs_of, samples_of, counted, count_in, counting}

-- sample s of the list
pub sample_is : (w0 w1 : Float) (per s : ℕ) → s < per → get_or (listed 0 per (sample_at w0 w1 per)) s nan ≡ sample_at w0 w1 per s
sample_is w0 w1 per s h = nth_listed per s (sample_at w0 w1 per) nan h

module _ {A : Type 0} where
  -- what is put behind a front goes on to the same rest
  pub behind : (l p r room : List A) (at per : ℕ) → length l ≡ at → length p ≡ per → room ≡ l ++ drop at r → paste room at p per ≡ (l ++ p) ++ drop (at + per) r
  behind l p r room at per e f q =
      let front : take at (l ++ drop at r) ≡ l = take_at l (drop at r) at e in
      let all : take per p ≡ p = take_all per p (omega arith) in
      let rest : drop (at + per) (l ++ drop at r) ≡ drop (at + per) r = ap (λ (k : ℕ). drop (k + per) (l ++ drop at r)) (sym e) ∙ drop-append-add l (drop at r) per ∙ drop-drop per at r in
      ap (λ (x : List A). paste x at p per) q ∙ (λ i. (front i ++ all i) ++ rest i)

  -- one number more
  pub one_more : (l r : List A) (at : ℕ) (v d : A) → length l ≡ at → at < length r → set (l ++ drop at r) at v ≡ (l ++ (v ∷ [])) ++ drop (at + 1) r
  one_more l r at v d e h =
      ap (λ (x : List A). set (l ++ x) at v) (drop-cons r at d h) ∙ set_at l (get_or r at d) (drop (suc at) r) v at e ∙ sym (append_snoc l v (drop (suc at) r)) ∙ rw (sym (add-one at))

-- ---- the samples of the first i pairs

abbrev pub so_far : List Float → ℕ → ℕ → List Float
so_far ks per i = turns 0 i (λ j l. l ++ pair_samples ks per j) []

turn_more : {S : Type 0} (f : ℕ → S → S) (s : S) (i : ℕ) → turns 0 (i + 1) f s ≡ f i (turns 0 i f s)
unfolding turns
turn_more f s i = ap (λ (n : ℕ). turns 0 n f s) (add-one i) ∙ ap (λ (j : ℕ). f j (turns 0 i f s)) (zero-add i)

more : (ks : List Float) (per i : ℕ) → so_far ks per (i + 1) ≡ so_far ks per i ++ pair_samples ks per i
more ks per i = turn_more (λ j l. l ++ pair_samples ks per j) [] i

-- one pair: all of its samples, or none
module _ (w0 w1 : Float) (per : ℕ) where
  pub all_rising : lt w0 w1 ≡ true → rising_samples w0 w1 per ≡ listed 0 per (sample_at w0 w1 per)
  all_rising h = rw h

  pub none_rising : lt w0 w1 ≡ false → rising_samples w0 w1 per ≡ []
  none_rising h = rw h

  pub length_rising : length (rising_samples w0 w1 per) ≤ per
  length_rising = by_two (lt w0 w1) (λ h. rw (all_rising h, length-listed 0 per (sample_at w0 w1 per)) (le_refl per)) (λ h. rw (none_rising h) (omega arith))

  -- the part of a room that a pair fills
  pub part_sampled : (at : ℕ) (room filled : List Float) → at + per ≤ length room → lt w0 w1 ≡ true
      → filled ≡ listed 0 (length (mid_of at (at + per - at) room)) (sample_at w0 w1 (length (mid_of at (at + per - at) room)))
      → put_mid at (at + per - at) room filled ≡ paste room at (rising_samples w0 w1 per) (length (rising_samples w0 w1 per))
  part_sampled at room filled h l e =
      let m : at + per - at ≡ per = omega arith in
      let long : length (mid_of at (at + per - at) room) ≡ per = mid_len at (at + per) room h ∙ m in
      let all = length-listed 0 per (sample_at w0 w1 per) in
      rw (all_rising l, all)
      (put_mid-paste at (at + per - at) room filled (listed 0 per (sample_at w0 w1 per)) per (e ∙ ap (λ (k : ℕ). listed 0 k (sample_at w0 w1 k)) long) (sym m) (sym all))

-- what the loop keeps: the samples so far in front, and the rest of the room as it was
pub record Sampled (ks : List Float) (per : ℕ) (room₀ : List Float) (i at : ℕ) (room : List Float) : Type 0 where
  pub long : length room ≡ length room₀
  pub count : length (so_far ks per i) ≡ at
  pub few : at ≤ 16 * i
  pub is : room ≡ so_far ks per i ++ drop at room₀

pub sampled-first : (ks : List Float) (per : ℕ) (room₀ : List Float) → Sampled ks per room₀ 0 0 room₀
unfolding turns
sampled-first ks per room₀ = record { long = refl; count = refl; few = omega arith; is = refl }

pub sampled_next : {ks : List Float} {per : ℕ} {room₀ : List Float} {i at : ℕ} {room : List Float} → Sampled ks per room₀ i at room → per ≤ 16
    → {at' : ℕ} {next : List Float} → length next ≡ length room → at' ≡ at + length (pair_samples ks per i) → next ≡ paste room at (pair_samples ks per i) (length (pair_samples ks per i))
    → Sampled ks per room₀ (i + 1) at' next
sampled_next {ks} {per} {room₀} {i} {at} {room} s small {at'} {next} l a e =
    let p = pair_samples ks per i in
    let n = length_rising (at1 plain ks i) (at1 plain ks (i + 1)) per in
    record {
      long = l ∙ s.long;
      count = ap length (more ks per i) ∙ length-append (so_far ks per i) p ∙ rw s.count (sym a);
      few = omega (arith, s.few);
      is = e ∙ behind (so_far ks per i) p room₀ room at (length p) s.count refl s.is ∙ (λ k. sym (more ks per i) k ++ drop (sym a k) room₀);
    }

-- the knots behind the first, one by one
pub next_knot : (ks : List Float) (i : ℕ) → i < length (take (length ks - 1) (drop 1 ks)) → get_or (take (length ks - 1) (drop 1 ks)) i nan ≡ at1 plain ks (i + 1)
next_knot ks i h =
    let low : i < length ks - 1 = omega (arith, length-take (length ks - 1) (drop 1 ks)) in
    let at : 1 + i ≡ i + 1 = omega arith in
    get_or-take (length ks - 1) (drop 1 ks) i nan low ∙ get_or-drop 1 ks i nan ∙ ap (λ (j : ℕ). at1 plain ks j) at

pub other_knots : (ks : List Float) → 1 ≤ length ks → length (take (length ks - 1) (drop 1 ks)) ≡ length ks - 1
other_knots ks h = length-take-le (length ks - 1) (drop 1 ks) (omega (arith, length-drop 1 ks))

-- the pair of this turn, for which there is room
pub pair_next : (ks : List Float) (per : ℕ) {room₀ : List Float} {i at : ℕ} {room : List Float} → Sampled ks per room₀ i at room → per ≤ 16 → at + per ≤ length room
    → {w0 w1 : Float} → w0 ≡ at1 plain ks i → w1 ≡ at1 plain ks (i + 1) → {at' : ℕ} {next : List Float} → at' ≡ at + length (rising_samples w0 w1 per)
    → next ≡ paste room at (rising_samples w0 w1 per) (length (rising_samples w0 w1 per)) → Sampled ks per room₀ (i + 1) at' next
pair_next ks per {room₀} {i} {at} {room} s small fits {w0} {w1} e0 e1 {at'} {next} a e =
    let p = rising_samples w0 w1 per in
    let same : p ≡ pair_samples ks per i = λ k. rising_samples (e0 k) (e1 k) per in
    let few = length_rising w0 w1 per in
    sampled_next s small (ap length e ∙ length-paste room at p (length p) (omega arith) (le_refl (length p))) (a ∙ ap (λ (l : List Float). at + length l) same)
    (e ∙ ap (λ (l : List Float). paste room at l (length l)) same)

-- past the last pair
pub sampled_all : {ks : List Float} {per : ℕ} {room₀ : List Float} {i at : ℕ} {room : List Float} → Sampled ks per room₀ i at room → (n : ℕ) → i ≡ n + 3
    → (at ≡ length (pairs_of n ks per)) × (room ≡ pairs_of n ks per ++ drop at room₀)
sampled_all {ks} {per} {room₀} {i} {at} s n e =
    let all : so_far ks per i ≡ pairs_of n ks per = ap (so_far ks per) (omega (arith, e)) in (
      sym s.count ∙ ap length all,
      s.is ∙ ap (λ (l : List Float). l ++ drop at room₀) all,
    )

-- ---- a test of the numbers in front

pub wild_front : (l r : List Float) → some_wild (l ++ r) (length l) ≡ some_wild l (length l)
wild_front l r =
    by_two (some 0 (length l) q) (λ h. let f = some-found q 0 (length l) h in found_some p 0 (length l) _ f.0 f.1.0 (same _ f.1.0 ∙ f.1.1) ∙ sym h)
    (λ h. found_none p 0 (length l) (λ i g k. same i k ∙ none_found q 0 (length l) h i g k) ∙ sym h)
  where
    p : ℕ → Bool
    p i = not (finite (at1 plain (l ++ r) i))

    q : ℕ → Bool
    q i = not (finite (at1 plain l i))

    same : (i : ℕ) → i < length l → p i ≡ q i
    same i h = ap (λ (x : Float). not (finite x)) (get_or-append l r nan i h)

-- and what is copied of them
pub paste_front : (out l r : List Float) → paste out 0 (l ++ r) (length l) ≡ paste out 0 l (length l)
paste_front out l r = ap (λ (x : List Float). take 0 out ++ x ++ drop (0 + length l) out) (take-append_seam l r ∙ sym (take-length l))

-- so numbers at the front of a longer room are delivered as if they were alone
pub delivered_front : (room l r out : List Float) {k : ℕ} {o : Outcome} → room ≡ l ++ r → k ≡ length l
    → o ≡ answering (delivery_rules room k out) room k out → Leaves (delivery_rules l (length l) out) l (length l) out o
unfolding answering
delivered_front room l r out {k} {o} e n a =
    let b : o ≡ answering (delivery_rules (l ++ r) (length l) out) (l ++ r) (length l) out = rw (e, n) at a in
    let w : first_of (delivery_rules (l ++ r) (length l) out) ≡ first_of (delivery_rules l (length l) out) =
    ap (λ (t : Bool). first_of (row 14 (ltb (length out) (length l)) ∷ row 15 t ∷ [])) (wild_front l r) in
    record { is = b ∙ λ i. outcome (w i) (cond (is_none (w i)) (paste_front out l r i) out) }

-- ---- all of the samples, and their count

module _ (c : Shape Float) (per : ℕ) where
  abbrev pairs : List Float
  pairs = pairs_of c.n c.knots per

  pub samples_count : {at : ℕ} → at ≡ length (pairs_of c.n c.knots per) → length (samples_of c per) ≡ at + 1
  unfolding samples_of
  samples_count e = length-append pairs (at1 plain c.knots (c.n + 3) ∷ []) ∙ ap (λ (k : ℕ). k + 1) (sym e)

  pub samples_room : (room₀ : List Float) {room : List Float} {at : ℕ} → at < length room₀ → at ≡ length (pairs_of c.n c.knots per)
      → room ≡ pairs_of c.n c.knots per ++ drop at room₀
      → set room at (at1 plain c.knots (c.n + 3)) ≡ samples_of c per ++ drop (at + 1) room₀
  unfolding samples_of
  samples_room room₀ {room} {at} h e q =
      ap (λ (x : List Float). set x at (at1 plain c.knots (c.n + 3))) q ∙ one_more pairs room₀ at (at1 plain c.knots (c.n + 3)) nan (sym e) h

-- what a walk leaves in its room
module _ (n : ℕ) (us : List Float) (per : ℕ) (room : List Float) {k : ℕ} {room' : List Float} (e : walked k room' ≡ walk_of n us per room) where
  pub walk_count : k ≡ length (samples_of (record { n = n; xs = []; ys = []; knots = us }) per)
  unfolding walk_of
  walk_count = ap (λ (w : Walked). w.count) e

  pub walk_room : room' ≡ samples_of (record { n = n; xs = []; ys = []; knots = us }) per ++ drop (length (samples_of (record { n = n; xs = []; ys = []; knots = us }) per)) room
  unfolding walk_of
  walk_room = ap (λ (w : Walked). w.room) e

-- ---- two curves with the same first n + 4 knots

module _ (c d : Shape Float) (per : ℕ) (n : c.n ≡ d.n) (same : (i : ℕ) → i < c.n + 4 → at1 plain c.knots i ≡ at1 plain d.knots i) where
  same_pairs : (m : ℕ) → m ≤ c.n + 3 → so_far c.knots per m ≡ so_far d.knots per m
  unfolding turns
  same_pairs zero h = refl
  same_pairs (suc m) h =
      let before = same_pairs m (omega arith) in
      let w0 = same (0 + m) (omega arith) in
      let w1 = same (0 + m + 1) (omega arith) in
      λ k. before k ++ rising_samples (w0 k) (w1 k) per

  pub same_samples : samples_of c per ≡ samples_of d per
  unfolding samples_of
  same_samples =
      let pairs : pairs_of c.n c.knots per ≡ pairs_of d.n d.knots per =
      same_pairs (c.n + 3 - 0) (omega arith) ∙ ap (λ (m : ℕ). pairs_of m d.knots per) n in
      let end : at1 plain c.knots (c.n + 3) ≡ at1 plain d.knots (d.n + 3) =
      same (c.n + 3) (omega arith) ∙ ap (λ (m : ℕ). at1 plain d.knots (m + 3)) n in
      λ k. pairs k ++ (end k ∷ [])

-- the count stands beside an outcome
module _ {r : Verdict} {out' : List Float} {o : Outcome} (e : outcome r out' ≡ o) (k n : ℕ) where
  pub count_stays : (r.number ≡ 0 → ⊥) → counted r out' n ≡ counting o k n
  count_stays h = subst (λ (x : Outcome). counted r out' n ≡ counting x k n) e (rw (ne_eqb r.number 0 h))

  pub count-given : r.number ≡ 0 → {n' : ℕ} → n' ≡ k → counted r out' n' ≡ counting o k n
  count-given z {n'} q = subst (λ (x : Outcome). counted r out' n' ≡ counting x k n) e (ap (counted r out') (q ∙ sym (ap (λ (b : Bool). cond b k n) (eq-eqb r.number 0 z))))

-- no count is answered with a refusal
pub count_refused : (y : Result ℕ Refusal) → IsErr y → {out' : List Float} {o : Outcome} → outcome (verdict y) out' ≡ o → (k n : ℕ)
    → counted (verdict y) out' (count_in y n) ≡ counting o k n
count_refused (Ok x) h e k n = absurd (true≢false (sym h))
count_refused (Err r) h e k n = count_stays e k n (ruled r)
