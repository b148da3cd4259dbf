-- An input that was cut to its room is answered like the whole, and the answer lies in its own. Assumes nothing.
use mathlib.Core.Path.{◌≡◌, sym, ap, ◌∙◌, subst}
use mathlib.Core.Bool.{false}
use mathlib.Core.List.{List}
use Prim.Native.Nat.{ℕ, min, ◌≤◌, ◌<◌, zero-le}
use native.Mathlib.Nat.{min-eq_left, min-eq_right, le_refl, zero-add}
use native.Mathlib.Omega.{arith}
use borrow.Author.Tests.{leb-true, leb-false, le-ltb}
use lib.Dec.{leb}
use lib.ListN.{length, take, replicate, length-replicate}
use lib.Seq.{paste, take_all, take-paste, take-length, length-take-le}
use lib.Ieee.{Float}
use Rattle.meaning.proofs.Tests.{by_two, refuted}
use Rattle.refusal.specs.Refusals.{refusal}
use Rattle.sheet_read.specs.Grammar.{sheet_of}
use Rattle.sheet_read.proofs.Longest.{longest}
use Rattle.sheet_text.specs.Printed.{refusal_text}
use Rattle.curve.specs.Build.{Built}
use Rattle.sheet_text.specs.Answer.{parameters_of, too_short, Answered}
use Rattle.sheet_text.specs.Promise.{BuiltPromise, SheetPromise}
use Rattle.sheet_rooms.specs.declared.Answer.{Answer}
use Rattle.sheet_rooms.specs.Reply.{reply_text, reply_to, ReplyPromise, ReadInto, Replies}
use Rattle.sheet_rooms.proofs.Works.{build_is, answer_is}

-- ---- the input

too_long : (s : List ℕ) → 20878 ≤ length s → reply_text s ≡ refusal_text (refusal 16)
unfolding reply_text
too_long s h = rw (refuted (sheet_of s).formed (λ e. omega (arith, longest s e)))

-- a room of 20,878 bytes or more
pub cut : (s : List ℕ) (m : ℕ) → 20878 ≤ m → reply_text (take m s) ≡ reply_text s
cut s m h =
    by_two (leb (length s) m)
    (λ e. ap reply_text (take_all m s (leb-true (length s) m e)))
    (λ e.
    let l : m < length s = leb-false (length s) m e in
    too_long (take m s) (omega (arith, length-take-le m s (omega arith))) ∙ sym (too_long s (omega arith)))

pub read_reply : {room : List ℕ} {n : ℕ} {input : List ℕ} → 20878 ≤ length room → ReadInto room n input → reply_text (take n room) ≡ reply_text input
read_reply {room} {n} {input} h r =
    ap reply_text r.bytes
    ∙ by_two (leb (length input) (length room))
    (λ e. ap reply_text (take_all n input (omega (arith, r.count, min-eq_left (leb-true (length input) (length room) e)))))
    (λ e.
    let l : length room < length input = leb-false (length input) (length room) e in
    cut input n (omega (arith, r.count, min-eq_right {n = length room} {m = length input} (omega arith))))

-- a count of more bytes than the room has counts all of them
take_least : {A : Type 0} (n : ℕ) (l : List A) → take (min n (length l)) l ≡ take n l
take_least n l =
    by_two (leb n (length l))
    (λ e. ap (λ (k : ℕ). take k l) (min-eq_left (leb-true n (length l) e)))
    (λ e.
    let h : length l < n = leb-false n (length l) e in
    ap (λ (k : ℕ). take k l) (min-eq_right {n = length l} {m = n} (omega arith))
    ∙ take_all (length l) l (le_refl (length l))
    ∙ sym (take_all n l (omega arith)))

-- ---- the answer

module _ {s out : List ℕ} {work : List Float} (room : 36876 ≤ length out) (enough : 4488 ≤ length work) {n : ℕ} {out' : List ℕ} {work' : List Float}
    (a : Answered s out work n out' work') where
  count_is : n ≡ length (reply_text s)
  count_is = a.count ∙ rw (le-ltb (length out) 36876 room, answer_is work enough s)

  bytes_are : out' ≡ paste out 0 (reply_text s) (length (reply_text s))
  bytes_are = a.bytes ∙ rw (le-ltb (length out) 36876 room, answer_is work enough s)

  -- the text stands in front
  front_is : take n out' ≡ reply_text s
  front_is =
      let t = reply_text s in
      (λ i. take (count_is i) (bytes_are i))
      ∙ ap (λ (k : ℕ). take k (paste out 0 t (length t))) (sym (zero-add (length t)))
      ∙ take-paste out 0 t (length t) zero-le (le_refl (length t))
      ∙ take-length t

-- ---- what the function has, by its rooms

out-room : 36876 ≤ length (replicate {A = ℕ} 36876 0)
out-room = omega (arith, length-replicate {A = ℕ} 36876 0)

module _ (room : List ℕ) (n : ℕ) {k : ℕ} {work : List Float} {count : ℕ} {out' : List ℕ} {work' : List Float} (taken : k ≡ min n (length room))
    (a : Answered (take k room) (replicate 36876 0) work count out' work') (enough : 4488 ≤ length work) where
  text_is : reply_text (take k room) ≡ reply_text (take n room)
  text_is = ap reply_text (ap (λ (j : ℕ). take j room) taken ∙ take_least n room)

  pub replied : ◌≡◌ {A = Answer} (record { bytes = out'; count = count }) (reply_to (take n room))
  unfolding reply_to
  replied =
      (λ i. record { bytes = bytes_are out-room enough a i; count = count_is out-room enough a i }) ∙ ap (λ (t : List ℕ). record { bytes = paste (replicate 36876 0) 0 t (length t); count = length t }) text_is

  pub promised : (too_short (replicate 36876 0) ≡ false → SheetPromise (take k room) work) → ReplyPromise (take n room)
  promised h =
      subst ReplyPromise (ap (λ (j : ℕ). take j room) taken ∙ take_least n room)
      (λ f. let s = take k room in let x = sheet_of s in
      subst (λ (b : Built). BuiltPromise b (parameters_of s x) x.parameters.count) (build_is work enough s x) (h (le-ltb _ 36876 out-room) f))

  pub replies : 20878 ≤ length room → Replies room n (take count out')
  replies h input r = front_is out-room enough a ∙ text_is ∙ read_reply h r
