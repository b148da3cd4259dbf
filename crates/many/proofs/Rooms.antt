-- Room for n answers of w numbers and for their refusals, told by a division. Assumes nothing.
use mathlib.Core.Path.{◌≡◌, ◌∙◌}
use mathlib.Core.Bool.{Bool, true, false, ◌||◌}
use mathlib.Core.List.{[], ◌∷◌}
use Prim.Native.Nat.{ℕ, ◌*◌, ◌/◌, ◌≤◌, ◌<◌, zero-le}
use native.Mathlib.Nat.{mul-zero, div-lt_iff_lt-mul}
use native.Mathlib.Omega.{arith}
use borrow.Author.Tests.{lt-ltb, le-ltb, ltb-true, ltb-false}
use lib.Dec.{ltb}
use Rattle.meaning.proofs.Tests.{refuted, or_left, or_right}
use Rattle.refusal.specs.Refusals.{first_of, refusal, none}
use Rattle.refusal.proofs.Rows.{row-applies, row-passes, no_rows}
use Rattle.many.specs.Many.{room_row}

or_true : (a b : Bool) → b ≡ true → a || b ≡ true
or_true true b h = λ i. true
or_true false b h = h

module _ (n w out refusals : ℕ) where
  pub no_refusals : refusals < n → first_of (room_row n w out refusals ∷ []) ≡ refusal 14
  no_refusals h = row-applies (room_row n w out refusals) [] (or_true (ltb out (n * w)) (ltb refusals n) (lt-ltb refusals n h))

  pub no_places : 0 < w → out / w < n → first_of (room_row n w out refusals ∷ []) ≡ refusal 14
  no_places p h = row-applies (room_row n w out refusals) [] (rw (lt-ltb out (n * w) ((div-lt_iff_lt-mul p).0 h)))

  enough : n * w ≤ out → n ≤ refusals → first_of (room_row n w out refusals ∷ []) ≡ none
  enough h g = row-passes (room_row n w out refusals) [] (rw (le-ltb out (n * w) h, le-ltb refusals n g)) ∙ no_rows

  pub no_width : w ≡ 0 → n ≤ refusals → first_of (room_row n w out refusals ∷ []) ≡ none
  no_width e g = enough (rw (e, mul-zero n) zero-le) g

  pub room_for_all : 0 < w → n ≤ out / w → n ≤ refusals → first_of (room_row n w out refusals ∷ []) ≡ none
  room_for_all p h g =
      enough (ltb-false out (n * w) (refuted (ltb out (n * w)) (λ t. let l = (div-lt_iff_lt-mul p).1 (ltb-true out (n * w) t) in omega arith))) g

  -- what the row says where it does not apply
  pub room_passed : (room_row n w out refusals).applies ≡ false → (n * w ≤ out) × (n ≤ refusals)
  room_passed h = (
    ltb-false out (n * w) (or_left (ltb out (n * w)) (ltb refusals n) h),
    ltb-false refusals n (or_right (ltb out (n * w)) (ltb refusals n) h),
  )
