-- A move answered in slices: where a rule applies nothing is written, else all is. Assumes nothing.
use mathlib.Core.Path.{◌≡◌, refl, sym, ap, ◌∙◌}
use mathlib.Core.Bool.{Bool, cond}
use mathlib.Core.List.{List}
use mathlib.Core.Logic.{◌⊎◌, inl, inr}
use Prim.Native.Nat.{ℕ, ◌-◌, ◌≤◌}
use native.Mathlib.Nat.{le_refl, min-le_right, min-eq_left}
use native.Mathlib.Omega.{arith}
use borrow.Author.Tests.{ltb-false}
use lib.Dec.{ltb}
use lib.ListN.{length, take, length-take}
use lib.Ieee.{Float}
use Rattle.meaning.proofs.Tests.{or_left, or_right}
use Rattle.refusal.specs.Refusals.{Verdict, Row, passes}
use Rattle.refusal.proofs.Rows.{Passed, number_of}
use Rattle.buffer.specs.Pasted.{pasted}
use Rattle.outcome.specs.Outcome.{answering}
use Rattle.outcome.proofs.Doors.{passes_true, passes_false, put_first}
use Rattle.shape.proofs.Sound.{AllFinite}
use Rattle.curve.specs.declared.Curve.{Curve}
use Rattle.curve.specs.Build.{Built}
use Rattle.curve.specs.Record.{record_rules}
use Rattle.curve.proofs.Recheck.{record_sound}
use Rattle.curve.proofs.Builds.{built-refusal, built_passed, built_curve}
use Rattle.curve.proofs.Put.{put_built}
use Rattle.moving.specs.Moving.{MovedOut, moved, move_rules, moved_by, moved_out, lacks_room, moved_into}
use Rattle.moving.proofs.Accepted.{there, parts, xs_finite, ys_finite, moved_passes}

module _ (c : Curve) (i : ℕ) (x y : Float) (xs ys : List Float) (l : Float) where
  abbrev rules : List Row
  rules = move_rules c i x y (lacks_room c xs ys)

  abbrev new : Curve
  new = moved c i x y

  -- the record has all its control points, and there is room for them
  module _ (passed : Passed rules) where
    all : (cs : List Float) → AllFinite c.points cs → c.points ≤ length cs
    all cs f =
        let four = ((record_sound c).knots (parts c i x y (lacks_room c xs ys) passed).0).four in
        omega (arith, there cs (c.points - 1) (f (c.points - 1) (omega arith)))

    room-xs : (c.points ≤ length new.xs) × (c.points ≤ length xs)
    room-xs =
        let s = lacks_room c xs ys in
        (all new.xs (xs_finite c i x y s passed), ltb-false _ _ (or_left _ _ (parts c i x y s passed).3))

    room-ys : (c.points ≤ length new.ys) × (c.points ≤ length ys)
    room-ys =
        let s = lacks_room c xs ys in
        (all new.ys (ys_finite c i x y s passed), ltb-false _ _ (or_right (ltb (length xs) c.points) _ (parts c i x y s passed).3))

  module _ {b : Built} {short : Bool} (told : short ≡ lacks_room c xs ys) (answer : b ≡ moved_by c i x y short) where
    is : b ≡ moved_by c i x y (lacks_room c xs ys)
    is = answer ∙ ap (moved_by c i x y) told

    pub moved_into_lem : {xs' ys' : List Float} {l' : Float} → xs' ≡ pasted b.curve.xs b.curve.points xs 0
        → ys' ≡ pasted b.curve.ys b.curve.points ys 0
        → ((b.refusal.number ≡ 0) × (l' ≡ b.curve.length)) ⊎ ((b.refusal.number ≡ 0 → ⊥) × (l' ≡ l))
        → moved_out b.refusal xs' ys' l' ≡ moved_into c i x y xs ys l
    moved_into_lem {l' = l'} p q came =
        let first = put_built rules new is (λ d. d.xs) (λ d. d.points) xs refl refl refl room-xs p in
        let second = put_built rules new is (λ d. d.ys) (λ d. d.points) ys refl refl refl room-ys q in
        let third : l' ≡ cond (passes rules) new.length l = elim came [
          | inl h ↦ h.1 ∙ ap (λ (d : Curve). d.length) (built_curve _ _ is h.0) ∙ rw (passes_true rules (built_passed _ _ is h.0))
          | inr h ↦ h.1 ∙ rw (passes_false rules (λ z. h.0 (number_of (built-refusal _ _ is) ∙ z)))
        ] in
        λ k. moved_out (built-refusal _ _ is k) (first k) (second k) (third k)

    pub refused_into : (b.refusal.number ≡ 0 → ⊥) → moved_out b.refusal xs ys l ≡ moved_into c i x y xs ys l
    unfolding answering
    refused_into h =
        let none = passes_false rules (λ z. h (number_of (built-refusal _ _ is) ∙ z)) in
        rw none (ap (λ (v : Verdict). moved_out v xs ys l) (built-refusal _ _ is))

  -- numbers that were written stand at the front
  front : Passed rules → (numbers out : List Float) → c.points ≤ length numbers → take c.points (answering rules numbers c.points out).out ≡ take c.points numbers
  unfolding answering
  front z numbers out h = rw (passes_true rules z) (put_first c.points c.points out numbers (le_refl c.points) h)

  -- an outcome that is no refusal
  module _ {r : Verdict} {xs' ys' : List Float} {l' : Float} (e : moved_out r xs' ys' l' ≡ moved_into c i x y xs ys l) (z : r.number ≡ 0) where
    passed : Passed rules
    passed = number_of (sym (ap (λ (o : MovedOut). o.refusal) e)) ∙ z

    first : take c.points xs' ≡ take c.points new.xs
    first = ap (λ (o : MovedOut). take c.points o.xs) e ∙ front passed new.xs xs (room-xs passed).0

    second : take c.points ys' ≡ take c.points new.ys
    second = ap (λ (o : MovedOut). take c.points o.ys) e ∙ front passed new.ys ys (room-ys passed).0

    long : (l₁ l₂ : List Float) → take c.points l₁ ≡ take c.points l₂ → c.points ≤ length l₂ → c.points ≤ length l₁
    long l₁ l₂ same h =
        let n = c.points in
        omega (arith, sym (length-take n l₁) ∙ ap length same ∙ length-take n l₂, min-le_right n (length l₁), min-eq_left h)

    -- there are no more control points than a record has room for, and all were written
    pub into_room : (c.points ≤ 66) × (c.points ≤ length xs') × (c.points ≤ length ys')
    into_room = (
      ((record_sound c).knots (parts c i x y (lacks_room c xs ys) passed).0).room,
      long xs' new.xs first (room-xs passed).0,
      long ys' new.ys second (room-ys passed).0,
    )

    -- So a record that begins with what was written, with the length that was, and over the same knots passes the rules by which every question
    -- checks one.
    pub into_accepted : (ps qs : List Float) → take c.points ps ≡ take c.points xs' → take c.points qs ≡ take c.points ys'
        → Passed (record_rules c.knot_count (record { n = c.points; xs = ps; ys = qs; knots = c.knots }) l')
    into_accepted ps qs p q =
        let same : l' ≡ new.length = ap (λ (o : MovedOut). o.length) e ∙ rw (passes_true rules passed) in
        rw same (moved_passes c i x y (lacks_room c xs ys) passed ps qs (p ∙ first) (q ∙ second))
