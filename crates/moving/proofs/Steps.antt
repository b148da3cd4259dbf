-- What a move answers, from the tests that it makes one after the other. Assumes nothing.
use mathlib.Core.Path.{◌≡◌, sym, ap, ◌∙◌}
use mathlib.Core.Bool.{Bool, true, false, not}
use mathlib.Core.List.{List, [], ◌∷◌}
use Prim.Native.Nat.{ℕ, ◌≤◌, ◌<◌}
use borrow.Author.Tests.{lt-ltb, le-ltb}
use lib.Dec.{T, ltb}
use lib.Ieee.{Float}
use lib.Ieee.Scale.{finite}
use Rattle.refusal.specs.Refusals.{Verdict, Row, row, first_of, refusal}
use Rattle.refusal.proofs.Rows.{number_of, numbered, passed_none}
use Rattle.outcome.specs.Outcome.{either_wild}
use Rattle.shape.specs.Offered.{with11}
use Rattle.shape.proofs.With.{with_numbered}
use Rattle.curve.specs.declared.Curve.{Curve}
use Rattle.curve.specs.Build.{Built}
use Rattle.curve.specs.Record.{by_record}
use Rattle.curve.proofs.Recheck.{record_sound}
use Rattle.curve.proofs.Builds.{unbuilt, made, Makes, makes, stop_made, pass_made, done_made, refused_made, after_made}
use Rattle.moving.specs.Moving.{moved, move_rules, moved_by}

-- the record's rules with 11 for the point
abbrev pub checks : Curve → Float → Float → List Row
checks c x y = with11 (either_wild x y) (by_record c).rules

pub numbered_checks : (c : Curve) (x y : Float) → T (numbered (checks c x y))
numbered_checks c x y = with_numbered (either_wild x y) (by_record c).rules (record_sound c).counted

module _ (c : Curve) (i : ℕ) (x y : Float) (short : Bool) {r : Verdict} (known : r ≡ first_of (checks c x y)) where
  abbrev new : Curve
  new = moved c i x y

  pub by_record_lem : {b : Built} → (r.number ≡ 0 → ⊥) → b ≡ unbuilt r → b ≡ moved_by c i x y short
  unfolding move_rules
  by_record_lem h e = makes (refused_made (checks c x y) _ known h e)

  module _ (passed : r.number ≡ 0) where
    -- the rules that are left
    past : {b : Built} → Makes (row 17 (not (ltb i c.points)) ∷ row 14 short ∷ row 15 (not (finite new.length)) ∷ []) new b → b ≡ moved_by c i x y short
    unfolding move_rules
    past m = makes (after_made (checks c x y) (numbered_checks c x y) (number_of (sym known) ∙ passed) m)

    pub by_index : {b : Built} → c.points ≤ i → b ≡ unbuilt (refusal 17) → b ≡ moved_by c i x y short
    by_index h e = past (stop_made 16 e (ap not (le-ltb i c.points h)))

    module _ (low : i < c.points) where
      past_index : {b : Built} → Makes (row 14 short ∷ row 15 (not (finite new.length)) ∷ []) new b → b ≡ moved_by c i x y short
      past_index m = past (pass_made 17 (ap not (lt-ltb i c.points low)) m)

      pub by_room : {b : Built} → short ≡ true → b ≡ unbuilt (refusal 14) → b ≡ moved_by c i x y short
      by_room h e = past_index (stop_made 13 e h)

      module _ (room : short ≡ false) where
        pub by_new_length : {b : Built} → finite new.length ≡ false → b ≡ unbuilt (refusal 15) → b ≡ moved_by c i x y short
        by_new_length h e = past_index (pass_made 14 room (stop_made 14 e (ap not h)))

        pub is_moved : {d : Curve} → finite new.length ≡ true → d ≡ new → made r d ≡ moved_by c i x y short
        is_moved h e =
            ap (made r) e
            ∙ past_index
            (pass_made 14 room
            (pass_made 15 (ap not h) (done_made (known ∙ passed_none (checks c x y) (numbered_checks c x y) (number_of (sym known) ∙ passed)))))
