-- A parameter that is answered is where Newton's rounds lead from the first of the nearest samples. Assumes nothing.
use mathlib.Core.Path.{◌≡◌, sym, ap}
use mathlib.Core.Bool.{true, not, ◌||◌}
use mathlib.Core.List.{List, [], ◌∷◌}
use Prim.Native.Nat.{ℕ}
use borrow.Author.Tests.{not-false}
use lib.Dec.{T}
use lib.Ieee.{Float, is_nan}
use Rattle.meaning.specs.Scalar.{plain}
use Rattle.meaning.specs.Table.{at1}
use Rattle.meaning.proofs.Tests.{or_left}
use Rattle.refusal.specs.Refusals.{row}
use Rattle.refusal.proofs.Rows.{Passed, number_of, numbered, row_passed, both_pass}
use Rattle.outcome.specs.Outcome.{either_wild}
use Rattle.outcome.specs.Told.{Values, told, telling}
use Rattle.std.specs.Prelude.{Ok}
use Rattle.outcome.proofs.Doors.{passes_true}
use Rattle.plane.specs.Vector.{Vector}
use Rattle.shape.specs.Shape.{Shape}
use Rattle.shape.specs.Offered.{Offered, in_slices, with11}
use Rattle.shape.proofs.Sound.{slices_sound}
use Rattle.shape.proofs.With.{with_numbered}
use Rattle.curve.specs.declared.Curve.{Curve}
use Rattle.curve.specs.Record.{by_record}
use Rattle.curve.proofs.Recheck.{record_sound}
use Rattle.closest.specs.Nearest.{first_nearest}
use Rattle.closest.specs.Search.{samples_in, distance_at, samples_fine, nearest_sample, newton_from, closest_of, search_rules, closest_answer}
use Rattle.closest.proofs.Least.{IsFirst, first_nearest_lem}

-- t comes from sample k, the first of the nearest
pub record FromNearest (c : Shape Float) (p : Vector Float) (t : Float) : Type 0 where
  pub k : ℕ
  pub nearest : IsFirst (distance_at c p) (samples_in c) k
  pub rounds : t ≡ newton_from c p (at1 plain (samples_in c) k)

module _ (who : Offered) (p : Vector Float) (t : Float) (n : T (numbered who.rules)) (e : told (Ok t) ≡ closest_answer who p) where
  abbrev c : Shape Float
  c = who.shape

  passed : Passed (search_rules c p who.rules)
  unfolding closest_answer telling
  passed = number_of (sym (ap (λ (v : Values). v.refusal) e))

  all_fine_lem : samples_fine c p ≡ true
  all_fine_lem =
      let wild = either_wild p.x p.y in
      let last = (both_pass (with11 wild who.rules) (row 15 (not (samples_fine c p) || is_nan (closest_of c p)) ∷ []) (with_numbered wild who.rules n) passed).1 in
      not-false (samples_fine c p) (or_left (not (samples_fine c p)) (is_nan (closest_of c p)) (row_passed 14 _ [] last).0)

  is_closest : t ≡ closest_of c p
  unfolding closest_answer telling
  is_closest =
      let v : (t ∷ []) ≡ closest_of c p ∷ [] = rw (passes_true (search_rules c p who.rules) passed) at (ap (λ (v : Values). v.values) e) in
      cc

  from_nearest : FromNearest c p t
  unfolding closest_of nearest_sample
  from_nearest = record { k = first_nearest (distance_at c p) (samples_in c); nearest = first_nearest_lem c p all_fine_lem; rounds = is_closest }

-- whatever `closest` answers of a record and of slices
pub record_closest : (c : Curve) (p : Vector Float) (t : Float) → told (Ok t) ≡ closest_answer (by_record c) p → FromNearest (by_record c).shape p t
record_closest c p t e = from_nearest (by_record c) p t (record_sound c).counted e

pub slices_closest : (coords ks : List Float) (p : Vector Float) (t : Float) → told (Ok t) ≡ closest_answer (in_slices coords ks) p
    → FromNearest (in_slices coords ks).shape p t
slices_closest coords ks p t e = from_nearest (in_slices coords ks) p t (slices_sound coords ks).counted e
