-- What a call leaves behind that is asked many questions. docs/RULES.md, "Many at once", decides: each question has its own place in one lent slice, w
-- numbers, and one number for its refusal in another, and it leaves in its place what it leaves there when it is asked alone.
use Rattle.std.specs.Prelude.{◌||◌, cond, List, [], ◌∷◌, ◌++◌, ℕ, zero, suc, ◌*◌, take, drop, ltb, Float}
use Rattle.refusal.specs.Refusals.{Verdict, Row, row, first_of, passes}
use Rattle.outcome.specs.Outcome.{Outcome}

-- ---- places of w entries each

module _ {A : Type 0} where
  -- what stands in place k
  abbrev pub place_of : ℕ → ℕ → List A → List A
  place_of w k l = take w (drop (k * w) l)

  -- f 0, f 1 and so on, one behind the other, n of them
  unfoldable pub joined : ℕ → (ℕ → List A) → List A
  joined zero f = []
  joined (suc n) f = joined n f ++ f n

  -- a list with f k in place k, for the first n places
  abbrev pub in_places : ℕ → ℕ → (ℕ → List A) → List A → List A
  in_places n w f l = joined n f ++ drop (n * w) l

-- ---- the call

-- there is room for n answers and their refusals, in slices of these lengths
abbrev pub room_row : ℕ → ℕ → ℕ → ℕ → Row
room_row n w out refusals = row 14 (ltb out (n * w) || ltb refusals n)

-- the refusal of the whole call, and the two slices afterwards
pub record Many : Type 0 where
  pub refusal : Verdict
  pub out : List Float
  pub refusals : List ℕ

abbrev pub many : Verdict → List Float → List ℕ → Many
many r out refusals = record { refusal = r; out = out; refusals = refusals }

-- by these rules of the call: where nothing refuses it, question k leaves in its place what `each k` leaves there
unfoldable pub answering_many : List Row → ℕ → ℕ → (ℕ → List Float → Outcome) → List Float → List ℕ → Many
answering_many rules n w each out refusals =
    many (first_of rules)
    (cond (passes rules) (in_places n w (λ k. (each k (place_of w k out)).out) out) out)
    (cond (passes rules) (in_places n 1 (λ k. (each k (place_of w k out)).refusal.number ∷ []) refusals) refusals)
