-- The three kinds of answers, from what the code tests and stores. Assumes nothing.
use mathlib.Core.Path.{◌≡◌}
use mathlib.Core.List.{List, [], ◌∷◌, map}
use Prim.Native.Nat.{ℕ, ◌*◌, ◌≤◌, ◌<◌}
use borrow.Author.Tests.{lt-ltb, le-ltb}
use lib.ListN.{length}
use lib.Seq.{paste}
use lib.Ieee.{Float}
use Rattle.partials.specs.declared.Dv.{Dv}
use Rattle.plane.specs.Vector.{Vector}
use Rattle.c_values.specs.Crossing.{all_numbers, AnsweredD, AnsweredAll, AnsweredP}

module _ (d : Dv) (out : List Float) (n : ℕ) where
  pub short : length out < 28 → AnsweredD d out n 14 out n
  short h = let e = lt-ltb _ _ h in record { number = rw e; written = rw e; counted = rw e }

  pub given : {out' : List Float} {n' : ℕ} → 28 ≤ length out → out' ≡ paste out 0 (d.v ∷ d.g) 28 → n' ≡ d.n → AnsweredD d out n 0 out' n'
  given h p q = let e = le-ltb _ _ h in record { number = rw e; written = rw e p; counted = rw e q }

module _ (values : List Dv) (out : List Float) (ns : List ℕ) where
  pub short_out : length out < 28 * length values → AnsweredAll values out ns 14 out ns
  short_out h = let e = lt-ltb _ _ h in record { number = rw e; written = rw e; counted = rw e }

  pub short_counts : 28 * length values ≤ length out → length ns < length values → AnsweredAll values out ns 14 out ns
  short_counts g h = let e = le-ltb _ _ g in let f = lt-ltb _ _ h in record { number = rw (e, f); written = rw (e, f); counted = rw (e, f) }

  pub given_all : {out' : List Float} {ns' : List ℕ} → 28 * length values ≤ length out → length values ≤ length ns
      → out' ≡ paste out 0 (all_numbers values) (28 * length values) → ns' ≡ paste ns 0 (map (λ d. d.n) values) (length values) → AnsweredAll values out ns 0 out' ns'
  given_all g h p q = let e = le-ltb _ _ g in let f = le-ltb _ _ h in record { number = rw (e, f); written = rw (e, f) p; counted = rw (e, f) q }

module _ (a : Vector Float) (out : List Float) where
  pub short_p : length out < 2 → AnsweredP a out 14 out
  short_p h = let e = lt-ltb _ _ h in record { number = rw e; written = rw e }

  pub given_p : {out' : List Float} → 2 ≤ length out → out' ≡ paste out 0 (a.x ∷ a.y ∷ []) 2 → AnsweredP a out 0 out'
  given_p h p = let e = le-ltb _ _ h in record { number = rw e; written = rw e p }
