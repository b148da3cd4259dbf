-- A map of one scalar into another goes through the parameters and the knots of a curve through points. Assumes nothing.
use mathlib.Core.Path.{◌≡◌, refl, ap, ◌∙◌}
use mathlib.Core.List.{List, map}
use Prim.Native.Nat.{ℕ, ◌+◌, ◌-◌}
use lib.Dec.{ltb, eqb}
use Rattle.meaning.specs.Scalar.{Ops, zero64, one64}
use Rattle.meaning.specs.Loops.{turns}
use Rattle.meaning.specs.Search.{listed}
use Rattle.meaning.proofs.Filling.{map_listed}
use Rattle.fit.specs.Parameters.{step_at, sum_of, parameter_at, knot_at, knots_by, fit_parameter, fit_knots}
use Rattle.value_laws.proofs.Hom.{Hom, map_at, map_turns, map_choice}

module _ {A B : Type 0} {o : Ops A} {p : Ops B} {h : A → B} (m : Hom o p h) where
  map_step : (q : List A) (k : ℕ) → h (step_at o q k) ≡ step_at p (map h q) k
  unfolding step_at
  map_step q k = simp (m.root, m.plus, m.times, m.minus, m.cst, map_at m)

  map_sum : (st : ℕ → A) (k : ℕ) → h (sum_of o st k) ≡ sum_of p (λ i. h (st i)) k
  unfolding sum_of
  map_sum st k =
      map_turns h (λ i s. o.plus s (st i)) (λ i s. p.plus s (h (st i))) (λ i s. m.plus s (st i)) 0 (k - 0) (o.cst zero64)
      ∙ ap (turns 0 (k - 0) (λ i s. p.plus s (h (st i)))) (m.cst zero64)

  map_parameter : (st : ℕ → A) (n k : ℕ) → h (parameter_at o st n k) ≡ parameter_at p (λ i. h (st i)) n k
  unfolding parameter_at
  map_parameter st n k =
      map_choice h (eqb k 0) _ _ (m.cst zero64)
      (map_choice h (ltb k (n - 1)) _ _ (m.over _ _ ∙ (λ i. p.over (map_sum st k i) (map_sum st (n - 1) i))) (m.cst one64))

  map_knot : (ps : ℕ → A) (n j : ℕ) → h (knot_at o ps n j) ≡ knot_at p (λ i. h (ps i)) n j
  unfolding knot_at
  map_knot ps n j =
      map_choice h (ltb j 4) _ _ (m.cst zero64)
      (map_choice h (ltb j (n + 2)) _ _ refl (map_choice h (ltb j (n + 6)) _ _ (m.cst one64) (m.cst zero64)))

  pub map_fit_parameter : (q : List A) (n k : ℕ) → h (fit_parameter o q n k) ≡ fit_parameter p (map h q) n k
  map_fit_parameter q n k = map_parameter (step_at o q) n k ∙ ap (λ (st : ℕ → B). parameter_at p st n k) (λ t i. map_step q i t)

  pub map_fit_knot : (q : List A) (n j : ℕ) → h (knot_at o (fit_parameter o q n) n j) ≡ knot_at p (fit_parameter p (map h q) n) n j
  map_fit_knot q n j = map_knot (fit_parameter o q n) n j ∙ ap (λ (ps : ℕ → B). knot_at p ps n j) (λ t k. map_fit_parameter q n k t)

  pub map_fit_knots : (q : List A) (n : ℕ) → map h (fit_knots o q n) ≡ fit_knots p (map h q) n
  unfolding knots_by
  map_fit_knots q n =
      map_listed h 0 70 (knot_at o (fit_parameter o q n) n) ∙ ap (listed 0 70) (λ t j. map_fit_knot q n j t)
