-- From what the code holds to the definition: the arrays are the definition's parameters and knots, and where these are finite the span that the search
-- finds is the rules', so that the rows, the verdicts and the solution are the definition's. Assumes nothing.
use mathlib.Core.Path.{◌≡◌, sym, ap, ◌∙◌}
use mathlib.Core.Bool.{Bool, true, false, ◌&&◌, and_assoc, cond}
use mathlib.Core.List.{List, [], ◌∷◌, ◌++◌, flatten}
use Prim.Native.Nat.{ℕ, ◌+◌, ◌-◌, ◌≤◌, ◌<◌}
use native.Mathlib.Omega.{arith}
use lib.Dec.{leb, eqb, ltb}
use borrow.Author.Tests.{ltb-true, ltb-false, le-ltb}
use lib.ListN.{length, get_or}
use lib.Ieee.{Float, nan, le}
use lib.Ieee.Scale.{finite}
use Rattle.meaning.specs.Scalar.{Ops, plain, zero64, one64}
use Rattle.meaning.specs.Table.{at1}
use Rattle.meaning.specs.Search.{listed, every}
use Rattle.meaning.proofs.Tests.{by_two, same_test}
use Rattle.meaning.proofs.Every.{all, each}
use Rattle.meaning.proofs.Searching.{seek-first}
use Rattle.meaning.proofs.Filling.{length-listed, nth_listed}
use Rattle.partials.specs.declared.Dv.{Dv}
use Rattle.partials.specs.Dual.{fine_dv, dual}
use Rattle.span.specs.Counting.{counted_of}
use Rattle.knots.specs.Rules.{knot}
use Rattle.span.specs.Span.{holds, span_of}
use Rattle.span.proofs.Spans.{same_counted}
use Rattle.basis.specs.Basis.{derivatives_of, window}
use Rattle.basis.proofs.Window.{basis_window}
use Rattle.plane.specs.Vector.{Vector}
use Rattle.shape.specs.Shape.{points_in}
use Rattle.solve.specs.Stored.{all_fine, stored_by_solve, solved_ok}
use Rattle.solve.specs.Outcome.{solution_of}
use Rattle.solve.proofs.Stored.{fine_append, fine-each}
use Rattle.solve.proofs.Outcomes.{solution_fine}
use Rattle.outcome.specs.Outcome.{some_wild}
use Rattle.outcome.proofs.Wild.{none_wild}
use Rattle.fit.specs.Parameters.{point_at, knot_at, knots_by, fit_parameter}
use Rattle.fit.specs.System.{origin, spread, with_sides, row_at, row_of, fit_row, fit_rows}
use Rattle.fit.specs.Fit.{controls_for, knots_through, span_through}
use Rattle.fit.proofs.Sums.{knot_cong}
use Rattle.fit.proofs.Rows.{fit_rows_cong}
use Rattle.fit.proofs.Rising.{fit_span}
use Rattle.value_laws.proofs.Values.{value_of}
use Rattle.fit_partials.specs.Variables.{variables_of}
use Rattle.fit_partials.specs.Stored.{found_fit_rows}
use Rattle.fit_partials.specs.Through.{knots_with, rows_with, solution_with, fine_with}
use Rattle.fit_partials.proofs.Tidy.{zero_fine}
use Rattle.fit_partials.proofs.PlainValues.{knot-value, fine-value}

-- ---- two lists of knots that agree where the span is

module _ {A : Type 0} (o : Ops A) (sp : Float → ℕ) (ks ls : List A) (low : (x : Float) → 3 ≤ sp x) (high : (x : Float) → sp x ≤ 65)
    (same : (x : Float) → window o ks (sp x) ≡ window o ls (sp x)) where
  row_at_same : (t : A) (d : ℕ) → row_at o sp ks t d ≡ row_at o sp ls t d
  unfolding row_at
  row_at_same t d =
      let i = sp (o.val t) in
      ap (λ (b : List (List A)). spread o (get_or b d []) i)
      (sym (basis_window o ks i t d (low _) (high _))
      ∙ ap (λ (w : List A). derivatives_of o w 2 t d) (same (o.val t))
      ∙ basis_window o ls i t d (low _) (high _))

  row_same : (m : ℕ) (t : A) (d : ℕ) (b : Vector A) → row_of o sp ks m t d b ≡ row_of o sp ls m t d b
  unfolding row_of
  row_same m t d b = ap (λ (f : ℕ → A). listed 0 (m + 2) (with_sides o m f b)) (row_at_same t d)

  pub rows_same : (p : ℕ → A) (q : List A) (n : ℕ) → fit_rows o sp ks p q n ≡ fit_rows o sp ls p q n
  unfolding fit_rows fit_row
  rows_same p q n =
      ap (listed 0 (n + 2))
      (λ i r. cond (eqb r 0) (row_same (n + 2) (o.cst zero64) 2 (origin o) i)
      (cond (leb r n) (row_same (n + 2) (p (r - 1)) 0 (point_at o q (r - 1)) i) (row_same (n + 2) (o.cst one64) 2 (origin o) i)))

-- the rules' span is one of the spans
pub span_in_lem : (us : List Float) (n : ℕ) (t : Float) → 4 ≤ n → (3 ≤ span_of us n t) × (span_of us n t < n)
unfolding span_of
span_in_lem us n t h =
    let f = seek-first (holds us t) 3 (n - 1) (omega arith) in
    by_two (le (knot us n) t) (λ a. rw a (omega arith, omega arith))
    (λ a. by_two (le t (knot us 3)) (λ b. rw (a, b) (omega arith, omega arith)) (λ b. rw (a, b) (f.low, omega (arith, f.high))))

-- the verdict in three parts
module _ (q : List Float) where
  solve_fine : all_fine dual (stored_by_solve dual (controls_for q) (rows_with q)) ≡ (solution_with q).fine
  unfolding solved_ok solution_with
  solve_fine = sym (solution_fine dual (controls_for q) (rows_with q))

  pub fine_parts : fine_with q ≡ (all_fine dual (knots_with q) && (all_fine dual (flatten (rows_with q)) && (solution_with q).fine))
  unfolding fine_with
  fine_parts =
      let knots = knots_with q in
      let rows = flatten (rows_with q) in
      let steps = stored_by_solve dual (controls_for q) (rows_with q) in
      fine_append dual (knots ++ rows) steps ∙ ap (λ (b : Bool). b && all_fine dual steps) (fine_append dual knots rows)
      ∙ and_assoc (all_fine dual knots) (all_fine dual rows) (all_fine dual steps)
      ∙ (λ i. all_fine dual knots && (all_fine dual rows && solve_fine i))

-- the parameters and the knots of the code, one by one
module _ (q : List Float) (ps : List Dv) (hp : ps ≡ listed 0 (points_in q) (fit_parameter dual (variables_of q) (points_in q))) where
  pub how_many : length ps ≡ points_in q
  how_many = ap length hp ∙ length-listed 0 (points_in q) (fit_parameter dual (variables_of q) (points_in q))

  pub parameter_is : (k : ℕ) → k < points_in q → at1 dual ps k ≡ fit_parameter dual (variables_of q) (points_in q) k
  parameter_is k l =
      ap (λ (t : List Dv). at1 dual t k) hp ∙ nth_listed (points_in q) k (fit_parameter dual (variables_of q) (points_in q)) dual.off l

  pub knots_made : (ks : List Dv) → ks ≡ listed 0 18 (knot_at dual (at1 dual ps) (length ps)) → ks ≡ listed 0 18 (knot_at dual (at1 dual ps) (points_in q))
  knots_made ks hk = hk ∙ ap (λ (n : ℕ). listed 0 18 (knot_at dual (at1 dual ps) n)) how_many

module _ (q : List Float) (two : 2 ≤ points_in q) (few : points_in q ≤ 12) (ps ks : List Dv) (us : List Float)
    (hp : (k : ℕ) → k < points_in q → at1 dual ps k ≡ fit_parameter dual (variables_of q) (points_in q) k)
    (hk : ks ≡ listed 0 18 (knot_at dual (at1 dual ps) (points_in q))) (hu : us ≡ listed 0 18 (λ j. (at1 dual ks j).v)) where
  abbrev n : ℕ
  n = points_in q

  abbrev knot_of : ℕ → Dv
  knot_of j = knot_at dual (fit_parameter dual (variables_of q) n) n j

  short : length q ≤ 27
  short = omega (arith, few)

  -- ---- the knots

  knot_here : (j : ℕ) → j < 18 → at1 dual ks j ≡ knot_of j
  knot_here j h =
      ap (λ (l : List Dv). at1 dual l j) hk
      ∙ nth_listed 18 j (knot_at dual (at1 dual ps) n) dual.off h
      ∙ knot_cong dual (at1 dual ps) (fit_parameter dual (variables_of q) n) n j (omega arith) hp

  knot_there : (j : ℕ) → j < 70 → at1 dual (knots_with q) j ≡ knot_of j
  unfolding knots_by
  knot_there j h = nth_listed 70 j knot_of dual.off h

  pub same_knot : (j : ℕ) → j < 18 → at1 dual ks j ≡ at1 dual (knots_with q) j
  same_knot j h = knot_here j h ∙ sym (knot_there j (omega arith))

  plain-knot : (j : ℕ) → j < 70 → at1 plain (knots_through q) j ≡ value_of (knot_of j)
  unfolding knots_by
  plain-knot j h = nth_listed 70 j (knot_at plain (fit_parameter plain q n) n) nan h ∙ sym (knot-value q n j short)

  value_here : (j : ℕ) → j < 18 → at1 plain us j ≡ at1 plain (knots_through q) j
  value_here j h =
      ap (λ (l : List Float). at1 plain l j) hu
      ∙ nth_listed 18 j (λ i. (at1 dual ks i).v) nan h
      ∙ ap value_of (knot_here j h)
      ∙ sym (plain-knot j (omega arith))

  -- ---- the verdict on the knots

  knots-long : length (knots_with q) ≡ 70
  unfolding knots_by
  knots-long = length-listed 0 70 knot_of

  past-fine : (j : ℕ) → 18 ≤ j → fine_dv (knot_of j) ≡ true
  unfolding knot_at
  past-fine j h = rw (le-ltb j 4 (omega arith), le-ltb j (n + 2) (omega arith), le-ltb j (n + 6) (omega arith)) zero_fine

  pub knots-fine : all_fine dual ks ≡ all_fine dual (knots_with q)
  knots-fine =
      let here = fine-each dual ks ∙ ap (λ (k : ℕ). every k (λ i. fine_dv (at1 dual ks i))) (ap length hk ∙ length-listed 0 18 (knot_at dual (at1 dual ps) n)) in
      let there = fine-each dual (knots_with q) ∙ ap (λ (k : ℕ). every k (λ i. fine_dv (at1 dual (knots_with q) i))) knots-long in
      here
      ∙ same_test _ _
      (λ f. all 70 _ (λ j h.
      by_two (ltb j 18) (λ e. let l = ltb-true j 18 e in ap fine_dv (sym (same_knot j l)) ∙ each 18 (λ i. fine_dv (at1 dual ks i)) f j l)
      (λ e. ap fine_dv (knot_there j h) ∙ past-fine j (ltb-false j 18 e))))
      (λ f. all 18 _ (λ j h. ap fine_dv (same_knot j h) ∙ each 70 (λ i. fine_dv (at1 dual (knots_with q) i)) f j (omega arith)))
      ∙ sym there

  -- ---- finite knots
  module _ (fine : all_fine dual (knots_with q) ≡ true) where
    tame : some_wild (knots_through q) 70 ≡ false
    tame =
        let there = sym (fine-each dual (knots_with q) ∙ ap (λ (k : ℕ). every k (λ i. fine_dv (at1 dual (knots_with q) i))) knots-long) ∙ fine in
        none_wild (knots_through q) 70
        (λ j h. ap finite (plain-knot j h) ∙ fine-value (knot_of j) (ap fine_dv (sym (knot_there j h))
        ∙ each 70 (λ i. fine_dv (at1 dual (knots_with q) i)) there j h))

    plain-long : length (knots_through q) ≡ 70
    unfolding knots_by
    plain-long = length-listed 0 70 (knot_at plain (fit_parameter plain q n) n)

    pub span-found : (x : Float) → counted_of us (n + 2) x ≡ span_through q x
    span-found x =
        same_counted us (knots_through q) (n + 2) x (λ i h. value_here i (omega arith)) (omega arith) (omega arith)
        (omega (arith, ap length hu, length-listed 0 18 (λ j. (at1 dual ks j).v))) (omega (arith, plain-long))
        ∙ fit_span q n two (omega arith) tame x

    span_of_lem : (x : Float) → (3 ≤ span_through q x) × (span_through q x < n + 2)
    span_of_lem x = span_in_lem (knots_through q) (n + 2) x (omega arith)

    pub window_same : (i : ℕ) → 3 ≤ i → i < n + 2 → window dual ks i ≡ window dual (knots_with q) i
    window_same i g h =
        let k : (j : ℕ) → j < 6 → at1 dual ks (i - 2 + j) ≡ at1 dual (knots_with q) (i - 2 + j) = λ j l. same_knot (i - 2 + j) (omega arith) in
        λ t. k 0 (omega arith) t ∷ k 1 (omega arith) t ∷ k 2 (omega arith) t ∷ k 3 (omega arith) t ∷ k 4 (omega arith) t ∷ k 5 (omega arith) t ∷ []

    pub rows_are : found_fit_rows ks us ps q n ≡ rows_with q
    unfolding found_fit_rows
    rows_are =
        let ours = fit_parameter dual (variables_of q) n in
        fit_rows_cong dual (counted_of us (n + 2)) ks (at1 dual ps) ours (variables_of q) n (omega arith) hp
        ∙ ap (λ (sp : Float → ℕ). fit_rows dual sp ks ours (variables_of q) n) (λ i x. span-found x i)
        ∙ rows_same dual (span_through q) ks (knots_with q) (λ x. (span_of_lem x).0) (λ x. omega (arith, (span_of_lem x).1))
        (λ x. window_same (span_through q x) (span_of_lem x).0 (span_of_lem x).1)
        ours (variables_of q) n

    pub solution_is : solution_of dual (n + 2) (found_fit_rows ks us ps q n) ≡ solution_with q
    unfolding solution_with
    solution_is = ap (solution_of dual (n + 2)) rows_are

  -- the verdicts on the knots, the filling and the solve
  pub verdict : (all_fine dual ks
      && (all_fine dual (flatten (found_fit_rows ks us ps q n)) && (solution_of dual (n + 2) (found_fit_rows ks us ps q n)).fine)) ≡ fine_with q
  verdict =
      rw (knots-fine, fine_parts q)
      (by_two (all_fine dual (knots_with q))
      (λ f. rw f (λ i. all_fine dual (flatten (rows_are f i)) && (solution_is f i).fine))
      (λ f. rw f))
