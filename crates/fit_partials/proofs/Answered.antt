-- The answer for a span, from the filled slices and their solve, and what the slices hold afterwards. Assumes nothing.
use mathlib.Core.Path.{◌≡◌, refl, sym, ap, ◌∙◌}
use mathlib.Core.Bool.{Bool, true, false, ◌&&◌, cond, and_assoc}
use mathlib.Core.List.{List, [], ◌∷◌, ◌++◌, flatten}
use Prim.Native.Nat.{ℕ, zero, suc, ◌+◌, ◌-◌, ◌*◌, ◌≤◌, ◌<◌}
use native.Mathlib.Nat.{zero-add, mul-le-mul_right}
use native.Mathlib.Omega.{arith}
use borrow.Author.Tests.{le-leb, leb-true}
use lib.Dec.{leb}
use lib.ListN.{length, get_or, drop, replicate, length-replicate}
use lib.Ieee.{Float}
use Rattle.meaning.specs.Scalar.{zero64}
use Rattle.meaning.specs.Table.{at1}
use Rattle.meaning.specs.Search.{listed}
use Rattle.meaning.proofs.Tests.{by_two, and_left, and_right}
use Rattle.partials.specs.declared.Dv.{Dv}
use Rattle.partials.specs.Dual.{cst_dv, dual}
use Rattle.span.specs.Counting.{counted_of}
use Rattle.basis.specs.Basis.{window}
use Rattle.shape.specs.Shape.{points_in}
use Rattle.evaluate.specs.Piece.{four_of}
use Rattle.solve.specs.Rows.{flat}
use Rattle.solve.specs.Substitution.{solved}
use Rattle.solve.specs.Stored.{all_fine, solved_ok}
use Rattle.solve.specs.Outcome.{Solution, zeros, no_solution, solution_of}
use Rattle.solve.proofs.Answers.{column-length}
use Rattle.solve_partials.specs.Outcome as Solve
use Rattle.fit.specs.Parameters.{knot_at, fit_parameter}
use Rattle.fit.specs.Fit.{knots_through}
use Rattle.fit_partials.specs.Variables.{variables_of}
use Rattle.fit_partials.specs.Stored.{Laid, Room, piece_of, found_fit_rows}
use Rattle.fit_partials.specs.Through.{knots_with, solution_with, fine_with, no_piece, piece_through}
use Rattle.fit_partials.specs.Through.{cells_for, able, piece_in, doubles_after, counts_after}
use Rattle.fit_partials.proofs.Laid.{laid-rows}
use Rattle.fit_partials.proofs.Rows.{found_shaped}
use Rattle.fit_partials.proofs.Through.{fine_parts, span-found, window_same, solution_is, verdict, span_in_lem}

-- ---- four numbers of a list

any_past : {A : Type 0} (l : List A) (i : ℕ) (d e : A) → i < length l → get_or l i d ≡ get_or l i e
any_past [] i d e h = absurd (omega arith)
any_past (x ∷ l) zero d e h = refl
any_past (x ∷ l) (suc i) d e h = any_past l i d e (omega arith)

four_same : (l : List Dv) (a : ℕ) → a + 3 < length l → Solve.four a l ≡ four_of dual l a 1
unfolding listed
four_same l a h =
    let z = cst_dv zero64 in
    let p : (i j : ℕ) → i ≡ j → j < length l → get_or l i z ≡ at1 dual l j = λ i j e b. ap (λ (k : ℕ). get_or l k z) e ∙ any_past l j z dual.off b in
    λ t. p (a + 0) a (omega arith) (omega arith) t ∷ p (a + 1) (a + 1) refl (omega arith) t ∷ p (a + 2) (a + 2 * 1) (omega arith) (omega arith) t
    ∷ p (a + 3) (a + 3 * 1) (omega arith) (omega arith) t ∷ []

-- a solution has room for 66 points
long_by : (b : Bool) (xs ys : List Dv) → length xs ≡ 66 → length ys ≡ 66
    → (length (cond b (record { xs = xs; ys = ys; fine = true }) (no_solution dual)).xs ≡ 66)
    × (length (cond b (record { xs = xs; ys = ys; fine = true }) (no_solution dual)).ys ≡ 66)
long_by true xs ys p q = (p, q)
long_by false xs ys p q = (length-replicate 66 (cst_dv zero64), length-replicate 66 (cst_dv zero64))

solution_long : (m : ℕ) (M : List (List Dv)) → m ≤ 66 → (length (solution_of dual m M).xs ≡ 66) × (length (solution_of dual m M).ys ≡ 66)
unfolding solution_of
solution_long m M h =
    let z = length-replicate 66 (cst_dv zero64) in
    long_by (solved_ok dual m M) _ _ (column-length dual m (solved dual m M) m (zeros dual) h ∙ z)
    (column-length dual m (solved dual m M) (m + 1) (zeros dual) h ∙ z)

-- ---- the answer

module _ (q : List Float) (two : 2 ≤ points_in q) (few : points_in q ≤ 12) (ps ks : List Dv) (us : List Float)
    (hp : (k : ℕ) → k < points_in q → at1 dual ps k ≡ fit_parameter dual (variables_of q) (points_in q) k)
    (hk : ks ≡ listed 0 18 (knot_at dual (at1 dual ps) (points_in q))) (hu : us ≡ listed 0 18 (λ j. (at1 dual ks j).v))
    (c : ℕ) (w w₁ : List Float) (ns ns₁ : List ℕ) (room : Room c 0 (cells_for (length q)) w ns)
    (laid : Laid c 0 (cells_for (length q)) (at1 dual (flat (found_fit_rows ks us ps q (points_in q)) [])) w ns w₁ ns₁) where
  abbrev n : ℕ
  n = points_in q

  abbrev rows : List (List Dv)
  rows = found_fit_rows ks us ps q n

  fits : Solve.fits (n + 2) c (length w₁) (length ns₁) ≡ true
  fits =
      let none = ap (λ (k : ℕ). k * (c + 1)) (zero-add (cells_for (length q))) in
      rw (
        le-leb 1 (n + 2) (omega arith),
        le-leb (n + 2) 14 (omega arith),
        le-leb c 27 room.narrow,
        le-leb ((n + 2) * (n + 2 + 2)) (length ns₁) (omega (arith, laid.bytes, room.bytes)),
        le-leb ((n + 2) * (n + 2 + 2) * (c + 1)) (length w₁) (omega (arith, laid.doubles, room.doubles, none)),
      )

  solution : Solve.solution_in (n + 2) c w₁ ns₁ ≡ solution_of dual (n + 2) rows
  unfolding Solve.solution_in Solve.rows_in
  solution = rw fits (ap (solution_of dual (n + 2)) (laid-rows c (n + 2) (n + 2 + 2) rows (found_shaped ks us ps q n) laid))

  -- the slices afterwards
  pub doubles-after : Solve.doubles_left (n + 2) c w₁ ns₁ ≡ replicate (cells_for (length q) * (c + 1)) zero64 ++ drop (cells_for (length q) * (c + 1)) w
  unfolding Solve.doubles_left
  doubles-after =
      let z = zero-add (cells_for (length q)) in
      rw fits (ap (λ (l : List Float). replicate (cells_for (length q) * (c + 1)) zero64 ++ l) (rw z at laid.past))

  pub counts-after : Solve.counts_left (n + 2) c w₁ ns₁ ≡ replicate (cells_for (length q)) 0 ++ drop (cells_for (length q)) ns
  unfolding Solve.counts_left
  counts-after =
      let z = zero-add (cells_for (length q)) in
      rw fits (ap (λ (l : List ℕ). replicate (cells_for (length q)) 0 ++ l) (rw z at laid.past_bytes))

  module _ (t : Float) (i : ℕ) (s : Solution Dv) (stored fine : Bool) (hi : i ≡ counted_of us (n + 2) t)
      (hs : s ≡ Solve.four_of (i - 3) (Solve.solution_in (n + 2) c w₁ ns₁)) (hf : stored ≡ all_fine dual (flatten rows))
      (h : fine ≡ (all_fine dual ks && stored)) where
    solved_is : s ≡ Solve.four_of (i - 3) (solution_of dual (n + 2) rows)
    solved_is = hs ∙ ap (Solve.four_of (i - 3)) solution

    fine_is : (fine && s.fine) ≡ fine_with q
    unfolding Solve.four_of
    fine_is =
        ap (λ (b : Bool). b && s.fine) h
        ∙ and_assoc (all_fine dual ks) stored s.fine
        ∙ (λ j. all_fine dual ks && (hf j && (solved_is j).fine))
        ∙ verdict q two few ps ks us hp hk hu

    pub piece_is : piece_of fine (window dual ks i) s ≡ piece_through q t
    unfolding piece_through Solve.four_of solution_with
    piece_is =
        rw fine_is
        (by_two (fine_with q)
        (λ f.
        let tame = and_left _ _ (sym (fine_parts q) ∙ f) in
        let here = hi ∙ span-found q two few ps ks us hp hk hu tame t in
        let span = span_in_lem (knots_through q) (n + 2) t (omega arith) in
        let in3 : 3 ≤ i = omega (arith, here, span.0) in
        let below : i < n + 2 = omega (arith, here, span.1) in
        let long = solution_long (n + 2) rows (omega arith) in
        let xs = ap (λ (a : Solution Dv). a.xs) solved_is ∙ four_same (solution_of dual (n + 2) rows).xs (i - 3) (omega (arith, long.0)) in
        let ys = ap (λ (a : Solution Dv). a.ys) solved_is ∙ four_same (solution_of dual (n + 2) rows).ys (i - 3) (omega (arith, long.1)) in
        let same = solution_is q two few ps ks us hp hk hu tame in
        rw f
        ((λ j. record { knots = window_same q two few ps ks us hp hk hu tame i in3 below j; xs = xs j; ys = ys j; fine = true })
        ∙ (λ j. record {
          knots = window dual (knots_with q) (here j);
          xs = four_of dual (same j).xs (here j - 3) 1;
          ys = four_of dual (same j).ys (here j - 3) 1;
          fine = true;
        })))
        (λ f. rw f))

-- ---- where there is room, and where there is none

module _ (q : List Float) (c : ℕ) (t : Float) (w : List Float) (ns : List ℕ) where
  module _ (e : able (length q) c (length w) (length ns) ≡ true) where
    pub able-room : (2 ≤ points_in q) × (points_in q ≤ 12) × (length q ≤ c) × Room c 0 (cells_for (length q)) w ns
    able-room =
        let n = points_in q in
        let cells = cells_for (length q) in
        let e1 = and_right (leb 2 n) _ e in
        let e2 = and_right (leb n 12) _ e1 in
        let e3 = and_right (leb c 27) _ e2 in
        let e4 = and_right (leb (length q) c) _ e3 in
        let low = leb-true 2 n (and_left (leb 2 n) _ e) in
        let high = leb-true n 12 (and_left (leb n 12) _ e1) in
        let z = zero-add cells in
        let few : n + 2 ≤ 14 = omega (arith, high) in (
          low,
          high,
          leb-true (length q) c (and_left (leb (length q) c) _ e3),
          record {
            narrow = leb-true c 27 (and_left (leb c 27) _ e2);
            few = omega (arith, z, mul-le-mul_right (n + 2 + 2) few, high);
            bytes = omega (arith, z, leb-true cells (length ns) (and_left (leb cells (length ns)) _ e4));
            doubles = omega (arith, ap (λ (k : ℕ). k * (c + 1)) z, leb-true (cells * (c + 1)) (length w) (and_right (leb cells (length ns)) _ e4));
          },
        )

    pub able_piece : piece_through q t ≡ piece_in q c t w ns
    unfolding piece_in
    able_piece = rw e

    pub able-doubles : replicate (cells_for (length q) * (c + 1)) zero64 ++ drop (cells_for (length q) * (c + 1)) w ≡ doubles_after q c w ns
    unfolding doubles_after
    able-doubles = rw e

    pub able-counts : replicate (cells_for (length q)) 0 ++ drop (cells_for (length q)) ns ≡ counts_after q c w ns
    unfolding counts_after
    able-counts = rw e

  module _ (e : able (length q) c (length w) (length ns) ≡ false) where
    pub unable_piece : no_piece ≡ piece_in q c t w ns
    unfolding piece_in
    unable_piece = rw e

    pub unable_doubles : w ≡ doubles_after q c w ns
    unfolding doubles_after
    unable_doubles = rw e

    pub unable_counts : ns ≡ counts_after q c w ns
    unfolding counts_after
    unable_counts = rw e
