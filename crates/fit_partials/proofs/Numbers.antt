-- The numbers of a fit have no more partials than there are numbers of handles: the variables, the parameters, the knots, and the rows. Assumes nothing.
use mathlib.Core.Path.{◌≡◌, refl, sym, subst, ◌∙◌}
use mathlib.Core.Bool.{Bool, true, false, cond}
use mathlib.Core.List.{List, []}
use Prim.Native.Nat.{ℕ, zero, suc, ◌+◌, ◌-◌, ◌*◌, ◌≤◌, ◌<◌}
use native.Mathlib.Omega.{arith}
use borrow.Author.Tests.{ltb-true, le-ltb, ne_eqb}
use lib.Dec.{ltb, eqb}
use lib.ListN.{length, get_or}
use lib.Ieee.{Float}
use Rattle.meaning.specs.Scalar.{zero64, one64}
use Rattle.meaning.specs.Table.{at1}
use Rattle.meaning.specs.Search.{listed}
use Rattle.partials.specs.declared.Dv.{Dv}
use Rattle.partials.specs.Dual.{var_dv, dual}
use Rattle.solve.proofs.Lists.{turns_keep}
use Rattle.basis.specs.Basis.{derivatives_of, window}
use Rattle.fit.specs.Parameters.{step_at, sum_of, parameter_at, knot_at, fit_parameter}
use Rattle.fit.proofs.Kept.{derivatives_keep}
use Rattle.fit_partials.specs.Variables.{variables_of}
use Rattle.fit_partials.specs.Stored.{Tidy, ReadyFit}
use Rattle.fit_partials.proofs.Tidy.{cst_tidy, var_tidy, root_tidy, off_tidy, tidy_kept}

-- a choice, and one whose first case is known where it is taken
chosen : {S : Type 0} (P : S → Type 0) (b : Bool) (x y : S) → (b ≡ true → P x) → P y → P (cond b x y)
chosen P true x y p q = p refl
chosen P false x y p q = q

listed_keeps : {A : Type 0} (P : A → Type 0) (z : A) (a d : ℕ) (f : ℕ → A) → P z → ((j : ℕ) → j < a + d → P (f j)) → (i : ℕ) → P (get_or (listed a d f) i z)
unfolding listed
listed_keeps P z a zero f p h i = p
listed_keeps P z a (suc d) f p h zero = h a (omega arith)
listed_keeps P z a (suc d) f p h (suc i) = listed_keeps P z (suc a) d f p (λ j l. h j (omega arith)) i

module _ (c : ℕ) where
  -- ---- the six knots of a span, and a row of the basis over them
  pub window_tidy : (ks : List Dv) (i : ℕ) → ((j : ℕ) → Tidy c (at1 dual ks j)) → (j : ℕ) → Tidy c (at1 dual (window dual ks i) j)
  window_tidy ks i h zero = h _
  window_tidy ks i h (suc zero) = h _
  window_tidy ks i h (suc (suc zero)) = h _
  window_tidy ks i h (suc (suc (suc zero))) = h _
  window_tidy ks i h (suc (suc (suc (suc zero)))) = h _
  window_tidy ks i h (suc (suc (suc (suc (suc zero))))) = h _
  window_tidy ks i h (suc (suc (suc (suc (suc (suc j)))))) = off_tidy c

  pub four_tidy : (six : List Dv) {four : List Dv} (t : Dv) (d : ℕ) → ((j : ℕ) → Tidy c (at1 dual six j)) → Tidy c t
      → four ≡ get_or (derivatives_of dual six 2 t d) d [] → (k : ℕ) → Tidy c (at1 dual four k)
  four_tidy six t d hs ht e k =
      subst (λ (l : List Dv). Tidy c (at1 dual l k)) (sym e) (derivatives_keep dual (Tidy c) (Tidy c) (tidy_kept c) six 2 t hs ht d d k)

  -- ---- the parameters and the knots
  module _ (q : List Float) (few : length q ≤ c) where
    pub variables_tidy : (i : ℕ) → Tidy c (at1 dual (variables_of q) i)
    unfolding variables_of
    variables_tidy = listed_keeps (Tidy c) dual.off 0 (length q) (var_dv q) (off_tidy c) (λ j l. var_tidy c q j (omega arith))

    step_tidy : (k : ℕ) → Tidy c (step_at dual (variables_of q) k)
    unfolding step_at
    step_tidy k =
        let o = tidy_kept c in
        let v = variables_tidy in
        let x = o.minus _ _ (v (2 * (k + 1))) (v (2 * k)) in
        let y = o.minus _ _ (v (2 * (k + 1) + 1)) (v (2 * k + 1)) in
        root_tidy c _ (root_tidy c _ (o.plus _ _ (o.plus _ _ (o.times _ _ x x) (o.times _ _ y y)) (cst_tidy c _)))

    sum_tidy : (k : ℕ) → Tidy c (sum_of dual (step_at dual (variables_of q)) k)
    unfolding sum_of
    sum_tidy k =
        turns_keep (λ i s. dual.plus s (step_at dual (variables_of q) i)) (Tidy c) k (k - 0) (dual.cst zero64)
        (λ i x l p. (tidy_kept c).plus _ _ p (step_tidy i)) (omega arith) (cst_tidy c zero64)

    pub parameter_tidy : (n k : ℕ) → Tidy c (fit_parameter dual (variables_of q) n k)
    unfolding parameter_at
    parameter_tidy n k =
        chosen (Tidy c) (eqb k 0) _ _ (λ e. cst_tidy c zero64)
        (chosen (Tidy c) (ltb k (n - 1)) _ _ (λ e. (tidy_kept c).over _ _ (sum_tidy k) (sum_tidy (n - 1))) (cst_tidy c one64))

    -- what the arrays of the code have
    pub fit_tidy : (n : ℕ) (ks ps : List Dv) → 2 ≤ n → ((k : ℕ) → k < n → at1 dual ps k ≡ fit_parameter dual (variables_of q) n k)
        → ks ≡ listed 0 18 (knot_at dual (at1 dual ps) n)
        → ReadyFit c n ks ps q
    unfolding knot_at parameter_at
    fit_tidy n ks ps some hp hk =
        let ready : (k : ℕ) → k < n → Tidy c (at1 dual ps k) = λ k l. subst (Tidy c) (sym (hp k l)) (parameter_tidy n k) in
        record {
          knots = λ i. subst (λ (l : List Dv). Tidy c (at1 dual l i)) (sym hk)
              (listed_keeps (Tidy c) dual.off 0 18 (knot_at dual (at1 dual ps) n) (off_tidy c)
              (λ j l.
              chosen (Tidy c) (ltb j 4) _ _ (λ e. cst_tidy c zero64)
              (chosen (Tidy c) (ltb j (n + 2)) _ _ (λ e. let b : j < n + 2 = ltb-true j (n + 2) e in ready (j - 3) (omega arith))
              (chosen (Tidy c) (ltb j (n + 6)) _ _ (λ e. cst_tidy c one64) (cst_tidy c zero64)))) i);
          parameters = ready;
          first = hp 0 (omega arith);
          last = hp (n - 1) (omega arith) ∙ rw (ne_eqb (n - 1) 0 (omega arith), le-ltb (n - 1) (n - 1) (omega arith));
          points = few;
        }
