-- A map of one scalar into another goes through algorithm A2.3, from its table to the basis. Assumes nothing.
use mathlib.Core.Path.{◌≡◌, refl, ap, ◌∙◌}
use mathlib.Core.List.{List, map}
use Prim.Native.Nat.{ℕ, ◌+◌, ◌-◌, min}
use mathlib.Core.Bool.{◌&&◌}
use lib.Dec.{leb}
use lib.IntN.{ℤ}
use lib.Ieee.{Float}
use Rattle.meaning.specs.Scalar.{Ops, zero64}
use Rattle.meaning.specs.Loops.{turns}
use Rattle.meaning.specs.Table.{at2, put2}
use Rattle.basis_columns.specs.Columns.{below, first_j, end_j}
use Rattle.basis.specs.Triangle.{Column, Sides, column_turn, column_of, sides_turn, no_sides, triangle_of}
use Rattle.basis.specs.Derivatives.{Coefs, first_coef, mid_turn, mid_coefs, last_coef, cleared, swapped, order_of, start_coefs}
use Rattle.basis.specs.Basis.{Orders, Scaling, no_orders, values_of, order_turn, function_of, functions_of, scaled_row, scale_turn, scaled, derivatives_of, basis_of}
use Rattle.value_laws.proofs.Hom.{Hom, map_set, map_table, map_row, map_put, map_at, map_cell, map_turns, map_choice}

module _ {A B : Type 0} {o : Ops A} {p : Ops B} {h : A → B} (m : Hom o p h) where
  -- ---- the table

  abbrev map_column : Column A → Column B
  map_column s = record { ndu = map_table h s.ndu; saved = h s.saved }

  map_column_turn : (left right : List A) (j r : ℕ) (s : Column A)
      → map_column (column_turn o left right j r s) ≡ column_turn p (map h left) (map h right) j r (map_column s)
  unfolding column_turn
  map_column_turn left right j r s = simp (map_put h, m.plus, m.times, m.over, map_at m, map_row h)

  map_column_lem : (left right : List A) (j : ℕ) (ndu : List (List A))
      → map_table h (column_of o left right j ndu) ≡ column_of p (map h left) (map h right) j (map_table h ndu)
  unfolding column_of
  map_column_lem left right j ndu =
      let start : Column A = record { ndu = ndu; saved = o.cst zero64 } in
      let s : Column A = turns 0 (j - 0) (column_turn o left right j) start in
      let turn : ℕ → Column B → Column B = column_turn p (map h left) (map h right) j in
      let closed : Column B → List (List B) = λ x. put2 x.ndu j j x.saved in
      map_put h s.ndu j j s.saved
      ∙ ap closed
      (map_turns map_column (column_turn o left right j) turn (map_column_turn left right j) 0 (j - 0) start
      ∙ ap (λ (z : B). turns 0 (j - 0) turn (record { ndu = map_table h ndu; saved = z })) (m.cst zero64))

  abbrev map_sides : Sides A → Sides B
  map_sides s = record { ndu = map_table h s.ndu; left = map h s.left; right = map h s.right }

  map_sides_turn : (u : List A) (i : ℕ) (t : A) (j : ℕ) (s : Sides A) → map_sides (sides_turn o u i t j s) ≡ sides_turn p (map h u) i (h t) j (map_sides s)
  unfolding sides_turn
  map_sides_turn u i t j s = simp (map_column_lem, map_set h, m.minus, map_at m)

  map_no_sides : map_sides (no_sides o) ≡ no_sides p
  map_no_sides = simp m.cst

  pub map_triangle : (u : List A) (i : ℕ) (t : A) → map_table h (triangle_of o u i t) ≡ triangle_of p (map h u) i (h t)
  unfolding triangle_of
  map_triangle u i t =
      ap (λ (s : Sides B). s.ndu)
      (map_turns map_sides (sides_turn o u i t) (sides_turn p (map h u) i (h t)) (map_sides_turn u i t) 1 3 (no_sides o)
      ∙ ap (turns 1 3 (sides_turn p (map h u) i (h t))) map_no_sides)

  -- ---- the derivatives

  abbrev map_coefs : Coefs A → Coefs B
  map_coefs s = record { old = map h s.old; new = map h s.new; d = h s.d }

  map_first : (ndu : List (List A)) (r k : ℕ) (s : Coefs A) → map_coefs (first_coef o ndu r k s) ≡ first_coef p (map_table h ndu) r k (map_coefs s)
  unfolding first_coef
  map_first ndu r k s = map_choice map_coefs (leb k r) _ s (simp (map_set h, m.over, m.times, map_at m, map_row h)) refl

  map_mid_turn : (ndu : List (List A)) (rk : ℤ) (k j : ℕ) (s : Coefs A) → map_coefs (mid_turn o ndu rk k j s) ≡ mid_turn p (map_table h ndu) rk k j (map_coefs s)
  unfolding mid_turn
  map_mid_turn ndu rk k j s = simp (map_set h, m.over, m.minus, m.times, m.plus, map_at m, map_row h)

  map_mid : (ndu : List (List A)) (r k : ℕ) (s : Coefs A) → map_coefs (mid_coefs o ndu r k s) ≡ mid_coefs p (map_table h ndu) r k (map_coefs s)
  unfolding mid_coefs
  map_mid ndu r k s =
      map_turns map_coefs (mid_turn o ndu (below r k) k) (mid_turn p (map_table h ndu) (below r k) k) (map_mid_turn ndu (below r k) k)
      (first_j (below r k)) (end_j r k - first_j (below r k)) s

  map_last : (ndu : List (List A)) (r k : ℕ) (s : Coefs A) → map_coefs (last_coef o ndu r k s) ≡ last_coef p (map_table h ndu) r k (map_coefs s)
  unfolding last_coef
  map_last ndu r k s = map_choice map_coefs (leb r (3 - k)) _ s (simp (map_set h, m.over, m.opp, m.times, m.plus, map_at m, map_row h)) refl

  map_cleared : (s : Coefs A) → map_coefs (cleared o s) ≡ cleared p (map_coefs s)
  map_cleared s = ap (λ (z : B). record { old = map h s.old; new = map h s.new; d = z }) (m.cst zero64)

  map_order : (ndu : List (List A)) (r k : ℕ) (s : Coefs A) → map_coefs (order_of o ndu r k s) ≡ order_of p (map_table h ndu) r k (map_coefs s)
  unfolding order_of
  map_order ndu r k s =
      ap (swapped p)
      (map_last ndu r k _ ∙ ap (last_coef p (map_table h ndu) r k)
      (map_mid ndu r k _ ∙ ap (mid_coefs p (map_table h ndu) r k)
      (map_first ndu r k _ ∙ ap (first_coef p (map_table h ndu) r k) (map_cleared s))))

  map_start : map_coefs (start_coefs o) ≡ start_coefs p
  map_start = simp m.cst

  -- ---- the basis

  map_no_orders : map_table h (no_orders o) ≡ no_orders p
  map_no_orders = simp m.cst

  map_values : (ndu : List (List A)) → map_table h (values_of o ndu) ≡ values_of p (map_table h ndu)
  unfolding values_of
  map_values ndu =
      map_turns (map_table h) (λ j d. put2 d 0 j (at2 o ndu j 3)) (λ j d. put2 d 0 j (at2 p (map_table h ndu) j 3))
      (λ j d. simp (map_put h, map_cell m)) 0 4 (no_orders o)
      ∙ ap (turns 0 4 (λ j d. put2 d 0 j (at2 p (map_table h ndu) j 3))) map_no_orders

  abbrev map_orders : Orders A → Orders B
  map_orders s = record { coefs = map_coefs s.coefs; ders = map_table h s.ders }

  map_order_turn : (ndu : List (List A)) (r k : ℕ) (s : Orders A) → map_orders (order_turn o ndu r k s) ≡ order_turn p (map_table h ndu) r k (map_orders s)
  unfolding order_turn
  map_order_turn ndu r k s =
      let c = order_of o ndu r k s.coefs in
      (λ i. record { coefs = map_coefs c; ders = map_put h s.ders k r c.d i })
      ∙ ap (λ (x : Coefs B). record { coefs = x; ders = put2 (map_table h s.ders) k r x.d }) (map_order ndu r k s.coefs)

  map_function : (ndu : List (List A)) (n r : ℕ) (ders : List (List A))
      → map_table h (function_of o ndu n r ders) ≡ function_of p (map_table h ndu) n r (map_table h ders)
  unfolding function_of
  map_function ndu n r ders =
      ap (λ (s : Orders B). s.ders)
      (map_turns map_orders (order_turn o ndu r) (order_turn p (map_table h ndu) r) (map_order_turn ndu r) 1 (n + 1 - 1)
      (record { coefs = start_coefs o; ders = ders })
      ∙ ap (λ (c : Coefs B). turns 1 (n + 1 - 1) (order_turn p (map_table h ndu) r) (record { coefs = c; ders = map_table h ders })) map_start)

  map_functions : (ndu : List (List A)) (n : ℕ) (ders : List (List A))
      → map_table h (functions_of o ndu n ders) ≡ functions_of p (map_table h ndu) n (map_table h ders)
  unfolding functions_of
  map_functions ndu n ders = map_turns (map_table h) (function_of o ndu n) (function_of p (map_table h ndu) n) (map_function ndu n) 0 4 ders

  map_scaled_row : (k : ℕ) (f : Float) (ders : List (List A)) → map_table h (scaled_row o k f ders) ≡ scaled_row p k f (map_table h ders)
  unfolding scaled_row
  map_scaled_row k f ders =
      map_turns (map_table h) (λ j d. put2 d k j (o.times (at2 o d k j) (o.cst f))) (λ j d. put2 d k j (p.times (at2 p d k j) (p.cst f)))
      (λ j d. simp (map_put h, m.times, m.cst, map_cell m)) 0 4 ders

  abbrev map_scaling : Scaling A → Scaling B
  map_scaling s = record { ders = map_table h s.ders; factor = s.factor }

  map_scale_turn : (k : ℕ) (s : Scaling A) → map_scaling (scale_turn o k s) ≡ scale_turn p k (map_scaling s)
  unfolding scale_turn
  map_scale_turn k s = simp (map_scaled_row)

  map_scaled : (n : ℕ) (ders : List (List A)) → map_table h (scaled o n ders) ≡ scaled p n (map_table h ders)
  unfolding scaled
  map_scaled n ders = ap (λ (s : Scaling B). s.ders) (map_turns map_scaling (scale_turn o) (scale_turn p) map_scale_turn 1 (n + 1 - 1) _)

  pub map_derivatives : (u : List A) (i : ℕ) (t : A) (nd : ℕ) → map_table h (derivatives_of o u i t nd) ≡ derivatives_of p (map h u) i (h t) nd
  unfolding derivatives_of
  map_derivatives u i t nd =
      map_scaled (min nd 3) _ ∙ ap (scaled p (min nd 3))
      (map_functions (triangle_of o u i t) (min nd 3) _ ∙ ap (functions_of p (map_table h (triangle_of o u i t)) (min nd 3)) (map_values (triangle_of o u i t)))
      ∙ ap (λ (ndu : List (List B)). scaled p (min nd 3) (functions_of p ndu (min nd 3) (values_of p ndu))) (map_triangle u i t)

  pub map_basis : (u : List A) (i : ℕ) (t : A) (nd : ℕ) → map_table h (basis_of o u i t nd) ≡ basis_of p (map h u) i (h t) nd
  unfolding basis_of
  map_basis u i t nd = map_choice (map_table h) (leb 3 i && leb i 65) _ _ (map_derivatives u i t nd) map_no_orders
