-- A map of one scalar into another goes through the evaluation of a curve: a coordinate, a point inside and past the ends, the orders at a parameter.
-- Assumes nothing.
use mathlib.Core.Path.{◌≡◌, ap, ◌∙◌}
use mathlib.Core.Bool.{◌&&◌}
use mathlib.Core.List.{List, [], map}
use Prim.Native.Nat.{ℕ, zero, suc, ◌+◌, ◌-◌, ◌*◌}
use lib.Dec.{leb}
use lib.ListN.{get_or, set, replicate}
use lib.Ieee.{Float, lt}
use Rattle.meaning.specs.Scalar.{Ops, zero64}
use Rattle.meaning.specs.Loops.{turns}
use Rattle.meaning.specs.Table.{at1}
use Rattle.basis.specs.Basis.{basis_of}
use Rattle.plane.specs.Vector.{Vector, add_v, scale_v}
use Rattle.shape.specs.Shape.{Shape}
use Rattle.evaluate.specs.Point.{weighted, combined, placed, straight_on, inside_of, beyond_of, order_at, orders_of}
use Rattle.value_laws.proofs.Hom.{Hom, map_set, map_replicate, map_row, map_at, map_turns, map_choice}
use Rattle.value_laws.proofs.Basis.{map_basis}

module _ {A B : Type 0} (h : A → B) where
  abbrev pub map_vector : Vector A → Vector B
  map_vector a = record { x = h a.x; y = h a.y }

  -- a curve, knot by knot and coordinate by coordinate
  abbrev pub map_shape : Shape A → Shape B
  map_shape c = record { n = c.n; xs = map h c.xs; ys = map h c.ys; knots = map h c.knots }

module _ {A B : Type 0} {o : Ops A} {p : Ops B} {h : A → B} (m : Hom o p h) where
  pub map_weighted : (cs : List A) (i : ℕ) (row : List A) → h (weighted o cs i row) ≡ weighted p (map h cs) i (map h row)
  unfolding weighted
  map_weighted cs i row =
      let turn : ℕ → B → B = λ j s. p.plus s (p.times (at1 p (map h cs) (i - 3 + j)) (at1 p (map h row) j)) in
      map_turns h (λ j s. o.plus s (o.times (at1 o cs (i - 3 + j)) (at1 o row j))) turn (λ j s. simp (m.plus, m.times, map_at m)) 0 4 (o.cst zero64)
      ∙ ap (turns 0 4 turn) (m.cst zero64)

  map_placed : (n : ℕ) (f : ℕ → Vector A) (g : ℕ → Vector B) → ((k : ℕ) → map_vector h (f k) ≡ g k) → map h (placed o n f) ≡ placed p n g
  unfolding placed
  map_placed n f g e =
      let turn : ℕ → List B → List B = λ k l. set (set l (2 * k) (g k).x) (2 * k + 1) (g k).y in
      map_turns (map h) (λ k l. set (set l (2 * k) (f k).x) (2 * k + 1) (f k).y) turn
      (λ k l. simp (map_set h) (ap (λ (v : Vector B). set (set (map h l) (2 * k) v.x) (2 * k + 1) v.y) (e k))) 0 (n - 0) (replicate 10 (o.cst zero64))
      ∙ ap (turns 0 (n - 0) turn) (map_replicate h 10 (o.cst zero64) ∙ ap (replicate 10) (m.cst zero64))

  map_straight : (f : ℕ → Vector A) (g : ℕ → Vector B) (e t : A) → ((k : ℕ) → map_vector h (f k) ≡ g k) → (k : ℕ)
      → map_vector h (straight_on o f e t k) ≡ straight_on p g (h e) (h t) k
  map_straight f g e t q zero = simp (m.plus, m.times, m.minus) (λ i. add_v p (q 0 i) (scale_v p (q 1 i) (p.minus (h t) (h e))))
  map_straight f g e t q (suc zero) = q 1
  map_straight f g e t q (suc (suc k)) = simp m.cst

  -- `sp` finds the span of a parameter: by its value, so that it is the same one
  module _ (sp : Float → ℕ) (c : Shape A) where
    pub map_inside : (t : A) (nd k : ℕ) → map_vector h (inside_of o sp c t nd k) ≡ inside_of p sp (map_shape h c) (h t) nd k
    unfolding inside_of
    map_inside t nd k =
        let at : ℕ → List B → Vector B = λ i row. combined p (map_shape h c) i row in
        let i = sp (o.val t) in
        let row = get_or (basis_of o c.knots i t nd) k [] in
        (λ j. record { x = map_weighted c.xs i row j; y = map_weighted c.ys i row j })
        ∙ ap (at i) (map_row h (basis_of o c.knots i t nd) k ∙ ap (λ (d : List (List B)). get_or d k []) (map_basis m c.knots i t nd))
        ∙ ap (λ (v : Float). at (sp v) (get_or (basis_of p (map h c.knots) (sp v) (h t) nd) k [])) (m.val t)

    pub map_beyond : (e t : A) (k : ℕ) → map_vector h (beyond_of o sp c e t k) ≡ beyond_of p sp (map_shape h c) (h e) (h t) k
    unfolding beyond_of
    map_beyond e t k = map_straight (inside_of o sp c e 1) (inside_of p sp (map_shape h c) (h e) 1) e t (map_inside e 1) k

    pub map_order : (t : A) (nd k : ℕ) → map_vector h (order_at o sp c t nd k) ≡ order_at p sp (map_shape h c) (h t) nd k
    unfolding order_at
    map_order t nd k =
        let lo = at1 o c.knots 0 in
        let hi = at1 o c.knots (c.n + 3) in
        map_choice (map_vector h) (lt (o.val t) (o.val lo)) _ _ (map_beyond lo t k)
        (map_choice (map_vector h) (lt (o.val hi) (o.val t)) _ _ (map_beyond hi t k) (map_inside t nd k))
        ∙ simp (m.val, map_at m)

    pub map_orders_lem : (t : A) (nd : ℕ) → map h (orders_of o sp c t nd) ≡ orders_of p sp (map_shape h c) (h t) nd
    unfolding orders_of
    map_orders_lem t nd =
        map_choice (map h) (leb 4 c.n && (leb c.n 66 && leb nd 4)) _ _
        (map_placed (nd + 1) (order_at o sp c t nd) (order_at p sp (map_shape h c) (h t) nd) (map_order t nd))
        (map_replicate h 10 (o.cst zero64) ∙ ap (replicate 10) (m.cst zero64))
