-- The four cubic basis functions that are not zero on a span, and their derivatives: entry k, j of the answer is the derivative of order k of
-- function i - 3 + j. The original's `basis` decides the operations and their order, The NURBS Book, A2.3, what they mean; docs/RULES.md that the
-- orders above 3 are 0.
use Rattle.std.specs.Prelude.{ℕ, ◌+◌, ◌-◌, min, cond, ◌&&◌, List, [], ◌∷◌, replicate, leb, pos, Float}
use Rattle.std.specs.Float.{binary64}
use Rattle.std.specs.Float.Ieee.{mul, of_int, of_bits}
use Rattle.meaning.specs.Scalar.{Ops}
use Rattle.meaning.specs.Loops.{run}
use Rattle.meaning.specs.Table.{at1, at2, put2}
use Rattle.basis.specs.Triangle.{four_zeros, triangle_of}
use Rattle.basis.specs.Derivatives.{Coefs, order_of, start_coefs}

-- 3.0, the degree
abbrev pub three64 : Float
three64 = of_bits binary64 0x4008_0000_0000_0000

-- the state of the loop over k: the answer, and the coefficients that an order hands to the next
pub record Orders (A : Type 0) : Type 0 where
  pub coefs : Coefs A
  pub ders : List (List A)

-- the state of the last loop: the answer, and the factor of the order at hand
pub record Scaling (A : Type 0) : Type 0 where
  pub ders : List (List A)
  pub factor : Float

module _ {A : Type 0} (o : Ops A) where
  -- there is room for the orders 0 to 4
  abbrev pub no_orders : List (List A)
  no_orders = replicate 5 (four_zeros o)

  -- the values: row 0 from the table's last column
  unfoldable pub values_of : List (List A) → List (List A)
  values_of ndu = run 0 4 (λ j d. put2 d 0 j (at2 o ndu j 3)) no_orders

  -- the orders 1 to n of function r: a turn over k, and the loop
  unfoldable pub order_turn : List (List A) → ℕ → ℕ → Orders A → Orders A
  order_turn ndu r k s = let c = order_of o ndu r k s.coefs in record { coefs = c; ders = put2 s.ders k r c.d }

  unfoldable pub function_of : List (List A) → ℕ → ℕ → List (List A) → List (List A)
  function_of ndu n r ders = (run 1 (n + 1) (order_turn ndu r) (record { coefs = start_coefs o; ders = ders })).ders

  -- the loop over r
  unfoldable pub functions_of : List (List A) → ℕ → List (List A) → List (List A)
  functions_of ndu n ders = run 0 4 (function_of ndu n) ders

  -- each entry of row k times a factor
  unfoldable pub scaled_row : ℕ → Float → List (List A) → List (List A)
  scaled_row k f ders = run 0 4 (λ j d. put2 d k j (o.times (at2 o d k j) (o.cst f))) ders

  -- the last loop: row 1 times 3, row 2 times 3 * 2, row 3 times 3 * 2 * 1
  unfoldable pub scale_turn : ℕ → Scaling A → Scaling A
  scale_turn k s = record { ders = scaled_row k s.factor s.ders; factor = mul binary64 s.factor (of_int binary64 (pos (3 - k))) }

  unfoldable pub scaled : ℕ → List (List A) → List (List A)
  scaled n ders = (run 1 (n + 1) scale_turn (record { ders = ders; factor = three64 })).ders

  -- A2.3 whole: span i of the knots u at t, with the orders up to nd
  unfoldable pub derivatives_of : List A → ℕ → A → ℕ → List (List A)
  derivatives_of u i t nd = let n = min nd 3 in let ndu = triangle_of o u i t in scaled n (functions_of ndu n (values_of ndu))

  -- the same where the room of 70 knots has such a span, and zeros elsewhere
  unfoldable pub basis_of : List A → ℕ → A → ℕ → List (List A)
  basis_of u i t nd = cond (leb 3 i && leb i 65) (derivatives_of u i t nd) no_orders

  -- the six knots that span i reads, from knot i - 2 to knot i + 3: in this list the span is at index 2
  abbrev pub window : List A → ℕ → List A
  window u i =
      at1 o u (i - 2 + 0) ∷ at1 o u (i - 2 + 1) ∷ at1 o u (i - 2 + 2) ∷ at1 o u (i - 2 + 3) ∷ at1 o u (i - 2 + 4) ∷ at1 o u (i - 2 + 5) ∷ []
