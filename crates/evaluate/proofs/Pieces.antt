-- What one span reads is all that its point depends on: six knots, in whatever room they stand, and four control points. Assumes nothing.
use mathlib.Core.Path.{◌≡◌, refl, sym, ap, ◌∙◌}
use mathlib.Core.List.{List, [], ◌∷◌}
use Prim.Native.Nat.{ℕ, ◌+◌, ◌-◌, ◌*◌, ◌≤◌, ◌<◌}
use native.Mathlib.Omega.{arith}
use Rattle.std.specs.List.{fold, zip}
use lib.ListN.{get_or, length}
use lib.Seq.{ext_get_or}
use lib.Ieee.{Float}
use Rattle.meaning.specs.Scalar.{Ops, plain, zero64}
use Rattle.meaning.specs.Loops.{turns}
use Rattle.meaning.specs.Search.{listed}
use Rattle.meaning.specs.Table.{at1}
use Rattle.meaning.proofs.Filling.{length-listed, nth_listed}
use Rattle.basis.specs.Basis.{derivatives_of, basis_of, window}
use Rattle.basis.proofs.Window.{basis_window}
use Rattle.shape.specs.Shape.{Shape, every_other}
use Rattle.shape.proofs.Sound.{other_at}
use Rattle.evaluate.specs.Point.{weighted, combined, straight_on, inside_of, beyond_of}
use Rattle.evaluate.specs.Piece.{four_of, of_four, around, on_span, on_window}

-- ---- lists of a known length

entries : {A : Type 0} (z : A) (l : List A) (n : ℕ) → length l ≡ n → l ≡ listed 0 n (λ i. get_or l i z)
entries z l n h =
    ext_get_or z l (listed 0 n (λ i. get_or l i z)) (h ∙ sym (length-listed 0 n (λ i. get_or l i z)))
    (λ i g. sym (nth_listed n i (λ i. get_or l i z) z (omega arith)))

-- ---- the knots

-- us and vs have the six knots of span i in common
abbrev pub SameSix : List Float → List Float → ℕ → Type 0
SameSix us vs i = (k : ℕ) → k < 6 → at1 plain us (i - 2 + k) ≡ at1 plain vs (i - 2 + k)

around-window : (us vs : List Float) (i : ℕ) → SameSix us vs i → window plain (around us i) 3 ≡ window plain vs i
unfolding around turns
around-window us vs i e =
    λ h. e 0 (omega arith) h ∷ e 1 (omega arith) h ∷ e 2 (omega arith) h ∷ e 3 (omega arith) h ∷ e 4 (omega arith) h ∷ e 5 (omega arith) h ∷ []

pub around_basis : (us vs : List Float) (i : ℕ) (t : Float) (nd : ℕ) → 3 ≤ i → i ≤ 65 → SameSix us vs i
    → basis_of plain (around us i) 3 t nd ≡ basis_of plain vs i t nd
around_basis us vs i t nd g h e =
    sym (basis_window plain (around us i) 3 t nd (omega arith) (omega arith))
    ∙ ap (λ (w : List Float). derivatives_of plain w 2 t nd) (around-window us vs i e)
    ∙ basis_window plain vs i t nd g h

-- the six knots alone and the room in which they stand say the same
pub window_in_room : (us : List Float) (i : ℕ) (xs ys : List Float) (t : Float) (nd : ℕ)
    → on_window plain (window plain us i) xs ys t nd ≡ on_span plain (around us i) 3 xs ys t nd
unfolding on_window on_span
window_in_room us i xs ys t nd =
    let rows : derivatives_of plain (window plain us i) 2 t nd ≡ basis_of plain (around us i) 3 t nd =
    ap (λ (w : List Float). derivatives_of plain w 2 t nd) (sym (around-window us us i (λ k l. refl)))
    ∙ basis_window plain (around us i) 3 t nd (omega arith) (omega arith) in
    λ h k. of_four plain xs ys (rows h) k

-- ---- the control points

module _ {A : Type 0} (o : Ops A) where
  -- a turn of the code's fold over control points and basis values side by side, and what it comes to
  abbrev pub add_product : A → A × A → A
  add_product s p = o.plus s (o.times p.0 p.1)

  pub weighted_zip : (a row : List A) {s : A} → s ≡ o.cst zero64 → length a ≡ 4 → length row ≡ 4 → fold add_product s (zip a row) ≡ weighted o a 3 row
  unfolding weighted turns listed
  weighted_zip a row e h k =
      let p = entries o.off a 4 h in
      let q = entries o.off row 4 k in
      (λ i. fold add_product (e i) (zip (p i) (q i))) ∙ sym (λ i. weighted o (p i) 3 (q i))

  weighted-four : (cs : List A) (i : ℕ) {a b c d : A} → a ≡ at1 o cs (i - 3 + 0) → b ≡ at1 o cs (i - 3 + 1) → c ≡ at1 o cs (i - 3 + 2)
      → d ≡ at1 o cs (i - 3 + 3) → (row : List A) → weighted o (a ∷ b ∷ c ∷ d ∷ []) 3 row ≡ weighted o cs i row
  unfolding weighted turns
  weighted-four cs i p q r s row = λ h. weighted o (p h ∷ q h ∷ r h ∷ s h ∷ []) 3 row

  -- in a row
  pub weighted-row : (cs : List A) (i : ℕ) (row : List A) → weighted o (four_of o cs (i - 3) 1) 3 row ≡ weighted o cs i row
  weighted-row cs i row =
      let back : (a b : ℕ) → a ≡ b → at1 o cs a ≡ at1 o cs b = λ a b e. ap (at1 o cs) e in
      weighted-four cs i (back (i - 3) (i - 3 + 0) (omega arith)) (back (i - 3 + 1) (i - 3 + 1) refl) (back (i - 3 + 2 * 1) (i - 3 + 2) (omega arith))
      (back (i - 3 + 3 * 1) (i - 3 + 3) (omega arith)) row

-- every second number
pub weighted_others : (coords : List Float) (n off at i : ℕ) → n ≤ 66 → 3 ≤ i → i < n → at ≡ 2 * (i - 3) + off → (row : List Float)
    → weighted plain (four_of plain coords at 2) 3 row ≡ weighted plain (every_other coords n off) i row
weighted_others coords n off at i r g h e row =
    let each : (k a : ℕ) → i - 3 + k < n → a ≡ 2 * (i - 3 + k) + off → at1 plain coords a ≡ at1 plain (every_other coords n off) (i - 3 + k) =
    λ k a l q. ap (at1 plain coords) q ∙ sym (other_at coords n off (i - 3 + k) r l) in
    weighted-four plain (every_other coords n off) i (each 0 at (omega arith) (omega arith)) (each 1 (at + 2) (omega arith) (omega arith))
    (each 2 (at + 2 * 2) (omega arith) (omega arith)) (each 3 (at + 3 * 2) (omega arith) (omega arith)) row

-- ---- both

module _ {A : Type 0} (o : Ops A) (sp : Float → ℕ) (c : Shape A) where
  -- i is the span of t, and rows of the basis and control points that agree with the curve's there give its orders
  four_is : (t : A) (nd : ℕ) (ders : List (List A)) (i : ℕ) (xs ys : List A) (k : ℕ)
      → i ≡ sp (o.val t) → ders ≡ basis_of o c.knots i t nd → ((row : List A) → weighted o xs 3 row ≡ weighted o c.xs i row)
      → ((row : List A) → weighted o ys 3 row ≡ weighted o c.ys i row) → of_four o xs ys ders k ≡ inside_of o sp c t nd k
  unfolding inside_of
  four_is t nd ders i xs ys k e b p q =
      let row = get_or ders k [] in
      (λ h. record { x = p row h; y = q row h })
      ∙ ap (λ (d : List (List A)). combined o c i (get_or d k [])) b
      ∙ ap (λ (s : ℕ). combined o c s (get_or (basis_of o c.knots s t nd) k [])) e

  -- the same from knots that agree with the curve's there
  pub on_span_is : (t : A) (nd : ℕ) (us : List A) (i j : ℕ) (xs ys : List A) → j ≡ sp (o.val t) → basis_of o us i t nd ≡ basis_of o c.knots j t nd
      → ((row : List A) → weighted o xs 3 row ≡ weighted o c.xs j row) → ((row : List A) → weighted o ys 3 row ≡ weighted o c.ys j row)
      → on_span o us i xs ys t nd ≡ inside_of o sp c t nd
  unfolding on_span
  on_span_is t nd us i j xs ys e b p q = λ h k. four_is t nd _ j xs ys k e b p q h

  -- the same from the window of its six knots
  pub on_window_reads : (t : A) (nd : ℕ) (w : List A) (i : ℕ) (xs ys : List A) → w ≡ window o c.knots i → i ≡ sp (o.val t) → 3 ≤ i → i ≤ 65
      → ((row : List A) → weighted o xs 3 row ≡ weighted o c.xs i row) → ((row : List A) → weighted o ys 3 row ≡ weighted o c.ys i row)
      → on_window o w xs ys t nd ≡ inside_of o sp c t nd
  unfolding on_window
  on_window_reads t nd w i xs ys f e g h p q =
      λ l k. four_is t nd _ i xs ys k e (ap (λ (u : List A). derivatives_of o u 2 t nd) f ∙ basis_window o c.knots i t nd g h) p q l

  -- and from its four control points, too
  pub on_window_is : (t : A) (nd i : ℕ) → i ≡ sp (o.val t) → 3 ≤ i → i ≤ 65
      → on_window o (window o c.knots i) (four_of o c.xs (i - 3) 1) (four_of o c.ys (i - 3) 1) t nd ≡ inside_of o sp c t nd
  on_window_is t nd i e g h = on_window_reads t nd _ i _ _ refl e g h (weighted-row o c.xs i) (weighted-row o c.ys i)

  -- and straight on from the window of the span of e
  pub from_window_is : (e t : A) (i : ℕ) → i ≡ sp (o.val e) → 3 ≤ i → i ≤ 65
      → straight_on o (on_window o (window o c.knots i) (four_of o c.xs (i - 3) 1) (four_of o c.ys (i - 3) 1) e 1) e t ≡ beyond_of o sp c e t
  unfolding beyond_of
  from_window_is e t i q g h = λ l k. straight_on o (on_window_is e 1 i q g h l) e t k
