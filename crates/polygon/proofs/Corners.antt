-- The same corners have the same edges, and a corner that is missing makes the length a NaN. Assumes nothing.
use mathlib.Core.Path.{◌≡◌, refl, sym, ap, ◌∙◌}
use mathlib.Core.Bool.{true}
use mathlib.Core.List.{List}
use Prim.Native.Nat.{ℕ, zero, suc, ◌+◌, ◌-◌, ◌*◌, ◌≤◌, ◌<◌}
use native.Mathlib.Nat.{le_refl, one-mul}
use native.Mathlib.Omega.{arith}
use lib.ListN.{length, get_or-eq_default}
use borrow.Author.Tests.{ltb-true, ltb-false}
use lib.Dec.{T, ltb}
use lib.Ieee.{Float, nan, binary64, add, sub, mul, lt, fits, of_bits}
use lib.Ieee.Fits.{add-fits}
use lib.Ieee.Scale.{finite}
use Rattle.meaning.specs.Scalar.{plain, zero64}
use Rattle.meaning.specs.Table.{at1}
use Rattle.meaning.specs.Root.{root_of}
use Rattle.meaning.specs.Loops.{turns}
use Rattle.meaning.proofs.Tests.{by_two, no}
use Rattle.meaning.proofs.Nans.{plus_nan}
use Rattle.plane.specs.Vector.{Vector, sub_v, norm_v}
use Rattle.polygon.specs.Polygon.{length_by, length_of}
use Rattle.polygon.specs.Stepped.{corner_at, corner_in}

-- the sum so far, and the edge to corner i
abbrev edge : (ℕ → Vector Float) → ℕ → Float → Float
edge h i s = plain.plus s (norm_v plain (sub_v plain (h i) (h (i - 1))))

pub same_length : (f g : ℕ → Vector Float) (n : ℕ) → ((i : ℕ) → i < n → f i ≡ g i) → length_by plain f n ≡ length_by plain g n
unfolding length_by turns
same_length f g n same = along (n - 1) (le_refl (n - 1))
  where
    along : (m : ℕ) → m ≤ n - 1 → turns 1 m (edge f) zero64 ≡ turns 1 m (edge g) zero64
    along zero h = refl
    along (suc m) h =
        let so_far = along m (omega arith) in
        let this = same (1 + m) (omega arith) in
        let before = same (1 + m - 1) (omega arith) in
        λ k. plain.plus (so_far k) (norm_v plain (sub_v plain (this k) (before k)))

pub no_edges : (corner : ℕ → Vector Float) (n : ℕ) → n < 2 → zero64 ≡ length_by plain corner n
unfolding length_by turns
no_edges corner n h = let e : n - 1 ≡ 0 = omega arith in rw e

-- corners in two slices, each behind the one before; and x, y in turn, where y are read from the second number on
pub row-length : (xs ys : List Float) (n : ℕ) → length_by plain (corner_at 1 xs ys) n ≡ length_of plain xs ys n
row-length xs ys n = same_length (corner_at 1 xs ys) _ n (λ i h. ap (λ (k : ℕ). record { x = at1 plain xs k; y = at1 plain ys k }) (one-mul i))

pub turn_length : (coords ys : List Float) (n : ℕ) → ((j : ℕ) → at1 plain ys j ≡ at1 plain coords (1 + j))
    → length_by plain (corner_at 2 coords ys) n ≡ length_by plain (corner_in coords) n
turn_length coords ys n second =
    same_length (corner_at 2 coords ys) (corner_in coords) n
    (λ i h.
    let e : 1 + 2 * i ≡ 2 * i + 1 = omega arith in
    let y = second (2 * i) ∙ ap (at1 plain coords) e in
    λ k. record { x = at1 plain coords (2 * i); y = y k })

-- ---- a corner that is missing: what is read of it is a NaN

norm_nan_x : (x y : Float) → x ≡ nan → norm_v plain (record { x = x; y = y }) ≡ nan
unfolding norm_v mul add lt root_of
norm_nan_x x y e = rw e

norm_nan_y : (x y : Float) → y ≡ nan → norm_v plain (record { x = x; y = y }) ≡ nan
unfolding norm_v mul lt root_of
norm_nan_y x y e = rw (e, plus_nan (plain.times x x))

-- the last edge is a NaN, so the sum is
last_nan : (corner : ℕ → Vector Float) (n : ℕ) → 2 ≤ n → norm_v plain (sub_v plain (corner (n - 1)) (corner (n - 1 - 1))) ≡ nan → nan ≡ length_by plain corner n
unfolding length_by turns
last_nan corner n h e =
    let m : ℕ = n - 2 in
    let more : n - 1 ≡ suc m = omega arith in
    let here : 1 + m ≡ n - 1 = omega arith in
    sym (ap (λ (k : ℕ). turns 1 k (edge corner) zero64) more
    ∙ ap (λ (k : ℕ). edge corner k (turns 1 m (edge corner) zero64)) here
    ∙ ap (plain.plus (turns 1 m (edge corner) zero64)) e
    ∙ plus_nan (turns 1 m (edge corner) zero64))

module _ (xs ys : List Float) (n : ℕ) (two : 2 ≤ n) where
  pub missing_x : length xs < n → nan ≡ length_of plain xs ys n
  unfolding sub
  missing_x h =
      last_nan _ n two
      (norm_nan_x _ _ (ap (λ (x : Float). plain.minus x (at1 plain xs (n - 1 - 1))) (get_or-eq_default xs nan (omega arith))))

  pub missing_y : length ys < n → nan ≡ length_of plain xs ys n
  unfolding sub
  missing_y h =
      last_nan _ n two
      (norm_nan_y _ _ (ap (λ (y : Float). plain.minus y (at1 plain ys (n - 1 - 1))) (get_or-eq_default ys nan (omega arith))))

-- so a finite length has all its corners
pub all_there : (xs ys : List Float) (n : ℕ) → finite (length_of plain xs ys n) ≡ true → n ≤ 1 + length xs
all_there xs ys n h =
    by_two (ltb (1 + length xs) n)
    (λ e. let l = ltb-true (1 + length xs) n e in no (ap finite (missing_x xs ys n (omega arith) (omega arith)) ∙ h))
    (λ e. ltb-false (1 + length xs) n e)

-- ---- the length is a double

pub length-double : (corner : ℕ → Vector Float) (n : ℕ) → T (fits binary64 (length_by plain corner n))
unfolding length_by turns fits of_bits
length-double corner n = by (n - 1)
  where
    by : (m : ℕ) → T (fits binary64 (turns 1 m (edge corner) zero64))
    by zero = tt
    by (suc m) = add-fits binary64 _ _
