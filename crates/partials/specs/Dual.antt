-- A value with its partials. docs/RULES.md, "Partials", decides what is missing and what is counted; the original's `Dv` the operations and their
-- order. `dual` is the scalar's second instance.
use Rattle.std.specs.Prelude.{ℕ, ◌+◌, min, max, Bool, ◌&&◌, cond, List, [], length, get_or, set, replicate, leb, ltb, Float}
use Rattle.std.specs.Float.{binary64, nan}
use Rattle.std.specs.Float.Ieee.{add, sub, mul, div, neg, lt, le, of_bits}
use Rattle.std.specs.Float.Ieee.Scale.{finite}
use Rattle.meaning.specs.Root.{root_of}
use Rattle.meaning.specs.Scalar.{Ops, zero64, one64}
use Rattle.meaning.specs.Loops.{run}
use Rattle.partials.specs.declared.Dv.{Dv}

-- ---- reading: a count above 27 reads as 27, and a partial from the count on as +0.0

abbrev pub count_of : Dv → ℕ
count_of d = min d.n 27

-- partial k of the n that stand in g
abbrev pub part_at : List Float → ℕ → ℕ → Float
part_at g n k = cond (ltb k n) (get_or g k nan) zero64

abbrev pub part_of : Dv → ℕ → Float
part_of d k = part_at d.g (count_of d) k

-- ---- writing: n partials and +0.0 in the other places of the 27

unfoldable pub partials : ℕ → (ℕ → Float) → List Float
partials n f = run 0 n (λ k l. set l k (f k)) (replicate 27 zero64)

-- the original's `zip`: f of the two partials, as far as the longer reaches
unfoldable pub zip_dv : (Float → Float → Float) → Float → Dv → Dv → Dv
unfolding partials
zip_dv f v a b = let n = max (count_of a) (count_of b) in record { v = v; g = partials n (λ k. f (part_of a k) (part_of b k)); n = n }

-- the original's `map`: each partial times f
unfoldable pub map_dv : Float → Float → Dv → Dv
unfolding partials
map_dv v f a = record { v = v; g = partials (count_of a) (λ k. mul binary64 (part_of a k) f); n = count_of a }

-- ---- the operations

-- a constant has no partials
unfoldable pub cst_dv : Float → Dv
cst_dv x = record { v = x; g = replicate 27 zero64; n = 0 }

-- Variable i of xs: its number, and the partial 1.0 with respect to itself. There is room for the indexes 0 to 26.
unfoldable pub var_dv : List Float → ℕ → Dv
unfolding cst_dv
var_dv xs i =
    cond (leb i 26 && ltb i (length xs)) (record { v = get_or xs i nan; g = set (replicate 27 zero64) i one64; n = i + 1 }) (cst_dv zero64)

unfoldable pub add_dv : Dv → Dv → Dv
unfolding zip_dv
add_dv a b = zip_dv (λ x y. add binary64 x y) (add binary64 a.v b.v) a b

unfoldable pub sub_dv : Dv → Dv → Dv
unfolding zip_dv
sub_dv a b = zip_dv (λ x y. sub binary64 x y) (sub binary64 a.v b.v) a b

-- (s t)' = s' t + s t'
unfoldable pub mul_dv : Dv → Dv → Dv
unfolding zip_dv
mul_dv a b = zip_dv (λ x y. add binary64 (mul binary64 x b.v) (mul binary64 a.v y)) (mul binary64 a.v b.v) a b

-- (s / t)' = s' / t - s t' / t t
unfoldable pub div_dv : Dv → Dv → Dv
unfolding zip_dv
div_dv a b =
    zip_dv (λ x y. sub binary64 (div binary64 x b.v) (div binary64 (mul binary64 a.v y) (mul binary64 b.v b.v))) (div binary64 a.v b.v) a b

unfoldable pub neg_dv : Dv → Dv
unfolding map_dv
neg_dv a = map_dv (neg a.v) (neg one64) a

-- at or below 0 the constant +0.0; above it (√s)' = s' * (0.5 / √s)
unfoldable pub root_dv : Dv → Dv
unfolding cst_dv map_dv
root_dv a = let r = root_of a.v in cond (le a.v zero64) (cst_dv zero64) (map_dv r (div binary64 (of_bits binary64 0x3fe0_0000_0000_0000) r) a)

-- how far t lies outside lo to hi: the original's `overshoot`
unfoldable pub overshoot_dv : Dv → Float → Float → Dv
unfolding cst_dv sub_dv
overshoot_dv t lo hi = cond (lt t.v lo) (sub_dv t (cst_dv lo)) (cond (lt hi t.v) (sub_dv t (cst_dv hi)) (cst_dv zero64))

-- the value and each counted partial is finite
unfoldable pub fine_dv : Dv → Bool
fine_dv d = run 0 (count_of d) (λ k b. b && finite (get_or d.g k nan)) (finite d.v)

abbrev pub dual : Ops Dv
dual =
    record {
      plus = add_dv;
      minus = sub_dv;
      times = mul_dv;
      over = div_dv;
      opp = neg_dv;
      root = root_dv;
      cst = cst_dv;
      val = λ d. d.v;
      off = record { v = nan; g = []; n = 0 };
      fine = fine_dv;
    }
