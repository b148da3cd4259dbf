-- The inequalities behind the bound, over whole numbers alone: u stands for 1.0 in units, P for 2 ^ 53. Assumes nothing.
use mathlib.Core.Path.{◌≡◌}
use mathlib.Core.Logic.{◌⊎◌, inl, inr}
use Prim.Native.Nat.{ℕ, ◌+◌, ◌*◌, ◌^◌, ◌≤◌, ◌<◌}
use native.Mathlib.Nat.{le_of_mul-le-mul_right, mul-le-mul_right, mul-le-mul_left}
use native.Mathlib.Omega.{arith}
use Rattle.hull.proofs.Rounding.{P, H, Within}

pub strict : (a b : ℕ) → a < b → a ≤ b
strict a b h = omega arith

pub first_of : (a b c : ℕ) → a + b ≤ c → a ≤ c
first_of a b c h = omega arith

pub second_of : (a b c : ℕ) → a + b ≤ c → b ≤ c
second_of a b c h = omega arith

-- what is off by 2 ^ -53 of v is off by less than a factor of two
pub twice : (g v : ℕ) → Within v (g * P) (v * P) → (g ≤ v * 2) × (v ≤ g * 2)
twice g v w = (up w.above, back w.below)
  where
    up : g * P ≤ v * P + v → g ≤ v * 2
    up h = omega arith

    back : v * P ≤ g * P + v → v ≤ g * 2
    back h = omega arith

pub widen : (e e' g x : ℕ) → e ≤ e' → Within e g x → Within e' g x
widen e e' g x h w = omega arith

-- ---- one step of the basis, first with a letter for each product; where 2 ^ 53 times a number meets sums, it has a letter too
near_above : (t d : ℕ) → t * P ≤ d * P + t → t * 4 ≤ d * 5
near_above t d h = omega arith

near_one : (d n f : ℕ) → d * P ≤ n * P + (n + f * P) → d * 4 ≤ n * 5 + f * 8
near_one d n f h = omega arith

chain : (t d n f tp dp np ep fp zp : ℕ) → t * 4 ≤ d * 5 → d * 4 ≤ n * 5 + f * 8 → f * 20 ≤ fp → ep * 2 ≤ fp → Within t dp tp → Within (n + fp) dp np
    → Within (t + ep) zp tp → Within (n * 5 + fp * 2) zp np
chain t d n f tp dp np ep fp zp h k l m a b c = omega arith

many : (f : ℕ) → f * 20 ≤ f * P
many f = omega arith

core : (t d n f ep z : ℕ) → ep * 2 ≤ f * P → Within t (d * P) (t * P) → Within (n + f * P) (d * P) (n * P) → Within (t + ep) (z * P) (t * P)
    → Within (n * 5 + f * P * 2) (z * P) (n * P)
core t d n f ep z m a b c =
    chain t d n f (t * P) (d * P) (n * P) ep (f * P) (z * P) (near_above t d a.below) (near_one d n f b.above) (many f) m a b c

-- D is R + L, q is N / D, x is R * q and y is L * q, each rounded. Then x + y is nearly N.
grown : (T D q p : ℕ) → Within T (D * p) (T * p) → Within (T * q) (D * q * p) (T * q * p)
grown T D q p d =
    let a = mul-le-mul_right q d.above in
    let b = mul-le-mul_right q d.below in
    record { above = omega arith; below = omega arith }

both : (u h p q R L x y : ℕ) → Within (R * q + u * h) (x * u * p) (R * q * p) → Within (L * q + u * h) (y * u * p) (L * q * p)
    → Within ((R + L) * q + u * h * 2) ((x + y) * u * p) ((R + L) * q * p)
both u h p q R L x y a b = omega arith

turned : (e q D p n : ℕ) → Within e (q * D * p) n → Within e (D * q * p) n
turned e q D p n w = omega arith

cancel : (u z n e p : ℕ) → 0 < u → Within (n * u * 5 + u * e * p * 2) (z * u * p) (n * u * p) → Within (n * 5 + e * p * 2) (z * p) (n * p)
cancel u z n e p o w =
    let a = w.above in
    let b = w.below in
    record { above = le_of_mul-le-mul_right {k = u} (omega arith) o; below = le_of_mul-le-mul_right {k = u} (omega arith) o }

room : (n D u : ℕ) → D ≤ u * 2 ^ 23 → n + D * H ≤ n + u * 2 ^ 22 * P
room n D u s = let k = mul-le-mul_right H s in omega arith

pub step_off : (u N R L D q x y : ℕ) → 0 < u → Within (R + L) (D * P) ((R + L) * P) → Within (N * u + D * H) (q * D * P) (N * u * P)
    → Within (R * q + u * H) (x * u * P) (R * q * P) → Within (L * q + u * H) (y * u * P) (L * q * P) → D ≤ u * 2 ^ 23 → Within (N * 5 + P * 2 ^ 23)
    ((x + y) * P) (N * P)
step_off u N R L D q x y o d c a b s =
    cancel u (x + y) N (2 ^ 22) P o
    (core ((R + L) * q) (D * q) (N * u) (u * 2 ^ 22) (u * H * 2) ((x + y) * u) (enough u) (grown (R + L) D q P d)
    (turned (N * u + u * 2 ^ 22 * P) q D P (N * u * P)
    (widen (N * u + D * H) (N * u + u * 2 ^ 22 * P) (q * D * P) (N * u * P) (room (N * u) D u s) c))
    (both u H P q R L x y a b))
  where
    enough : (u : ℕ) → u * H * 2 * 2 ≤ u * 2 ^ 22 * P
    enough u = omega arith

-- ---- a level: Z is the sum of what its steps answer, S the sum of the values that are made of these
pub near_five : (z n f : ℕ) → z * P ≤ n * P + (n * 5 + f * P) → z * 4 ≤ n * 5 + f * 8
near_five z n f h = omega arith

level_chain : (z n f sp zp np fp : ℕ) → z * 4 ≤ n * 5 + f * 8 → f * 20 ≤ fp → Within z sp zp → Within (n * 5 + fp) zp np
    → Within (n * 7 + fp * 2) sp np
level_chain z n f sp zp np fp h k a b = omega arith

pub level_off : (S Z N f : ℕ) → Within Z (S * P) (Z * P) → Within (N * 5 + f * P) (Z * P) (N * P) → Within (N * 7 + f * P * 2) (S * P) (N * P)
level_off S Z N f a b = level_chain Z N f (S * P) (Z * P) (N * P) (f * P) (near_five Z N f b.above) (many f) a b

-- a level of one, two and three steps: x and y are a step's two answers, n a value that is made of them
pub fold1 : (x y n : ℕ) → Within x (n * P) (x * P) → Within (x + y) ((n + y) * P) ((x + y) * P)
fold1 x y n a = record { above = omega (arith, a.above); below = omega (arith, a.below) }

pub fold2 : (x y z w n m : ℕ) → Within x (n * P) (x * P) → Within (y + z) (m * P) ((y + z) * P)
    → Within (x + y + (z + w)) ((n + m + w) * P) ((x + y + (z + w)) * P)
fold2 x y z w n m a b = record { above = omega (arith, a.above, b.above); below = omega (arith, a.below, b.below) }

pub fold3 : (x y z w s t n m k : ℕ) → Within x (n * P) (x * P) → Within (y + z) (m * P) ((y + z) * P) → Within (w + s) (k * P) ((w + s) * P)
    → Within (x + y + (z + w) + (s + t)) ((n + m + k + t) * P) ((x + y + (z + w) + (s + t)) * P)
fold3 x y z w s t n m k a b c = record { above = omega (arith, a.above, b.above, c.above); below = omega (arith, a.below, b.below, c.below) }

pub join : (a b z w e f p : ℕ) → Within (a * 5 + e) (z * p) (a * p) → Within (b * 5 + f) (w * p) (b * p)
    → Within ((a + b) * 5 + (e + f)) ((z + w) * p) ((a + b) * p)
join a b z w e f p h k = omega arith

-- ---- three levels, from one
pub near_all : (s n f : ℕ) → s * P ≤ n * P + (n * 7 + f * P) → s * 64 ≤ n * 65 + f * 64
near_all s n f h = omega arith

three_chain : (u s t f g fp gp hp up sp tp rp : ℕ) → s * 64 ≤ u * 65 + f * 64 → t * 64 ≤ s * 65 + g * 64 → f * 64 ≤ u → g * 64 ≤ u → fp + gp + hp ≤ u
    → Within (u * 7 + fp) sp up → Within (s * 7 + gp) tp sp → Within (t * 7 + hp) rp tp → Within (u * 23) rp up
three_chain u s t f g fp gp hp up sp tp rp a b k l m c d e = omega arith

pub three : (u s t r f g h : ℕ) → f * 64 ≤ u → g * 64 ≤ u → f * P + g * P + h * P ≤ u
    → Within (u * 7 + f * P) (s * P) (u * P) → Within (s * 7 + g * P) (t * P) (s * P) → Within (t * 7 + h * P) (r * P) (t * P) → Within (u * 23)
    (r * P) (u * P)
three u s t r f g h k l m a b c = three_chain u s t f g (f * P) (g * P) (h * P) (u * P) (s * P) (t * P) (r * P) (near_all s u f a.above)
    (near_all t s g b.above) k l m a b c

-- ---- the sum of four terms: c is the running sum, B and A the exact sums of the parts above and below zero
pub reach : (cp cn A B e : ℕ) → (cp ≡ 0) ⊎ (cn ≡ 0) → Within e ((cp + A) * P) ((cn + B) * P) → e ≤ (A + B) * 8 → cp + cn ≤ (A + B) * 2
reach cp cn A B e (inl z) w k = let h = w.below in omega arith
reach cp cn A B e (inr z) w k = let h = w.above in omega arith

-- one more term, m above zero or n below
pub run : (cp cn A B e m n rp rn : ℕ) → cp + cn ≤ (A + B) * 2 → Within e ((cp + A) * P) ((cn + B) * P)
    → Within (cp + m + (cn + n)) ((rp + (cn + n)) * P) ((rn + (cp + m)) * P)
    → Within (e + (A + B) * 2 + (m + n)) ((rp + (A + n)) * P) ((rn + (B + m)) * P)
run cp cn A B e m n rp rn h w v =
    let a = w.above in
    let b = w.below in
    let c = v.above in
    let d = v.below in
    record { above = omega arith; below = omega arith }

-- ---- the four products, summed: w is a weight, p and n the parts of a coordinate
products_chain : (a b c d e f g h x y z w k : ℕ) → Within (x + k) a e → Within (y + k) b f → Within (z + k) c g → Within (w + k) d h
    → Within (x + y + z + w + k * 4) (a + b + c + d) (e + f + g + h)
products_chain a b c d e f g h x y z w k i j l m = omega arith

spread : (e a b c d x y z w u p : ℕ) → Within e (a * u * p + b * u * p + c * u * p + d * u * p) (x * p + y * p + z * p + w * p)
    → Within e ((a + b + c + d) * u * p) ((x + y + z + w) * p)
spread e a b c d x y z w u p v = omega arith

pub products : (u a b c d x y z w : ℕ) → Within (x + u * H) (a * u * P) (x * P) → Within (y + u * H) (b * u * P) (y * P)
    → Within (z + u * H) (c * u * P) (z * P) → Within (w + u * H) (d * u * P) (w * P)
    → Within (x + y + z + w + u * H * 4) ((a + b + c + d) * u * P) ((x + y + z + w) * P)
products u a b c d x y z w i j l m = spread (x + y + z + w + u * H * 4) a b c d x y z w u P
    (products_chain (a * u * P) (b * u * P) (c * u * P) (d * u * P) (x * P) (y * P) (z * P) (w * P) x y z w (u * H) i j l m)

-- ---- the hull: S is the sum of the weights, Q and W the exact sums of the products above and below zero, hp and hn the parts of the greatest
-- coordinate, M the greatest size
size_chain : (a v m u : ℕ) → a * P ≤ v * P + v + u * (P * 4) → v * 4 ≤ m * 5 → a ≤ m * 3 + u * 4
size_chain a v m u h k = omega arith

hull_chain : (a1 a2 b1 b2 eu v w vp wp h4 s1 s2 k1 k2 x1 x2 m t u up : ℕ) → a1 + b1 ≤ a2 + b2 + eu → eu ≤ t * 8 → t ≤ m * 3 + u * 4
    → b2 ≤ vp + (v + h4) → wp ≤ b1 + (w + h4) → vp + s1 ≤ s2 + wp
    → s2 ≤ k2 + x2 * 23 → k1 ≤ s1 + x1 * 23 → x1 + x2 ≤ m → (v + w) * 4 ≤ m * 5 → h4 ≡ up * 2 → u * 32 ≤ up → a1 + k1 ≤ a2 + k2 + (m * 64 + up * 16)
hull_chain a1 a2 b1 b2 eu v w vp wp h4 s1 s2 k1 k2 x1 x2 m t u up f1 f2 f3 f4 f5 f6 f7 f8 f9 f10 f11 f12 = omega arith

module _ (u S A B Q W cp cn hp hn M e : ℕ) (o : 0 < u) (s : Within (u * 23) (S * P) (u * P)) (c : Within e ((cp + A) * P) ((cn + B) * P))
    (k : e ≤ (A + B) * 8)
    (v : Within (Q + u * H * 4) (B * u * P) (Q * P)) (w : Within (W + u * H * 4) (A * u * P) (W * P)) (h : Q + S * hn ≤ S * hp + W) (m : Q + W ≤ M * S) (l : hp + hn ≤ M) where
  weights_near : S * 4 ≤ u * 5
  weights_near = go S u s.above
    where
      go : (S u : ℕ) → S * P ≤ u * P + u * 23 → S * 4 ≤ u * 5
      go S u h = omega arith

  exact_size : (Q + W) * 4 ≤ M * u * 5
  exact_size =
      let a : M * (S * 4) ≤ M * (u * 5) = mul-le-mul_left M weights_near in
      go M S u (Q + W) m a
    where
      go : (M S u v : ℕ) → v ≤ M * S → M * (S * 4) ≤ M * (u * 5) → v * 4 ≤ M * u * 5
      go M S u v h a = omega arith

  rounded_size : (A + B) * u ≤ M * u * 3 + u * 4
  rounded_size = size_chain ((A + B) * u) (Q + W) (M * u) u (go v.above w.above) exact_size
    where
      go : B * u * P ≤ Q * P + (Q + u * H * 4) → A * u * P ≤ W * P + (W + u * H * 4) → (A + B) * u * P ≤ (Q + W) * P + (Q + W) + u * (P * 4)
      go x y = omega arith

  up_to : (cp * u * P) + (u * hn * P) ≤ cn * u * P + u * hp * P + (M * u * 64 + u * P * 16)
  up_to =
      hull_chain (cp * u * P) (cn * u * P) (A * u * P) (B * u * P) (e * u) Q W (Q * P) (W * P) (u * H * 4) (S * hn * P) (S * hp * P) (u * hn * P)
      (u * hp * P) (u * hn) (u * hp) (M * u) ((A + B) * u) u (u * P)
      (f1 cp cn A B e u P c.above) (f2 e (A + B) u k) rounded_size v.above w.below (f6 Q W (S * hn) (S * hp) P h) (f7 S u hp P s.above)
      (f8 S u hn P s.below) (f9 u hn hp M l) exact_size (f11 u) (f12 u)
    where
      f1 : (cp cn A B e u p : ℕ) → (cp + A) * p ≤ (cn + B) * p + e → cp * u * p + A * u * p ≤ cn * u * p + B * u * p + e * u
      f1 cp cn A B e u p h = let k = mul-le-mul_right u h in omega arith

      f2 : (e t u : ℕ) → e ≤ t * 8 → e * u ≤ t * u * 8
      f2 e t u h = let k = mul-le-mul_right u h in omega arith

      f6 : (Q W x y p : ℕ) → Q + x ≤ y + W → Q * p + x * p ≤ y * p + W * p
      f6 Q W x y p h = let k = mul-le-mul_right p h in omega arith

      f7 : (S u h p : ℕ) → S * p ≤ u * p + u * 23 → S * h * p ≤ u * h * p + u * h * 23
      f7 S u h p i = let k = mul-le-mul_right h i in omega arith

      f8 : (S u h p : ℕ) → u * p ≤ S * p + u * 23 → u * h * p ≤ S * h * p + u * h * 23
      f8 S u h p i = let k = mul-le-mul_right h i in omega arith

      f9 : (u x y M : ℕ) → y + x ≤ M → u * x + u * y ≤ M * u
      f9 u x y M h = let k = mul-le-mul_right u h in omega arith

      f11 : (u : ℕ) → u * H * 4 ≡ u * P * 2
      f11 u = omega arith

      f12 : (u : ℕ) → u * 32 ≤ u * P
      f12 u = omega arith

  -- in whole multiples of 2 ^ -1121: the sum is at most the greatest coordinate, 2 ^ -47 of the greatest size and 2 ^ -1070
  pub hull-number : (cp + hn) * 2 ^ 47 ≤ (hp + cn) * 2 ^ 47 + (M + 2 ^ 51)
  hull-number = last cp cn hp hn M (le_of_mul-le-mul_right {k = u} (apart cp cn hp hn M u P up_to) o)
    where
      apart : (cp cn hp hn M u p : ℕ) → (cp * u * p) + (u * hn * p) ≤ cn * u * p + u * hp * p + (M * u * 64 + u * p * 16)
          → ((cp + hn) * p) * u ≤ ((cn + hp) * p + (M * 64 + p * 16)) * u
      apart cp cn hp hn M u p h = omega arith

      last : (cp cn hp hn M : ℕ) → (cp + hn) * P ≤ (cn + hp) * P + (M * 64 + P * 16) → (cp + hn) * 2 ^ 47 ≤ (hp + cn) * 2 ^ 47 + (M + 2 ^ 51)
      last cp cn hp hn M h = omega arith
