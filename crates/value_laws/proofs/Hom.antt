-- Two scalars, and a map of one into the other that every operation agrees with: a definition over the scalar then agrees with it, too, list by list
-- and loop by loop. The crates of the definitions say so of each. Assumes nothing.
use mathlib.Core.Path.{◌≡◌, refl, sym, ap, ◌∙◌}
use mathlib.Core.Bool.{Bool, true, false, cond}
use mathlib.Core.List.{List, [], ◌∷◌, map}
use Prim.Native.Nat.{ℕ, zero, suc, ◌+◌}
use lib.ListN.{get_or, set, replicate, get_or-map}
use lib.Ieee.{Float}
use Rattle.meaning.specs.Scalar.{Ops}
use Rattle.meaning.specs.Loops.{turns}
use Rattle.meaning.specs.Table.{at1, at2, put2}

pub record Hom {A B : Type 0} (o : Ops A) (p : Ops B) (h : A → B) : Type 0 where
  pub plus : (x y : A) → h (o.plus x y) ≡ p.plus (h x) (h y)
  pub minus : (x y : A) → h (o.minus x y) ≡ p.minus (h x) (h y)
  pub times : (x y : A) → h (o.times x y) ≡ p.times (h x) (h y)
  pub over : (x y : A) → h (o.over x y) ≡ p.over (h x) (h y)
  pub opp : (x : A) → h (o.opp x) ≡ p.opp (h x)
  pub root : (x : A) → h (o.root x) ≡ p.root (h x)
  pub cst : (v : Float) → h (o.cst v) ≡ p.cst v
  pub val : (x : A) → o.val x ≡ p.val (h x)
  pub off : h o.off ≡ p.off

-- ---- lists

module _ {A B : Type 0} (h : A → B) where
  pub map_set : (l : List A) (i : ℕ) (v : A) → map h (set l i v) ≡ set (map h l) i (h v)
  map_set [] i v = refl
  map_set (x ∷ l) zero v = refl
  map_set (x ∷ l) (suc i) v = ap (λ (m : List B). h x ∷ m) (map_set l i v)

  pub map_replicate : (n : ℕ) (v : A) → map h (replicate n v) ≡ replicate n (h v)
  map_replicate zero v = refl
  map_replicate (suc n) v = ap (λ (m : List B). h v ∷ m) (map_replicate n v)

  -- a table, row by row
  abbrev pub map_table : List (List A) → List (List B)
  map_table t = map (map h) t

  pub map_row : (t : List (List A)) (i : ℕ) → map h (get_or t i []) ≡ get_or (map_table t) i []
  map_row t i = sym (get_or-map (map h) t i [])

  pub map_put : (t : List (List A)) (i j : ℕ) (v : A) → map_table (put2 t i j v) ≡ put2 (map_table t) i j (h v)
  map_put t i j v =
      map_row_set t i (set (get_or t i []) j v)
      ∙ ap (set (map_table t) i) (map_set (get_or t i []) j v ∙ ap (λ (r : List B). set r j (h v)) (map_row t i))
    where
      map_row_set : (t : List (List A)) (i : ℕ) (r : List A) → map_table (set t i r) ≡ set (map_table t) i (map h r)
      map_row_set [] i r = refl
      map_row_set (x ∷ t) zero r = refl
      map_row_set (x ∷ t) (suc i) r = ap (λ (m : List (List B)). map h x ∷ m) (map_row_set t i r)

module _ {A B : Type 0} {o : Ops A} {p : Ops B} {h : A → B} (m : Hom o p h) where
  pub map_at : (l : List A) (i : ℕ) → h (at1 o l i) ≡ at1 p (map h l) i
  map_at l i = sym (get_or-map h l i o.off) ∙ ap (get_or (map h l) i) m.off

  pub map_cell : (t : List (List A)) (i j : ℕ) → h (at2 o t i j) ≡ at2 p (map_table h t) i j
  map_cell t i j = map_at (get_or t i []) j ∙ ap (λ (r : List B). at1 p r j) (map_row h t i)

-- ---- loops and choices

pub map_turns : {S T : Type 0} (g : S → T) (f : ℕ → S → S) (f' : ℕ → T → T) → ((k : ℕ) (s : S) → g (f k s) ≡ f' k (g s)) → (lo n : ℕ) (s : S)
    → g (turns lo n f s) ≡ turns lo n f' (g s)
unfolding turns
map_turns g f f' e lo zero s = refl
map_turns g f f' e lo (suc n) s = e (lo + n) (turns lo n f s) ∙ ap (f' (lo + n)) (map_turns g f f' e lo n s)

pub map_choice : {S T : Type 0} (g : S → T) (b : Bool) (x y : S) {x' y' : T} → g x ≡ x' → g y ≡ y' → g (cond b x y) ≡ cond b x' y'
map_choice g true x y p q = p
map_choice g false x y p q = q
