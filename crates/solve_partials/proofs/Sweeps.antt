-- A loop that replaces the numbers of a list from an index on. Assumes nothing.
use mathlib.Core.Path.{◌≡◌, refl, sym, ap, subst, ◌∙◌}
use mathlib.Core.List.{List}
use Prim.Native.Nat.{ℕ, ◌+◌, ◌-◌, ◌≤◌, ◌<◌}
use native.Mathlib.Omega.{arith}
use lib.ListN.{length, get_or, set, length-set}
use lib.Seq.{paste, length-paste, get_or-set_same, get_or-set_other}
use borrow.Author.Tests.{ltb-true, ltb-false}
use lib.Dec.{ltb}
use borrow.Rule.Slice.PartMut.{put_mid}
use Rattle.meaning.proofs.Tests.{by_two}
use Rattle.cells.proofs.Cells.{back_paste, paste_before, paste_inside, paste_past}
use Rattle.solve_partials.specs.Sweep.{Swept}

module _ {A : Type 0} {f : ℕ → A} {z : A} {lo : ℕ} where
  pub start : (t : List A) → Swept f z lo lo t t
  start t = record { long = refl; done = λ j g h. absurd (omega arith); before = λ j h. refl; past = λ j h. refl }

  -- the store at k
  pub next : {t₀ t : List A} (k : ℕ) (v : A) → Swept f z lo k t₀ t → lo ≤ k → k < length t₀ → v ≡ f k → Swept f z lo (k + 1) t₀ (set t k v)
  next {t₀} {t} k v a l h e =
      record {
        long = length-set t k v ∙ a.long;
        done = λ j g b. by_two (ltb j k)
            (λ q. let q' = ltb-true j k q in get_or-set_other t k j v z (λ s. absurd (omega arith)) ∙ a.done j g q')
            (λ q. let s : j ≡ k = omega (arith, ltb-false j k q) in rw s (get_or-set_same t k v z (omega (arith, a.long)) ∙ e));
        before = λ j b. get_or-set_other t k j v z (λ s. absurd (omega arith)) ∙ a.before j b;
        past = λ j b. get_or-set_other t k j v z (λ s. absurd (omega arith)) ∙ a.past j (omega arith);
      }

  -- past its end
  pub over : {t₀ t : List A} (k hi : ℕ) → Swept f z lo k t₀ t → k ≡ hi → Swept f z lo hi t₀ t
  over k hi a e = rw (sym e) a

-- ---- a part of a list replaced at one go: what a slice of it makes of itself, and what a fill leaves in it
module _ {A : Type 0} (f : ℕ → A) (z : A) (t y : List A) (lo hi : ℕ) (h : lo ≤ hi) (g : hi ≤ length t) (l : length y ≡ hi - lo)
    (d : (j : ℕ) → j < hi - lo → get_or y j z ≡ f (lo + j)) where
  pub swept_part : Swept f z lo hi t (put_mid lo (hi - lo) t y)
  swept_part =
      let end : lo + (hi - lo) ≡ hi = omega arith in
      let size : hi - lo ≡ lo + (hi - lo) - lo = omega arith in
      let is : put_mid lo (hi - lo) t y ≡ paste t lo y (hi - lo) = (λ i. put_mid lo (size i) t y) ∙ back_paste t y lo (hi - lo) l in
      subst (Swept f z lo hi t) (sym is)
      (record {
        long = length-paste t lo y (hi - lo) (omega arith) (omega (arith, l));
        done = λ j a b.
            let at : j ≡ lo + (j - lo) = omega arith in
            ap (λ (k : ℕ). get_or (paste t lo y (hi - lo)) k z) at ∙ paste_inside t y lo (hi - lo) (omega arith) l z (j - lo) (omega arith)
            ∙ d (j - lo) (omega arith) ∙ ap f (sym at);
        before = λ j b. paste_before t y lo (hi - lo) (omega arith) l z j b;
        past = λ j b. paste_past t y lo (hi - lo) (omega arith) l z j (omega arith);
      })
