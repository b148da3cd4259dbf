-- Demand 3 (docs/RULES.md) of the lines that are printed: a `p` line of a parameter in the domain says a point in its hull, and where the curve can be
-- drawn there is one.
use Rattle.std.specs.Prelude.{◌≡◌, Bool, true, List, ℕ, ◌<◌, get_or, eqb, Float}
use Rattle.meaning.specs.Scalar.{plain}
use Rattle.meaning.specs.Table.{at1}
use Rattle.refusal.specs.Refusals.{none, first_of}
use Rattle.shape.specs.Shape.{Shape}
use Rattle.curve.specs.declared.Curve.{Curve}
use Rattle.curve.specs.Build.{Built}
use Rattle.curve.specs.Record.{by_record}
use Rattle.hull.specs.Asked.{InDomain, Drawable}
use Rattle.hull.specs.Promise.{PointInHull}
use Rattle.sheet_read.specs.Grammar.{Sheet, sheet_of}
use Rattle.sheet_text.specs.Printed.{point_text}
use Rattle.sheet_text.specs.Curves.{line_text}
use Rattle.sheet_text.specs.Answer.{parameters_of, sheet_build}

-- its first letter is p
abbrev pub is_point : List ℕ → Bool
is_point line = eqb (get_or line 0 0) 112

-- the line says x and y, and they lie in the hull
pub record HullLine (c : Shape Float) (t : Float) (line : List ℕ) : Type 0 where
  pub x : Float
  pub y : Float
  pub says : line ≡ point_text x y
  pub hull : PointInHull c t x y

-- what is promised of the line of the parameter t
pub record LinePromise (c : Curve) (t : Float) : Type 0 where
  pub hull : is_point (line_text c t) ≡ true → InDomain (by_record c).shape t → HullLine (by_record c).shape t (line_text c t)
  pub never : first_of (by_record c).rules ≡ none → Drawable (by_record c).shape t → is_point (line_text c t) ≡ true

-- of the first n parameters' lines
abbrev pub LinePromises : Curve → List Float → ℕ → Type 0
LinePromises c ts n = (k : ℕ) → k < n → LinePromise c (at1 plain ts k)

-- where the build is not refused
abbrev pub BuiltPromise : Built → List Float → ℕ → Type 0
BuiltPromise b ts n = b.refusal ≡ none → LinePromises b.curve ts n

-- of every line of the sheet x, whose text is s
abbrev pub ReadPromise : List ℕ → Sheet → List Float → Type 0
ReadPromise s x work = BuiltPromise (sheet_build s x work).built (parameters_of s x) x.parameters.count

-- of any text that has the form
abbrev pub SheetPromise : List ℕ → List Float → Type 0
SheetPromise s work = (sheet_of s).formed ≡ true → ReadPromise s (sheet_of s) work
