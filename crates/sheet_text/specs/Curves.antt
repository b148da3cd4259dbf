-- What is printed of a curve at its parameters. docs/RULES.md, "The sheet", decides.
use Rattle.std.specs.Prelude.{cond, List, [], ◌∷◌, ◌++◌, ℕ, replicate, Float}
use Rattle.meaning.specs.Scalar.{plain, zero64}
use Rattle.meaning.specs.Table.{at1}
use Rattle.refusal.specs.Refusals.{is_none}
use Rattle.outcome.specs.Outcome.{Outcome}
use Rattle.curve.specs.declared.Curve.{Curve}
use Rattle.curve.specs.Build.{Built}
use Rattle.curve.specs.Record.{by_record}
use Rattle.point.specs.Point.{point_answer}
use Rattle.sheet_text.specs.Printed.{refusal_text, head_text, point_text}

-- the point at a parameter, with room for its two numbers
abbrev pub line_answer : Curve → Float → Outcome
line_answer c t = point_answer (by_record c) t 0 (replicate 2 zero64)

-- its line: the point, or why it is refused
unfoldable pub line_text : Curve → Float → List ℕ
unfolding refusal_text point_text
line_text c t =
    let o = line_answer c t in
    cond (is_none o.refusal) (point_text (at1 plain o.out 0) (at1 plain o.out 1)) (refusal_text o.refusal)

-- in parameter order
unfoldable pub lines_text : Curve → List Float → List ℕ
unfolding line_text
lines_text c [] = []
lines_text c (t ∷ ts) = line_text c t ++ lines_text c ts

-- a refused build prints its refusal only
unfoldable pub built_text : Built → List Float → List ℕ
unfolding refusal_text head_text lines_text
built_text b ts =
    cond (is_none b.refusal) (head_text b.curve.points b.curve.knot_count ++ lines_text b.curve ts) (refusal_text b.refusal)
