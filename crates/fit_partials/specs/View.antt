-- Inner: the code's answer, as the definitions see it.
use Rattle.std.specs.Prelude.{true, Option, Some, None}
use Rattle.fit_partials.specs.declared.Piece as Code
use Rattle.fit_partials.specs.Through.{Piece, no_piece}

abbrev pub view : Option Code.Piece → Piece
view (Some a) = record { knots = a.knots; xs = a.xs; ys = a.ys; fine = true }
view None = no_piece
