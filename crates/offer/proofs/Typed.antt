-- That a program's curve and parameter are doubles, and the length that a curve stores, from their types. Assumes nothing.
use mathlib.Core.Path.{sym, subst}
use lib.Dec.{T}
use lib.Ieee.{Float, binary64, fits}
use mir.Val.{Val}
use mathlib.Core.List.{List}
use denote.Shadow.{shadow}
use denote.Struct.Declared.{row}
use Rattle.curve.specs.declared.Curve.{Curve}
use Rattle.curve.specs.contracts.Curve.{the_type}
use Rattle.curve.specs.Record.{by_record}
use Rattle.hull.proofs.Given.{Doubles, of_field}

pub typed : (k : Curve) (vs : List Val) → shadow ((row the_type).own_val k vs) → (t : Float) → T (fits binary64 t) → Doubles (by_record k).shape t
typed k vs h t d =
    let o = h.1.1 in
    record {
      xs = of_field k.xs o.1.1.1.0.0 o.1.1.1.0.1.1;
      ys = of_field k.ys o.1.1.1.1.0.0 o.1.1.1.1.0.1.1;
      knots = of_field k.knots o.1.1.1.1.1.0.0 o.1.1.1.1.1.0.1.1;
      parameter = d;
    }

pub stored_double : (k : Curve) (vs : List Val) → shadow ((row the_type).own_val k vs) → T (fits binary64 k.length)
stored_double k vs h = let o = h.1.1 in subst T (sym o.1.1.0.1) tt
