-- What a record's type says of it.
use Rattle.offer.proofs.Typed.{typed, stored_double}
use Rattle.offer.proofs.has_doubles.Goals as goal

pub returns : goal.returns
returns c =
    let curve = c.args.curve in
    typed curve _ c.well_formed.0 curve.length (stored_double curve _ c.well_formed.0)
