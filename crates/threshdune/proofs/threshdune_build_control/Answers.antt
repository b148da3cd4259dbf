-- `threshdune::threshdune_build_control` meets its contract.
use Rattle.threshdune.proofs.Ungiven.{built_given}
use Rattle.threshdune.proofs.threshdune_build_control.Goals as goal

pub returns : goal.returns
returns c =
    let a = c.args in
    built_given a.coords.now a.knots.now a.control.now a.knots_out.now c.given_knots.ensures.flag c.given_knots.ensures.list c.number_of.ensures
    c.build_slices.ensures
