-- The struct of the code, as a vector.
use Rattle.plane.specs.declared.P2.{P2}
use Rattle.plane.specs.Vector.{Vector}

abbrev pub view : {A : Type 0} → P2 A → Vector A
view a = record { x = a.x; y = a.y }
