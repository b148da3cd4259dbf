-- Inner: the two rows of coefficients and the sum of the code, as the definitions see them.
use Rattle.std.specs.Prelude.{List}
use Rattle.basis.specs.Derivatives.{Coefs}

abbrev pub coefs : {A : Type 0} → List A → List A → A → Coefs A
coefs old new d = record { old = old; new = new; d = d }
