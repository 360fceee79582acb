-- Each GPI has a value of its own, below 16.
use Rattle.std.proofs.Common.{◌≡◌, ℕ, ◌<◌, Option, Some, refl, sym, ap, ◌∙◌, arith}
use Rattle.gpi_values.specs.declared.gpi.Gpi.{Gpi}
use Rattle.gpi_values.specs.declared.gpi.Gpi.TheVariants as gpi
use Rattle.gpi_values.specs.Values.{value_of, gpi_with}

pub gpi_with-value_of : (g : Gpi) → gpi_with (value_of g) ≡ Some g
gpi_with-value_of gpi.NoAccess = refl
gpi_with-value_of gpi.Secure = refl
gpi_with-value_of gpi.NonSecure = refl
gpi_with-value_of gpi.Root = refl
gpi_with-value_of gpi.Realm = refl
gpi_with-value_of gpi.Any = refl

pub value_one : (a b : Gpi) → value_of a ≡ value_of b → a ≡ b
value_one a b e = let same : Some a ≡ Some b = sym (gpi_with-value_of a) ∙ ap gpi_with e ∙ gpi_with-value_of b in cc

pub value_low : (g : Gpi) → value_of g < 16
value_low gpi.NoAccess = omega arith
value_low gpi.Secure = omega arith
value_low gpi.NonSecure = omega arith
value_low gpi.Root = omega arith
value_low gpi.Realm = omega arith
value_low gpi.Any = omega arith
