-- What an error of building says.
use Rattle.std.specs.Prelude.{◌≡◌, ℕ, Bool, true, false}
use Rattle.table_build.specs.declared.building.BuildError.{BuildError}
use Rattle.table_build.specs.declared.building.BuildError.TheVariants as refused

-- the base is reported where it is bad; want of memory comes only where it is good
abbrev pub IsBadBase : BuildError → ℕ → Bool → Type 0
IsBadBase refused.Memory base bad = bad ≡ false
IsBadBase (refused.BadBase given) base bad = (given ≡ base) × (bad ≡ true)
