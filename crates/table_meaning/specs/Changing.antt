-- What a change of one granule moves.
use Rattle.std.specs.Prelude.{◌≡◌, ℕ, ◌/◌}
use Rattle.gpi_values.specs.declared.gpi.Gpi.{Gpi}
use Rattle.gpt_descriptors.specs.declared.size.Size.TheVariants as size
use Rattle.gpt_descriptors.specs.Sizes.{SetupData, words_of}

-- two maps agree within the 512 MB around word w
abbrev pub AgreesAround : SetupData → (ℕ → Gpi) → (ℕ → Gpi) → ℕ → Type 0
AgreesAround s m l w =
    (g : ℕ) → g / 16 / words_of s size.FiveTwelve ≡ w / words_of s size.FiveTwelve → m g ≡ l g
