-- What is found beyond 2 MB, where the test of 2 MB passed.
use Rattle.std.specs.Prelude.{◌≡◌, ℕ, ◌⊎◌, true, false}
use Rattle.gpi_values.specs.declared.gpi.Gpi.{Gpi}
use Rattle.gpt_descriptors.specs.declared.size.Size.{Size}
use Rattle.gpt_descriptors.specs.declared.size.Size.TheVariants as size
use Rattle.gpt_descriptors.specs.Sizes.{SetupData, is_permitted}
use Rattle.table_meaning.specs.Merging.{PassesThirtyTwo, PassesFiveTwelve, StopsThirtyTwo, StopsFiveTwelve}

abbrev pub FindsAbove : SetupData → (ℕ → ℕ) → ℕ → Gpi → Size → Type 0
FindsAbove s table own v size.Two =
    (is_permitted s.max size.ThirtyTwo ≡ false) ⊎ StopsThirtyTwo s table own v
FindsAbove s table own v size.ThirtyTwo =
    (is_permitted s.max size.ThirtyTwo ≡ true) × PassesThirtyTwo s table own v
    × ((is_permitted s.max size.FiveTwelve ≡ false) ⊎ StopsFiveTwelve s table own v)
FindsAbove s table own v size.FiveTwelve =
    (is_permitted s.max size.FiveTwelve ≡ true) × PassesThirtyTwo s table own v
    × PassesFiveTwelve s table own v
