-- What the holder of a lock knows of the map, by its stage in a transition of granule g.
use Rattle.std.specs.Prelude.{◌≡◌, ℕ, ◌/◌, ◌≤◌, Some, None}
use Rattle.gpi_values.specs.declared.gpi.Gpi.{Gpi}
use Rattle.gpt_descriptors.specs.declared.size.Size.{Size}
use Rattle.gpt_descriptors.specs.Sizes.{SetupData, words_of}
use Rattle.gpt_descriptors.specs.Fields.{granules_of}
use Rattle.gpt_descriptors.specs.Canonical.{largest_block, canonical_word, BlockIs}
use Rattle.table_meaning.specs.declared.fusing.Fusing.{Fusing}
use Rattle.table_meaning.specs.declared.fusing.Fusing.TheVariants.{Testing, Storing, Ended}
use Rattle.table_meaning.specs.Fusing.{Knows}
use Rattle.table_meaning.specs.Equation.{Step, Whole, Splitting, Apart, Merging}

-- a holder has loaded nothing yet or is done; it has loaded its word; it has made k stores of
-- splitting a block of a GPI; it keeps its word, to change it or after it was changed; it merges
-- around its word, of granules of a GPI
pub data Stage : Type 0 where
  Idle : Stage
  Looked : ℕ → Stage
  Splits : Size → Gpi → ℕ → Stage
  Keeps : ℕ → Stage
  Merges : Gpi → Fusing → Stage

abbrev pub merging_step : Fusing → Step
merging_step (Testing z k) = Apart
merging_step (Storing z k) = Merging z k
merging_step (Ended o) = Whole

-- what that makes of the words
abbrev pub step_of : Stage → Step
step_of Idle = Whole
step_of (Looked word) = Whole
step_of (Splits z gpi k) = Splitting z k
step_of (Keeps word) = Apart
step_of (Merges v f) = merging_step f

-- what is known
abbrev pub Facts : SetupData → (ℕ → Gpi) → ℕ → Stage → Type 0
Facts s m g Idle = Unit {0}
Facts s m g (Looked word) = word ≡ canonical_word s m None (g / 16)
Facts s m g (Splits z gpi k) =
    (largest_block s m None (g / 16) ≡ Some z) × BlockIs s m z (g / 16 / words_of s z) gpi
    × (k ≤ words_of s z)
Facts s m g (Keeps word) = word ≡ canonical_word s m (Some g) (g / 16)
Facts s m g (Merges v f) = (canonical_word s m (Some g) (g / 16) ≡ granules_of v) × Knows s m g v f
