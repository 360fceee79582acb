-- Where a run of stores leaves merging.
use Rattle.std.specs.Prelude.{ℕ, Some, ◌==◌, if◌then◌else◌}
use Rattle.gpt_descriptors.specs.declared.size.Size.{Size}
use Rattle.table_meaning.specs.declared.fusing.Fusing.{Fusing}
use Rattle.table_meaning.specs.declared.fusing.Fusing.TheVariants.{Storing, Ended}
use Rattle.table_meaning.specs.Fusing.{block_words}

-- after the first n stores of a block of a size
abbrev pub stored_to : ℕ → Size → ℕ → Fusing
stored_to two z n = if n == block_words two z then Ended (Some z) else Storing z n
