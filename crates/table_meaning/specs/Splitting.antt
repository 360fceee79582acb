-- Splitting (TF-A gpt_rme, shattering of contiguous descriptors): the words of a contiguous block
-- around a granule that is to be changed, one after another. The 2 MB of the granule get granules
-- words, the other words of its 32 MB contiguous entries of 2 MB, and those outside it contiguous
-- entries of 32 MB. A word is named by its number in the protected space.
use Rattle.std.specs.Prelude.{ℕ, ◌+◌, ◌*◌, ◌/◌, Bool, ◌&&◌, Option, Some, None, ◌==◌, nat_le, nat_lt, if◌then◌else◌}
use Rattle.gpi_values.specs.declared.gpi.Gpi.{Gpi}
use Rattle.gpt_descriptors.specs.declared.size.Size.{Size}
use Rattle.gpt_descriptors.specs.declared.size.Size.TheVariants as size
use Rattle.gpt_descriptors.specs.declared.entry.L1Entry.TheVariants as l1
use Rattle.gpt_descriptors.specs.Sizes.{SetupData, words_of}
use Rattle.gpt_descriptors.specs.Entries.{l1_word}
use Rattle.gpt_descriptors.specs.Fields.{granules_of}
use Rattle.gpt_descriptors.specs.Canonical.{canonical_word}

-- the first word of the block of a size around word w
abbrev pub block_start : SetupData → Size → ℕ → ℕ
block_start s z w = w / words_of s z * words_of s z

-- w is one of the first k words of the block around word own
abbrev pub is_stored : SetupData → Size → ℕ → ℕ → ℕ → Bool
is_stored s z own k w = nat_le (block_start s z own) w && nat_lt w (block_start s z own + k)

-- the granule from which word w is canonical apart: g where the word is stored, or where it isn't
abbrev pub stored_apart : SetupData → Size → ℕ → ℕ → ℕ → Option ℕ
stored_apart s z g k w = if is_stored s z (g / 16) k w then Some g else None

abbrev pub others_apart : SetupData → Size → ℕ → ℕ → ℕ → Option ℕ
others_apart s z g k w = if is_stored s z (g / 16) k w then None else Some g

-- word w of a block of this GPI after its splitting around word own
abbrev pub split_around : SetupData → ℕ → Gpi → ℕ → ℕ
split_around s own gpi w =
    if w / words_of s size.Two == own / words_of s size.Two then granules_of gpi else
    if w / words_of s size.ThirtyTwo == own / words_of s size.ThirtyTwo
    then l1_word (l1.Contig size.Two gpi) else l1_word (l1.Contig size.ThirtyTwo gpi)

-- Word w after k stores of splitting the block of a size around granule g, of canonical tables.
abbrev pub split_at : SetupData → (ℕ → Gpi) → Size → ℕ → ℕ → ℕ → ℕ
split_at s m z g k w =
    if is_stored s z (g / 16) k w
    then split_around s (g / 16) (m (16 * block_start s z (g / 16))) w
    else canonical_word s m None w

-- Word w after k stores of merging the block of a size around granule g, of tables canonical apart
-- from g.
abbrev pub merged_at : SetupData → (ℕ → Gpi) → Size → ℕ → ℕ → ℕ → ℕ
merged_at s m z g k w =
    if is_stored s z (g / 16) k w
    then l1_word (l1.Contig z (m (16 * (g / 16))))
    else canonical_word s m (Some g) w
