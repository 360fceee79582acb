-- The law of splitting, for block b of a permitted size whose granules all have one GPI, and a
-- granule in its word number `own`. The words of the block are numbered in it by j.
use Rattle.std.specs.Prelude.{◌≡◌, ◌≢◌, ℕ, ◌+◌, ◌*◌, ◌/◌, ◌<◌, true, Some, None}
use Rattle.gpi_values.specs.declared.gpi.Gpi.{Gpi}
use Rattle.gpt_descriptors.specs.declared.size.Size.{Size}
use Rattle.gpt_descriptors.specs.declared.size.Size.TheVariants as size
use Rattle.gpt_descriptors.specs.declared.entry.L1Entry.{L1Entry}
use Rattle.gpt_descriptors.specs.Sizes.{SetupData, words_of}
use Rattle.gpt_descriptors.specs.Entries.{l1_entry, word_gpi}
use Rattle.gpt_descriptors.specs.Canonical.{is_one_block, largest_block, canonical_word, CoversEqual}
use Rattle.shatter.specs.Splitting.{split_word}

-- word j of block b of a map after its splitting around word own
abbrev pub split_in : SetupData → (ℕ → Gpi) → Size → ℕ → ℕ → ℕ → ℕ
split_in s m z b own j = split_word (words_of s size.Two) own (m (16 * (b * words_of s z))) j

-- it is the canonical word apart from the granule
abbrev pub SplitIsApart : Type 0
SplitIsApart =
    (s : SetupData) (m : ℕ → Gpi) (z : Size) (b own j granule : ℕ) → is_one_block s m z b ≡ true
    → own < words_of s z → j < words_of s z → granule / 16 ≡ b * words_of s z + own
    → split_in s m z b own j ≡ canonical_word s m (Some granule) (b * words_of s z + j)

-- it gives each of its granules the map's GPI
abbrev pub SplitMeans : Type 0
SplitMeans =
    (s : SetupData) (m : ℕ → Gpi) (z : Size) (b own j i : ℕ) → is_one_block s m z b ≡ true
    → own < words_of s z → j < words_of s z → i < 16
    → word_gpi (split_in s m z b own j) i ≡ Some (m (16 * (b * words_of s z + j) + i))

-- and covers equal granules
abbrev pub SplitCovers : Type 0
SplitCovers =
    (s : SetupData) (m : ℕ → Gpi) (z : Size) (b own j : ℕ) (e : L1Entry)
    → is_one_block s m z b ≡ true → own < words_of s z → j < words_of s z
    → l1_entry (split_in s m z b own j) ≡ Some e → CoversEqual s m (b * words_of s z + j) e

-- where the block is the largest of one GPI around the granule, canonical words elsewhere are
-- canonical apart from it
abbrev pub SplitElsewhere : Type 0
SplitElsewhere =
    (s : SetupData) (m : ℕ → Gpi) (z : Size) (granule w : ℕ)
    → largest_block s m None (granule / 16) ≡ Some z
    → w / words_of s z ≢ granule / 16 / words_of s z
    → canonical_word s m (Some granule) w ≡ canonical_word s m None w
