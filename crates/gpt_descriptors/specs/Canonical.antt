-- Canonical L1 words: given a map from granule to GPI, each word is contiguous of the largest size
-- that is permitted and whose aligned block has one GPI, else it is the granules word of the map
-- (DDI 0487, GPT level 1 descriptors; TF-A gpt_rme fills and fuses tables up to RME_GPT_MAX_BLOCK).
-- A word is named by its number in the protected space: word w has granules 16 w to 16 w + 15.
use Rattle.std.specs.Prelude.{◌≡◌, ℕ, ◌*◌, ◌/◌, Bool, true, ◌&&◌, not, [], ◌∷◌, Option, Some, None, ◌==◌}
use Rattle.std.specs.List.{find, list_all, range_with_len}
use Rattle.gpi_values.specs.declared.gpi.Gpi.{Gpi}
use Rattle.gpi_values.specs.Values.{value_of}
use Rattle.gpt_descriptors.specs.declared.size.Size.{Size}
use Rattle.gpt_descriptors.specs.declared.size.Size.TheVariants as size
use Rattle.gpt_descriptors.specs.declared.entry.L1Entry.{L1Entry}
use Rattle.gpt_descriptors.specs.declared.entry.L1Entry.TheVariants as l1
use Rattle.gpt_descriptors.specs.Sizes.{SetupData, words_of, is_permitted}
use Rattle.gpt_descriptors.specs.Entries.{l1_word, packed}

-- n granules from the first one on have one GPI
unfoldable pub one_gpi : (ℕ → Gpi) → ℕ → ℕ → Bool
one_gpi m first n = list_all (λ g. value_of (m g) == value_of (m first)) (range_with_len first n)

-- Block number b of a size, aligned to it, may be one entry: the size is permitted, and all its
-- granules have one GPI.
unfoldable pub is_one_block : SetupData → (ℕ → Gpi) → Size → ℕ → Bool
is_one_block s m size b =
    is_permitted s.max size && one_gpi m (16 * (b * words_of s size)) (16 * words_of s size)

-- a block counts where it doesn't hold the granule apart, if there is one
abbrev pub counts : Option ℕ → ℕ → ℕ → Bool
counts None n b = true
counts (Some g) n b = not (g / 16 / n == b)

-- the aligned block of this size around word w counts and may be one entry
unfoldable pub is_block_around : SetupData → (ℕ → Gpi) → Option ℕ → ℕ → Size → Bool
is_block_around s m apart w size =
    counts apart (words_of s size) (w / words_of s size)
    && is_one_block s m size (w / words_of s size)

-- the largest such size
abbrev pub largest_block : SetupData → (ℕ → Gpi) → Option ℕ → ℕ → Option Size
largest_block s m apart w =
    find (is_block_around s m apart w) (size.FiveTwelve ∷ size.ThirtyTwo ∷ size.Two ∷ [])

abbrev pub canonical_with : (ℕ → Gpi) → ℕ → Option Size → ℕ
canonical_with m w (Some size) = l1_word (l1.Contig size (m (16 * w)))
canonical_with m w None = packed m (16 * w) 16

-- The canonical word at w. With a granule apart only the blocks that don't hold it count.
unfoldable pub canonical_word : SetupData → (ℕ → Gpi) → Option ℕ → ℕ → ℕ
canonical_word s m apart w = canonical_with m w (largest_block s m apart w)

-- every granule of block number b of a size has this GPI
abbrev pub BlockIs : SetupData → (ℕ → Gpi) → Size → ℕ → Gpi → Type 0
BlockIs s m size b gpi = (g : ℕ) → g / 16 / words_of s size ≡ b → m g ≡ gpi

-- every granule of the aligned block of a contiguous entry at w has the entry's GPI
abbrev pub CoversEqual : SetupData → (ℕ → Gpi) → ℕ → L1Entry → Type 0
CoversEqual s m w (l1.Granules word) = Unit {0}
CoversEqual s m w (l1.Contig size gpi) =
    (g : ℕ) → g / 16 / words_of s size ≡ w / words_of s size → m g ≡ gpi
