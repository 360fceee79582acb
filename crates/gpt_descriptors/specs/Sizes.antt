-- The setup of a protected space, and the sizes in it (DDI 0487, granule protection tables: the
-- fields PGS, PPS and L0GPTSZ of GPCCR_EL3 for the bytes of a granule, of the protected space and
-- of what one level 0 entry covers).
use Rattle.std.specs.Prelude.{◌≡◌, ℕ, ◌-◌, ◌*◌, ◌/◌, ◌%◌, ◌^◌, ◌≤◌, ◌⊎◌, Bool, true, false, nat_lt}
use Rattle.gpt_descriptors.specs.declared.size.Size.{Size}
use Rattle.gpt_descriptors.specs.declared.size.Size.TheVariants as size
use Rattle.gpt_descriptors.specs.declared.size.MaxBlock.{MaxBlock}
use Rattle.gpt_descriptors.specs.declared.size.MaxBlock.TheVariants as most
use Rattle.gpt_descriptors.specs.declared.size.Reach.{Reach}
use Rattle.gpt_descriptors.specs.declared.size.Reach.TheVariants as reach
use Rattle.gpt_descriptors.specs.declared.size.Generations.{Generations}
use Rattle.gpt_descriptors.specs.declared.entry.L1Entry.{L1Entry}
use Rattle.gpt_descriptors.specs.declared.entry.L1Entry.TheVariants as l1

-- a setup as plain data: gigabytes of the protected space (PPS), the largest contiguous size that
-- is used (TF-A RME_GPT_MAX_BLOCK), blocks of 512 MB that one lock bit covers
-- (RME_GPT_BITLOCK_BLOCK), the first generation, the walks that a processor keeps, and the number
-- and the first address of the L1 tables
pub record SetupData : Type 0 where
  pub gigabytes : ℕ
  pub max : MaxBlock
  pub lock_blocks : ℕ
  pub first : ℕ
  pub ring : ℕ
  pub tables : ℕ
  pub base : ℕ

-- the last value that a generation may reach
abbrev pub generation_last : ℕ
generation_last = 2 ^ 63 - 1

-- a generation is exhausted where it is too near to the last one for a transition, which raises it
-- up to twice
abbrev pub is_worn : ℕ → Bool
is_worn value = nat_lt (generation_last - 2) value

-- ---- the ranges of a setup

-- the two sizes of the protected space, in gigabytes
abbrev pub IsSpaceSize : ℕ → Type 0
IsSpaceSize gigabytes = (gigabytes ≡ 4) ⊎ (gigabytes ≡ 64)

-- the blocks of 512 MB that one lock bit may cover; 0 is one lock over all
abbrev pub IsLockBlocks : ℕ → Type 0
IsLockBlocks blocks = (blocks ≡ 0) ⊎ ((blocks ≡ 1) ⊎ ((blocks ≡ 2) ⊎ ((blocks ≡ 4) ⊎ (blocks ≡ 8))))

-- the most walks that a processor may keep, and the most L1 tables
abbrev pub most_walks : ℕ
most_walks = 64

abbrev pub most_tables : ℕ
most_tables = 16

-- the values that a setup's fields may have
pub record IsSetup (s : SetupData) : Type 0 where
  pub gigabytes : IsSpaceSize s.gigabytes
  pub lock_blocks : IsLockBlocks s.lock_blocks
  pub first : s.first ≤ generation_last
  pub ring_low : 1 ≤ s.ring
  pub ring_high : s.ring ≤ most_walks
  pub tables : s.tables ≤ most_tables

-- ---- sizes

-- bytes of a contiguous block (DDI 0487, GPT level 1 descriptors, field Contig)
abbrev pub size_bytes : Size → ℕ
size_bytes size.Two = 2 ^ 21
size_bytes size.ThirtyTwo = 2 ^ 25
size_bytes size.FiveTwelve = 2 ^ 29

-- bytes that one L0 entry covers: 1 GB, L0GPTSZ of 30 bits
abbrev pub region_bytes : ℕ
region_bytes = 2 ^ 30

-- bytes of a granule of 4 KB, the one size (PGS) of this profile
abbrev pub small_granule : ℕ
small_granule = 4096

-- bytes of a granule
unfoldable pub granule_bytes : SetupData → ℕ
granule_bytes s = small_granule

-- bytes that one L1 word covers: sixteen granules
unfoldable pub word_bytes : SetupData → ℕ
word_bytes s = 16 * granule_bytes s

-- L1 words of a contiguous block
unfoldable pub words_of : SetupData → Size → ℕ
words_of s size = size_bytes size / word_bytes s

-- L1 words of a table
unfoldable pub table_words : SetupData → ℕ
table_words s = region_bytes / word_bytes s

-- bytes of a table in memory, eight for each word
abbrev pub table_bytes : SetupData → ℕ
table_bytes s = 8 * table_words s

-- bytes of the protected space
abbrev pub space_bytes : SetupData → ℕ
space_bytes s = s.gigabytes * region_bytes

-- L1 words that the whole protected space would have
abbrev pub space_words : SetupData → ℕ
space_words s = s.gigabytes * table_words s

-- granules of the protected space
abbrev pub space_granules : SetupData → ℕ
space_granules s = 16 * space_words s

-- the number of the granule of an address, and its place in its L1 word, from 0 to 15
abbrev pub granule_number : SetupData → ℕ → ℕ
granule_number s pa = pa / granule_bytes s

abbrev pub place_in_word : SetupData → ℕ → ℕ
place_in_word s pa = pa / granule_bytes s % 16

-- the sizes that max permits
abbrev pub is_permitted : MaxBlock → Size → Bool
is_permitted most.FiveTwelve s = true
is_permitted most.ThirtyTwo size.Two = true
is_permitted most.ThirtyTwo size.ThirtyTwo = true
is_permitted most.Two size.Two = true
is_permitted m s = false

-- how far the entry of an L1 word reaches
abbrev pub reach_with : L1Entry → Reach
reach_with (l1.Granules word) = reach.Word
reach_with (l1.Contig size.Two gpi) = reach.Two
reach_with (l1.Contig size.ThirtyTwo gpi) = reach.ThirtyTwo
reach_with (l1.Contig size.FiveTwelve gpi) = reach.FiveTwelve

-- the size of the region whose generation tags a walk of this reach
abbrev pub tag_size_of : Reach → Size
tag_size_of reach.Word = size.Two
tag_size_of reach.Two = size.Two
tag_size_of reach.ThirtyTwo = size.ThirtyTwo
tag_size_of reach.FiveTwelve = size.FiveTwelve

-- ---- generations

-- the generation of a size
abbrev pub generation_in : Size → Generations → ℕ
generation_in size.Two k = k.two
generation_in size.ThirtyTwo k = k.thirty_two
generation_in size.FiveTwelve k = k.five_twelve

-- the generations with that of a size replaced
abbrev pub with_generation : Size → ℕ → Generations → Generations
with_generation size.Two n k =
    record { two = n; thirty_two = k.thirty_two; five_twelve = k.five_twelve }
with_generation size.ThirtyTwo n k =
    record { two = k.two; thirty_two = n; five_twelve = k.five_twelve }
with_generation size.FiveTwelve n k =
    record { two = k.two; thirty_two = k.thirty_two; five_twelve = n }
