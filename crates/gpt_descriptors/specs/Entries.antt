-- The descriptors of the granule protection tables (DDI 0487, GPT level 0 and level 1 descriptors),
-- with the names that TF-A's gpt_rme has for them, and what an L1 word means for each of its
-- granules.
use Rattle.std.specs.Prelude.{◌≡◌, ℕ, zero, suc, ◌+◌, ◌-◌, ◌*◌, ◌/◌, ◌%◌, ◌^◌, ◌<◌, Bool, ◌&&◌, Option, Some, None, IsSome, is_some, ◌==◌, nat_lt, if◌then◌else◌, option_and_then}
use Rattle.std.specs.List.{list_all, range_with_len}
use Rattle.std.specs.Option.{option_map}
use Rattle.gpi_values.specs.declared.gpi.Gpi.{Gpi}
use Rattle.gpi_values.specs.Values.{value_of, gpi_with}
use Rattle.gpt_descriptors.specs.declared.size.Size.{Size}
use Rattle.gpt_descriptors.specs.declared.size.Size.TheVariants as size
use Rattle.gpt_descriptors.specs.declared.entry.L0Entry.{L0Entry}
use Rattle.gpt_descriptors.specs.declared.entry.L0Entry.TheVariants as l0
use Rattle.gpt_descriptors.specs.declared.entry.L1Entry.{L1Entry}
use Rattle.gpt_descriptors.specs.declared.entry.L1Entry.TheVariants as l1
use Rattle.gpt_descriptors.specs.declared.size.Reach.{Reach}
use Rattle.gpt_descriptors.specs.Sizes.{reach_with}

-- ---- the spelling of entries

-- bits 9:8 of a contiguous descriptor, the field Contig: GPT_L1_CONT_2MB, GPT_L1_CONT_32MB and
-- GPT_L1_CONT_512MB
abbrev pub size_code : Size → ℕ
size_code size.Two = 1
size_code size.ThirtyTwo = 2
size_code size.FiveTwelve = 3

-- the word of a level 0 entry: 0b0001 and the GPI above it (GPT_L0_TYPE_BLK_DESC), or 0b0011 and
-- the address of the table (GPT_L0_TYPE_TBL_DESC)
abbrev pub l0_word : L0Entry → ℕ
l0_word (l0.Block gpi) = 1 + 16 * value_of gpi
l0_word (l0.Table address) = 3 + address

-- a table address has bits 51:12 alone
abbrev pub IsL0 : L0Entry → Type 0
IsL0 (l0.Block gpi) = Unit {0}
IsL0 (l0.Table address) = (address % 4096 ≡ 0) × (address < 2 ^ 52)

-- field i of a granules word: bits 4 i + 3 to 4 i
abbrev pub field : ℕ → ℕ → ℕ
field word i = word / 2 ^ (4 * i) % 16

-- the word of a level 1 entry: sixteen GPI fields, or 0b0001, the GPI and the size above it
-- (GPT_L1_TYPE_CONT_DESC)
abbrev pub l1_word : L1Entry → ℕ
l1_word (l1.Granules word) = word
l1_word (l1.Contig size gpi) = 1 + 16 * value_of gpi + 256 * size_code size

-- each of the sixteen fields of a granules word is a GPI
abbrev pub IsL1 : L1Entry → Type 0
IsL1 (l1.Granules word) = (word < 2 ^ 64) × ((i : ℕ) → i < 16 → IsSome (gpi_with (field word i)))
IsL1 (l1.Contig size gpi) = Unit {0}

-- ---- the entry that a word spells, if it spells one

abbrev pub l0_entry : ℕ → Option L0Entry
l0_entry word =
    if word % 16 == 1
    then (if nat_lt word 256 then option_map l0.Block (gpi_with (word / 16)) else None)
    else (if word % 4096 == 3 && nat_lt word (2 ^ 52) then Some (l0.Table (word - 3)) else None)

abbrev pub size_with : ℕ → Option Size
size_with code =
    if code == 1 then Some size.Two else
    if code == 2 then Some size.ThirtyTwo else
    if code == 3 then Some size.FiveTwelve else None

abbrev pub contiguous_entry : ℕ → Option L1Entry
contiguous_entry word =
    option_and_then (λ gpi. option_map (λ size. l1.Contig size gpi) (size_with (word / 256)))
    (gpi_with (word / 16 % 16))

-- each of the sixteen fields is a GPI
unfoldable pub knows_all : ℕ → Bool
knows_all word = list_all (λ i. is_some (gpi_with (field word i))) (range_with_len 0 16)

abbrev pub l1_entry : ℕ → Option L1Entry
l1_entry word =
    if word % 16 == 1 then contiguous_entry word else
    if knows_all word then Some (l1.Granules word) else None

-- ---- meaning

-- the GPI of the granule at place i of an entry's word
abbrev pub entry_gpi : L1Entry → ℕ → Option Gpi
entry_gpi (l1.Granules word) i = gpi_with (field word i)
entry_gpi (l1.Contig size gpi) i = Some gpi

-- Meaning: the GPI that an L1 word gives the granule at place i (DDI 0487, granule protection
-- checks). A word that is no descriptor has none.
abbrev pub word_gpi : ℕ → ℕ → Option Gpi
word_gpi word i = option_and_then (λ entry. entry_gpi entry i) (l1_entry word)

-- how far the entry of an L1 word reaches. A word that is no descriptor has no entry.
abbrev pub word_reach : ℕ → Option Reach
word_reach word = option_map reach_with (l1_entry word)

-- the word whose fields are the GPIs of n granules in a row, the first one lowest
unfoldable pub packed : (ℕ → Gpi) → ℕ → ℕ → ℕ
packed m first zero = 0
packed m first (suc n) = value_of (m first) + 16 * packed m (first + 1) n
