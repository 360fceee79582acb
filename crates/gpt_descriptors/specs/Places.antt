-- The words that the agents and processors share, by name, and their places.
use Rattle.std.specs.Prelude.{◌≡◌, ℕ, ◌+◌, ◌-◌, ◌*◌, ◌/◌, ◌<◌, ◌≤◌, List, take, drop, replicate, slice_index, Option, Some, None, IsTrue}
use Rattle.std.specs.Option.{option_map}
use Rattle.gpt_descriptors.specs.declared.size.Size.{Size}
use Rattle.gpt_descriptors.specs.declared.size.Size.TheVariants as size
use Rattle.gpi_values.specs.declared.gpi.Gpi.{Gpi}
use Rattle.gpt_descriptors.specs.declared.entry.L0Entry.{L0Entry}
use Rattle.gpt_descriptors.specs.declared.entry.L0Entry.TheVariants as l0
use Rattle.gpt_descriptors.specs.Entries.{l0_entry}
use Rattle.gpt_descriptors.specs.Sizes.{SetupData, IsSetup, table_words, word_bytes, size_bytes, region_bytes}
use Rattle.gpt_descriptors.specs.Level0.{is_l0_good, table_count, l1_index}

-- a geometry as plain data; l0 has 64 words, those beyond the protected space are 0
pub record GeometryData : Type 0 where
  pub setup : SetupData
  pub cpus : ℕ
  pub l1_tables : ℕ
  pub l0 : List ℕ

-- the L0 words of the protected space
abbrev pub l0_words : GeometryData → List ℕ
l0_words g = take g.setup.gigabytes g.l0

pub record IsGeometry (g : GeometryData) : Type 0 where
  pub setup : IsSetup g.setup
  pub cpus : g.cpus ≤ 32
  pub good : IsTrue (is_l0_good g.setup (l0_words g))
  pub rest : drop g.setup.gigabytes g.l0 ≡ replicate (64 - g.setup.gigabytes) 0
  pub tables : g.l1_tables ≡ table_count (l0_words g)

-- the shared words: locks, generations by size and block, duty by processor, L1 words and line
-- words
pub data WordName : Type 0 where
  Lock : ℕ → WordName
  Generation : Size → ℕ → WordName
  Duty : ℕ → WordName
  Level1 : ℕ → WordName
  Line : ℕ → WordName

-- the L1 words of all tables
abbrev pub l1_words : GeometryData → ℕ
l1_words g = g.l1_tables * table_words g.setup

-- generation words of a size for a gigabyte
abbrev pub blocks_in_region : Size → ℕ
blocks_in_region size.Two = 512
blocks_in_region size.ThirtyTwo = 32
blocks_in_region size.FiveTwelve = 2

-- the names of the words that there are
abbrev pub IsWordName : GeometryData → WordName → Type 0
IsWordName g (Lock b) = b < 2
IsWordName g (Generation size block) = block < blocks_in_region size * g.setup.gigabytes
IsWordName g (Duty cpu) = cpu < g.cpus
IsWordName g (Level1 i) = i < l1_words g
IsWordName g (Line i) = i < l1_words g

abbrev pub place_of : GeometryData → WordName → ℕ
place_of g (Lock b) = b
place_of g (Generation size.Two block) = 2 + block
place_of g (Generation size.ThirtyTwo block) = 2 + 512 * g.setup.gigabytes + block
place_of g (Generation size.FiveTwelve block) = 2 + 544 * g.setup.gigabytes + block
place_of g (Duty cpu) = 2 + 546 * g.setup.gigabytes + cpu
place_of g (Level1 i) = 2 + 546 * g.setup.gigabytes + g.cpus + i
place_of g (Line i) = 2 + 546 * g.setup.gigabytes + g.cpus + l1_words g + i

-- how many shared words there are
abbrev pub word_count : GeometryData → ℕ
word_count g = 2 + 546 * g.setup.gigabytes + g.cpus + 2 * l1_words g

-- the L1 words of all tables among the shared words
abbrev pub table_part : GeometryData → List ℕ → List ℕ
table_part g words = take (l1_words g) (drop (place_of g (Level1 0)) words)

-- the generation of a block of this size, counted from 0
abbrev pub generation_word : GeometryData → List ℕ → Size → ℕ → ℕ
generation_word g words size block = slice_index words (place_of g (Generation size block))

-- the place of the generation of the block of this size around an address
abbrev pub gen_place_of : GeometryData → Size → ℕ → ℕ
gen_place_of g size pa = place_of g (Generation size (pa / size_bytes size))

-- the index of the L1 word of an address among the L1 words
abbrev pub l1_index_of : GeometryData → ℕ → Option ℕ
l1_index_of g pa = l1_index g.setup (l0_words g) (pa / word_bytes g.setup)

abbrev pub l1_place_of : GeometryData → ℕ → Option ℕ
l1_place_of g pa = option_map (λ i. place_of g (Level1 i)) (l1_index_of g pa)

abbrev pub line_place_of : GeometryData → ℕ → Option ℕ
line_place_of g pa = option_map (λ i. place_of g (Line i)) (l1_index_of g pa)

-- the L0 word of an address
abbrev pub l0_word_of : GeometryData → ℕ → ℕ
l0_word_of g pa = slice_index (l0_words g) (pa / region_bytes)

-- the GPI of a level 0 entry that is a block
abbrev pub block_gpi_in : Option L0Entry → Option Gpi
block_gpi_in (Some (l0.Block gpi)) = Some gpi
block_gpi_in (Some (l0.Table address)) = None
block_gpi_in None = None

-- the GPI of the L0 block around an address; none where it is a table
abbrev pub block_gpi_of : GeometryData → ℕ → Option Gpi
block_gpi_of g pa = block_gpi_in (l0_entry (l0_word_of g pa))
