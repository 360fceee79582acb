-- What the steps of building ask and leave, by the blocks and tables of a plan.
use Rattle.std.specs.Prelude.{◌≤◌, ℕ, ◌+◌, ◌*◌, Bool, List, [], replicate, if◌then◌else◌}
use Rattle.gpi_values.specs.declared.gpi.Gpi.{Gpi}
use Rattle.gpt_descriptors.specs.declared.size.Size.{Size}
use Rattle.gpt_descriptors.specs.declared.entry.L1Entry.TheVariants as l1
use Rattle.gpt_descriptors.specs.Sizes.{words_of, table_words, space_words}
use Rattle.gpt_descriptors.specs.Entries.{l1_word}
use Rattle.gpt_descriptors.specs.Canonical.{is_one_block}
use Rattle.region_plan.specs.Regions.{region_map, needs_table}
use Rattle.region_plan.specs.PlanData.{PlanData}
use Rattle.table_build.specs.declared.cursor.Cursor.{Cursor}
use Rattle.table_build.specs.Built.{canonical_words, granules_words, table_of}
use Rattle.table_build.specs.InnerReading.{IsAt}

-- ---- block b of a size

-- the block is in the protected space
abbrev pub IsInside : PlanData → Size → ℕ → Type 0
IsInside p size b = (b + 1) * words_of p.setup size ≤ space_words p.setup

-- the block may be one entry
abbrev pub is_one_entry : PlanData → Size → ℕ → Bool
is_one_entry p size b = is_one_block p.setup (region_map p.setup p.regions) size b

-- the GPI of its first granule
abbrev pub first_gpi : PlanData → Size → ℕ → Gpi
first_gpi p size b = region_map p.setup p.regions (16 * (b * words_of p.setup size))

-- its words as one entry, as the canonical ones, and as granules words
abbrev pub entry_words : PlanData → Size → ℕ → List ℕ
entry_words p size b =
    replicate (words_of p.setup size) (l1_word (l1.Contig size (first_gpi p size b)))

abbrev pub block_words : PlanData → Size → ℕ → List ℕ
block_words p size b =
    canonical_words p.setup p.regions (b * words_of p.setup size) (words_of p.setup size)

abbrev pub block_granules : PlanData → Size → ℕ → List ℕ
block_granules p size b =
    granules_words p.setup p.regions (b * words_of p.setup size) (words_of p.setup size)

-- the cursor reads the region map from the block on
abbrev pub IsAtBlock : PlanData → Size → ℕ → Cursor → Type 0
IsAtBlock p size b cursor = IsAt p.setup p.regions (b * words_of p.setup size) cursor

-- ---- the table of gigabyte q

-- its words, none where it needs no table
abbrev pub needed_words : PlanData → ℕ → List ℕ
needed_words p q = if needs_table p.regions q then table_of p.setup p.regions q else []

-- the cursor reads the region map from the table on
abbrev pub IsAtTable : PlanData → ℕ → Cursor → Type 0
IsAtTable p q cursor = IsAt p.setup p.regions (q * table_words p.setup) cursor
