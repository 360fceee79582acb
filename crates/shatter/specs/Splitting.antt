-- Splitting: the words that a contiguous block becomes when one of its granules is to be changed
-- (TF-A gpt_rme, shattering of contiguous descriptors). The 2 MB around that granule get granules
-- words, the other words of its 32 MB contiguous entries of 2 MB, and those outside it contiguous
-- entries of 32 MB.
use Rattle.std.specs.Prelude.{◌≡◌, ℕ, zero, suc, ◌+◌, ◌*◌, ◌/◌, ◌<◌, ◌==◌, nat_lt, List, map, Option, Some, None, if◌then◌else◌}
use Rattle.std.specs.List.{range_with_len}
use Rattle.gpi_values.specs.declared.gpi.Gpi.{Gpi}
use Rattle.gpt_descriptors.specs.declared.size.Size.TheVariants as size
use Rattle.gpt_descriptors.specs.declared.entry.L1Entry.{L1Entry}
use Rattle.gpt_descriptors.specs.declared.entry.L1Entry.TheVariants as l1
use Rattle.gpt_descriptors.specs.Entries.{l1_word}
use Rattle.gpt_descriptors.specs.Fields.{granules_of}
use Rattle.shared_words.specs.declared.act.Act.{Act}
use Rattle.shared_words.specs.declared.act.Act.TheVariants as act
use Rattle.shared_words.specs.declared.act.StoreRun.{StoreRun}
use Rattle.shared_words.specs.Acts.{store_in}

-- word j of the block, counted from its first one, after the splitting around word own; 2 MB have
-- `two` words
abbrev pub split_entry : ℕ → ℕ → Gpi → ℕ → L1Entry
split_entry two own gpi j =
    if j / two == own / two then l1.Granules (granules_of gpi) else
    if j / (16 * two) == own / (16 * two) then l1.Contig size.Two gpi else
    l1.Contig size.ThirtyTwo gpi

abbrev pub split_word : ℕ → ℕ → Gpi → ℕ → ℕ
split_word two own gpi j = l1_word (split_entry two own gpi j)

-- The splitting of a block: the place of its first word, the number of the granule's word in it,
-- its GPI, how many of its words are stored, how many it has, and how many 2 MB have.
pub record SplittingData : Type 0 where
  pub first : ℕ
  pub own : ℕ
  pub gpi : Gpi
  pub made : ℕ
  pub words : ℕ
  pub two : ℕ

-- before the first store
abbrev pub started : ℕ → ℕ → Gpi → ℕ → ℕ → SplittingData
started first own gpi words two = record {
  first = first;
  own = own;
  gpi = gpi;
  made = 0;
  words = words;
  two = two;
}

-- after this many stores
abbrev pub started_at : ℕ → ℕ → Gpi → ℕ → ℕ → ℕ → SplittingData
started_at first own gpi words two made = record {
  first = first;
  own = own;
  gpi = gpi;
  made = made;
  words = words;
  two = two;
}

-- store j of a splitting, and all of them, in rising order of places
abbrev pub store_of : SplittingData → ℕ → Act
store_of d j = act.Store (d.first + j) (split_word d.two d.own d.gpi j)

abbrev pub splitting_stores : SplittingData → List Act
splitting_stores d = map (store_of d) (range_with_len 0 d.words)

-- the next store; none after the last
abbrev pub next_store : SplittingData → Option Act
next_store d = if nat_lt d.made d.words then Some (store_of d d.made) else None

-- after that store
abbrev pub advanced : SplittingData → SplittingData
advanced d = record {
  first = d.first;
  own = d.own;
  gpi = d.gpi;
  made = d.made + 1;
  words = d.words;
  two = d.two;
}

-- after the next n stores
unfoldable pub advanced_by : ℕ → SplittingData → SplittingData
advanced_by zero d = d
advanced_by (suc n) d = advanced (advanced_by n d)

-- the stores of this run are the next ones
abbrev pub AreNext : StoreRun → SplittingData → Type 0
AreNext run d = (k : ℕ) → k < run.count → next_store (advanced_by k d) ≡ Some (store_in run k)
