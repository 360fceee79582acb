-- Merging as a walk of steps: a test load or a store at a time. A size is tested where the one
-- before it passed; the largest size whose tests all passed is stored.
use Rattle.std.specs.Prelude.{◌≡◌, ℕ, ◌+◌, ◌*◌, ◌/◌, ◌%◌, ◌<◌, ◌≤◌, true, Option, Some, None, ◌==◌, nat_lt, if◌then◌else◌}
use Rattle.gpi_values.specs.declared.gpi.Gpi.{Gpi}
use Rattle.gpt_descriptors.specs.declared.size.Size.{Size}
use Rattle.gpt_descriptors.specs.declared.size.Size.TheVariants as size
use Rattle.gpt_descriptors.specs.declared.size.MaxBlock.{MaxBlock}
use Rattle.gpt_descriptors.specs.declared.entry.L1Entry.TheVariants as l1
use Rattle.gpt_descriptors.specs.Sizes.{SetupData, words_of, is_permitted}
use Rattle.gpt_descriptors.specs.Entries.{l1_word}
use Rattle.gpt_descriptors.specs.Fields.{granules_of}
use Rattle.gpt_descriptors.specs.Canonical.{largest_block, canonical_word, BlockIs}
use Rattle.table_meaning.specs.declared.fusing.Fusing.{Fusing}
use Rattle.table_meaning.specs.declared.fusing.Fusing.TheVariants.{Testing, Storing, Ended}

-- ---- the words that are loaded. 2 MB have `two` words; merging is done around word `own`.

-- words of a block of a size
abbrev pub block_words : ℕ → Size → ℕ
block_words two size.Two = two
block_words two size.ThirtyTwo = 16 * two
block_words two size.FiveTwelve = 16 * (16 * two)

-- the loads of the test of a size: each word of the 2 MB, the first word of each of the fifteen
-- other blocks
abbrev pub loads_of : ℕ → Size → ℕ
loads_of two size.Two = two
loads_of two size.ThirtyTwo = 15
loads_of two size.FiveTwelve = 15

-- number k of fifteen among sixteen, without number j
abbrev pub beside : ℕ → ℕ → ℕ
beside j k = if nat_lt k j then k else k + 1

-- the word of load k of the test of a size
abbrev pub load_at : ℕ → ℕ → Size → ℕ → ℕ
load_at two own size.Two k = own / two * two + k
load_at two own size.ThirtyTwo k = (own / (16 * two) * 16 + beside (own / two % 16) k) * two
load_at two own size.FiveTwelve k =
    (own / (16 * (16 * two)) * 16 + beside (own / (16 * two) % 16) k) * (16 * two)

-- the word of store k of a block of a size
abbrev pub store_at : ℕ → ℕ → Size → ℕ → ℕ
store_at two own z k = own / block_words two z * block_words two z + k

-- what each load of the test must answer
abbrev pub needed_word : Gpi → Size → ℕ
needed_word v size.Two = granules_of v
needed_word v size.ThirtyTwo = l1_word (l1.Contig size.Two v)
needed_word v size.FiveTwelve = l1_word (l1.Contig size.ThirtyTwo v)

-- ---- the steps

-- the test of this size follows, where it is permitted, else the stores of the size before it
abbrev pub test_or_store : MaxBlock → Size → Size → Fusing
test_or_store max z before = if is_permitted max z then Testing z 0 else Storing before 0

-- after the last load of a test that passed
abbrev pub passed : MaxBlock → Size → Fusing
passed max size.Two = test_or_store max size.ThirtyTwo size.Two
passed max size.ThirtyTwo = test_or_store max size.FiveTwelve size.ThirtyTwo
passed max size.FiveTwelve = Storing size.FiveTwelve 0

-- after a load that differs
abbrev pub failed : Size → Fusing
failed size.Two = Ended None
failed size.ThirtyTwo = Storing size.Two 0
failed size.FiveTwelve = Storing size.ThirtyTwo 0

-- after load k of the test of a size, which answered this word
abbrev pub loaded : ℕ → MaxBlock → Gpi → Size → ℕ → ℕ → Fusing
loaded two max v z k word =
    if word == needed_word v z
    then (if k + 1 == loads_of two z then passed max z else Testing z (k + 1))
    else failed z

-- after store k of a block of a size
abbrev pub stored : ℕ → Size → ℕ → Fusing
stored two z k = if k + 1 == block_words two z then Ended (Some z) else Storing z (k + 1)

-- before the first load: the word must be that of sixteen granules of GPI v
abbrev pub begun : MaxBlock → Option Gpi → Fusing
begun max None = Ended None
begun max (Some v) = if is_permitted max size.Two then Testing size.Two 0 else Ended None

-- ---- what is known at a step, of tables canonical apart from granule g, whose word is that of v

-- the blocks that the tests before this one have shown
abbrev pub ShownBefore : SetupData → (ℕ → Gpi) → ℕ → Gpi → Size → Type 0
ShownBefore s m g v size.Two = Unit {0}
ShownBefore s m g v size.ThirtyTwo = BlockIs s m size.Two (g / 16 / words_of s size.Two) v
ShownBefore s m g v size.FiveTwelve =
    BlockIs s m size.ThirtyTwo (g / 16 / words_of s size.ThirtyTwo) v

abbrev pub Knows : SetupData → (ℕ → Gpi) → ℕ → Gpi → Fusing → Type 0
Knows s m g v (Testing z k) =
    (is_permitted s.max z ≡ true) × (k < loads_of (words_of s size.Two) z) × ShownBefore s m g v z
    × ((j : ℕ) → j < k
    → canonical_word s m (Some g) (load_at (words_of s size.Two) (g / 16) z j) ≡ needed_word v z)
Knows s m g v (Storing z k) = (largest_block s m None (g / 16) ≡ Some z) × (k ≤ words_of s z)
Knows s m g v (Ended o) = largest_block s m None (g / 16) ≡ o
