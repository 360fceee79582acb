-- Merging (TF-A gpt_rme, fusing of contiguous descriptors): the largest block around a word whose
-- words show that all its granules have one GPI. It is found by the words alone: those of the 2 MB
-- around the word, then the first words of the fifteen other blocks of 2 MB in its 32 MB, then
-- those of the fifteen other blocks of 32 MB in its 512 MB. A table is given by its word for each
-- number of a word in the protected space.
use Rattle.std.specs.Prelude.{◌≡◌, ◌≢◌, ℕ, ◌*◌, ◌/◌, ◌⊎◌, true, false, Option, Some, None}
use Rattle.gpi_values.specs.declared.gpi.Gpi.{Gpi}
use Rattle.gpt_descriptors.specs.declared.size.Size.{Size}
use Rattle.gpt_descriptors.specs.declared.size.Size.TheVariants as size
use Rattle.gpt_descriptors.specs.declared.entry.L1Entry.TheVariants as l1
use Rattle.gpt_descriptors.specs.Sizes.{SetupData, words_of, is_permitted}
use Rattle.gpt_descriptors.specs.Entries.{l1_word}
use Rattle.gpt_descriptors.specs.Fields.{granules_of}

-- each word of the 2 MB around word own is that of sixteen granules of this GPI
abbrev pub PassesTwo : SetupData → (ℕ → ℕ) → ℕ → Gpi → Type 0
PassesTwo s table own v =
    (w : ℕ) → w / words_of s size.Two ≡ own / words_of s size.Two → table w ≡ granules_of v

-- each other block of 2 MB in its 32 MB begins with contiguous 2 MB of this GPI
abbrev pub PassesThirtyTwo : SetupData → (ℕ → ℕ) → ℕ → Gpi → Type 0
PassesThirtyTwo s table own v =
    (q : ℕ) → q / 16 ≡ own / words_of s size.ThirtyTwo → q ≢ own / words_of s size.Two
    → table (q * words_of s size.Two) ≡ l1_word (l1.Contig size.Two v)

-- each other block of 32 MB in its 512 MB begins with contiguous 32 MB of this GPI
abbrev pub PassesFiveTwelve : SetupData → (ℕ → ℕ) → ℕ → Gpi → Type 0
PassesFiveTwelve s table own v =
    (r : ℕ) → r / 16 ≡ own / words_of s size.FiveTwelve → r ≢ own / words_of s size.ThirtyTwo
    → table (r * words_of s size.ThirtyTwo) ≡ l1_word (l1.Contig size.ThirtyTwo v)

-- a word at which a test stops
abbrev pub StopsTwo : SetupData → (ℕ → ℕ) → ℕ → Type 0
StopsTwo s table own =
    (w : ℕ) × (w / words_of s size.Two ≡ own / words_of s size.Two) × (table w ≢ table own)

abbrev pub StopsThirtyTwo : SetupData → (ℕ → ℕ) → ℕ → Gpi → Type 0
StopsThirtyTwo s table own v =
    (q : ℕ) × (q / 16 ≡ own / words_of s size.ThirtyTwo) × (q ≢ own / words_of s size.Two)
    × (table (q * words_of s size.Two) ≢ l1_word (l1.Contig size.Two v))

abbrev pub StopsFiveTwelve : SetupData → (ℕ → ℕ) → ℕ → Gpi → Type 0
StopsFiveTwelve s table own v =
    (r : ℕ) × (r / 16 ≡ own / words_of s size.FiveTwelve) × (r ≢ own / words_of s size.ThirtyTwo)
    × (table (r * words_of s size.ThirtyTwo) ≢ l1_word (l1.Contig size.ThirtyTwo v))

-- The size that merging finds around word own: the largest one whose tests all pass; none where no
-- contiguous size is permitted, the word hasn't sixteen equal GPIs, or a word of its 2 MB differs
-- from it.
abbrev pub Finds : SetupData → (ℕ → ℕ) → ℕ → Option Size → Type 0
Finds s table own None =
    (is_permitted s.max size.Two ≡ false)
    ⊎ (((v : Gpi) → table own ≢ granules_of v) ⊎ StopsTwo s table own)
Finds s table own (Some size.Two) =
    (v : Gpi) × (is_permitted s.max size.Two ≡ true) × PassesTwo s table own v
    × ((is_permitted s.max size.ThirtyTwo ≡ false) ⊎ StopsThirtyTwo s table own v)
Finds s table own (Some size.ThirtyTwo) =
    (v : Gpi) × (is_permitted s.max size.ThirtyTwo ≡ true)
    × PassesTwo s table own v × PassesThirtyTwo s table own v
    × ((is_permitted s.max size.FiveTwelve ≡ false) ⊎ StopsFiveTwelve s table own v)
Finds s table own (Some size.FiveTwelve) =
    (v : Gpi) × (is_permitted s.max size.FiveTwelve ≡ true)
    × PassesTwo s table own v × PassesThirtyTwo s table own v × PassesFiveTwelve s table own v
