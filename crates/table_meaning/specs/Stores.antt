-- Stores on the L1 words of all tables, one after another in rising order.
use Rattle.std.specs.Prelude.{ℕ, zero, suc, ◌+◌, List, slice_set}
use Rattle.gpi_values.specs.declared.gpi.Gpi.{Gpi}
use Rattle.gpt_descriptors.specs.declared.size.Size.{Size}
use Rattle.gpt_descriptors.specs.declared.entry.L1Entry.TheVariants as l1
use Rattle.gpt_descriptors.specs.Sizes.{SetupData}
use Rattle.gpt_descriptors.specs.Entries.{l1_word}
use Rattle.table_meaning.specs.Splitting.{block_start, split_around}

-- the words after k stores of word 0, word 1 and so on, from index `first` on
unfoldable pub after_stores : (ℕ → ℕ) → ℕ → ℕ → List ℕ → List ℕ
after_stores word first zero words = words
after_stores word first (suc k) words =
    slice_set (after_stores word first k words) (first + k) (word k)

-- after k stores of splitting the block of a size around word own, whose index is i
abbrev pub after_splitting : SetupData → Size → ℕ → ℕ → Gpi → ℕ → List ℕ → List ℕ
after_splitting s z own i gpi k words =
    after_stores (λ j. split_around s own gpi (block_start s z own + j)) (block_start s z i) k words

-- after k stores of merging the block of a size around the word of index i
abbrev pub after_merging : SetupData → Size → ℕ → Gpi → ℕ → List ℕ → List ℕ
after_merging s z i gpi k words =
    after_stores (λ j. l1_word (l1.Contig z gpi)) (block_start s z i) k words
