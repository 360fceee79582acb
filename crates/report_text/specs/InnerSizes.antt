-- The contiguous L1 words of each size, counted together.
use Rattle.std.specs.Prelude.{ℕ, ◌+◌, List, count_by, Option, Some, None}
use Rattle.gpt_descriptors.specs.declared.entry.L1Entry.{L1Entry}
use Rattle.gpt_descriptors.specs.declared.entry.L1Entry.TheVariants as l1
use Rattle.gpt_descriptors.specs.declared.size.Size.{Size}
use Rattle.gpt_descriptors.specs.declared.size.Size.TheVariants as size
use Rattle.gpt_descriptors.specs.Entries.{l1_entry}
use Rattle.report_text.specs.declared.load.Contiguous.{Contiguous}
use Rattle.report_text.specs.LoadText.{is_contiguous}

-- the size of a contiguous descriptor
abbrev pub size_in : Option L1Entry → Option Size
size_in (Some (l1.Contig z gpi)) = Some z
size_in (Some (l1.Granules word)) = None
size_in None = None

-- the counts after one more word
abbrev pub counted_size : Option Size → Contiguous → Contiguous
counted_size None c = c
counted_size (Some size.Two) c = record c { two = c.two + 1 }
counted_size (Some size.ThirtyTwo) c = record c { thirty_two = c.thirty_two + 1 }
counted_size (Some size.FiveTwelve) c = record c { five_twelve = c.five_twelve + 1 }

-- the counts of some words
unfoldable pub size_count : Size → List ℕ → ℕ
size_count z words = count_by (λ word. is_contiguous z (l1_entry word)) words

abbrev pub sizes_of : List ℕ → Contiguous
sizes_of words = record {
  two = size_count size.Two words;
  thirty_two = size_count size.ThirtyTwo words;
  five_twelve = size_count size.FiveTwelve words;
}
