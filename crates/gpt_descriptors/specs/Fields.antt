-- The fields of granules words (DDI 0487, GPT level 1 descriptors): words that are granules
-- descriptors, one with a field replaced, and one of sixteen equal fields (TF-A gpt_rme,
-- GPT_BUILD_L1_DESC).
use Rattle.std.specs.Prelude.{ℕ, ◌+◌, ◌*◌, ◌/◌, ◌%◌, ◌^◌, Bool, true, false, Option, Some, None, ◌==◌, if◌then◌else◌, option_and_then}
use Rattle.gpi_values.specs.declared.gpi.Gpi.{Gpi}
use Rattle.gpi_values.specs.Values.{gpi_with}
use Rattle.gpt_descriptors.specs.declared.entry.L1Entry.{L1Entry}
use Rattle.gpt_descriptors.specs.declared.entry.L1Entry.TheVariants as l1
use Rattle.gpt_descriptors.specs.Entries.{l1_entry, packed}

-- a granules word with field i, bits 4 i + 3 to 4 i, replaced
abbrev pub with_field : ℕ → ℕ → ℕ → ℕ
with_field word i value = (word / 2 ^ (4 * i) / 16 * 16 + value) * 2 ^ (4 * i) + word % 2 ^ (4 * i)

-- the word of sixteen granules of this GPI
abbrev pub granules_of : Gpi → ℕ
granules_of gpi = packed (λ k. gpi) 0 16

-- the GPI of a word of sixteen equal ones; none where it isn't such a word
abbrev pub equal_gpi : ℕ → Option Gpi
equal_gpi word =
    option_and_then (λ gpi. if word == granules_of gpi then Some gpi else None)
    (gpi_with (word % 16))

abbrev pub is_granules_entry : Option L1Entry → Bool
is_granules_entry (Some (l1.Granules word)) = true
is_granules_entry (Some (l1.Contig z gpi)) = false
is_granules_entry None = false

-- the word is a granules descriptor
abbrev pub is_granules : ℕ → Bool
is_granules word = is_granules_entry (l1_entry word)
