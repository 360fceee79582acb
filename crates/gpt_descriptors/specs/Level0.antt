-- The level 0 table: one entry for each gigabyte of the protected space (DDI 0487, GPT level 0
-- descriptors; a table is aligned to its size, which follows from PGS and L0GPTSZ).
use Rattle.std.specs.Prelude.{ℕ, ◌+◌, ◌*◌, ◌/◌, ◌%◌, ◌^◌, Bool, true, false, ◌&&◌, List, [], ◌∷◌, length, take, count_by, slice_index, Option, Some, None, ◌==◌, nat_lt, nat_le, if◌then◌else◌}
use Rattle.gpt_descriptors.specs.declared.entry.L0Entry.{L0Entry}
use Rattle.gpt_descriptors.specs.declared.entry.L0Entry.TheVariants as l0
use Rattle.gpt_descriptors.specs.Sizes.{SetupData, table_words, table_bytes}
use Rattle.gpt_descriptors.specs.Entries.{l0_entry}

abbrev pub is_table_entry : Option L0Entry → Bool
is_table_entry (Some (l0.Table address)) = true
is_table_entry (Some (l0.Block gpi)) = false
is_table_entry None = false

abbrev pub is_table : ℕ → Bool
is_table word = is_table_entry (l0_entry word)

-- the k-th table entry, counted from 0, names the k-th table from the base on
abbrev pub is_entry_good : SetupData → ℕ → Option L0Entry → Bool
is_entry_good s k None = false
is_entry_good s k (Some (l0.Block gpi)) = true
is_entry_good s k (Some (l0.Table address)) =
    nat_lt k s.tables && (address == s.base + k * table_bytes s)
    && (address % table_bytes s == 0) && nat_le (address + table_bytes s) (2 ^ 52)

-- the entries, after k tables
abbrev pub are_entries_good : SetupData → ℕ → List ℕ → Bool
are_entries_good s k [] = true
are_entries_good s k (word ∷ words) =
    is_entry_good s k (l0_entry word)
    && are_entries_good s (if is_table word then k + 1 else k) words

abbrev pub is_l0_good : SetupData → List ℕ → Bool
is_l0_good s words = (length words == s.gigabytes) && are_entries_good s 0 words

-- the tables of an L0 table
abbrev pub table_count : List ℕ → ℕ
table_count words = count_by is_table words

-- the index of the L1 word with number w among the words of all L1 tables; none below an L0 block
abbrev pub l1_index : SetupData → List ℕ → ℕ → Option ℕ
l1_index s words w =
    if is_table (slice_index words (w / table_words s))
    then Some (table_count (take (w / table_words s) words) * table_words s + w % table_words s)
    else None
