-- Entries as the numbers that C has them by. Each entry has one form, as its unused numbers are 0.
use Rattle.std.specs.Prelude.{ℕ, ◌%◌, ◌^◌, Bool, true, false, ◌&&◌, ℤ, pos, Option, Some, None, ◌==◌, nat_lt, if◌then◌else◌, option_and_then}
use Rattle.std.specs.Option.{option_map}
use Rattle.gpi_values.specs.declared.gpi.Gpi.{Gpi}
use Rattle.gpi_values.specs.declared.gpi.Space.{Space}
use Rattle.gpi_values.specs.declared.gpi.Space.TheVariants as space
use Rattle.gpi_values.specs.Values.{value_of, gpi_with, permits_of}
use Rattle.gpt_descriptors.specs.declared.entry.L0Entry.{L0Entry}
use Rattle.gpt_descriptors.specs.declared.entry.L0Entry.TheVariants as l0
use Rattle.gpt_descriptors.specs.declared.entry.L1Entry.{L1Entry}
use Rattle.gpt_descriptors.specs.declared.entry.L1Entry.TheVariants as l1
use Rattle.gpt_descriptors.specs.Entries.{size_code, size_with, l1_entry, word_gpi}
use Rattle.gpt_descriptors.specs.Fields.{with_field, is_granules}
use Rattle.gpt_rme_c.specs.declared.descriptors.L0Parts.{L0Parts}
use Rattle.gpt_rme_c.specs.declared.descriptors.L1Parts.{L1Parts}
use Rattle.gpt_rme_c.specs.Codes.{done, bad_data, bad_word, done_or}

-- a space by the bits NSE and NS of an access (DDI 0487, RME)
abbrev pub space_with : ℕ → Option Space
space_with n =
    if n == 0 then Some space.Secure else
    if n == 1 then Some space.NonSecure else
    if n == 2 then Some space.Root else
    if n == 3 then Some space.Realm else None

-- ---- level 0

-- the numbers of an entry
abbrev pub l0_parts : L0Entry → L0Parts
l0_parts (l0.Block gpi) = record { table = 0; gpi = value_of gpi; address = 0 }
l0_parts (l0.Table address) = record { table = 1; gpi = 0; address = address }

-- the entry of these numbers; a table address has bits 51:12 alone
abbrev pub l0_with : L0Parts → Option L0Entry
l0_with p =
    if p.table == 0
    then (if p.address == 0 then option_map l0.Block (gpi_with p.gpi) else None)
    else (if (p.table == 1) && (p.gpi == 0) && (p.address % 4096 == 0) && nat_lt p.address (2 ^ 52)
    then Some (l0.Table p.address) else None)

-- ---- level 1

abbrev pub l1_parts : L1Entry → L1Parts
l1_parts (l1.Granules word) = record { contig = 0; gpi = 0; fields = word }
l1_parts (l1.Contig size gpi) = record { contig = size_code size; gpi = value_of gpi; fields = 0 }

-- the entry where it is one of granules
abbrev pub granules_in : Option L1Entry → Option L1Entry
granules_in (Some (l1.Granules word)) = Some (l1.Granules word)
granules_in (Some (l1.Contig size gpi)) = None
granules_in None = None

abbrev pub contig_with : L1Parts → Option L1Entry
contig_with p =
    option_and_then (λ gpi. option_map (λ size. l1.Contig size gpi) (size_with p.contig))
    (gpi_with p.gpi)

-- the entry of these numbers
abbrev pub l1_with : L1Parts → Option L1Entry
l1_with p =
    if p.contig == 0
    then (if p.gpi == 0 then granules_in (l1_entry p.fields) else None)
    else (if p.fields == 0 then contig_with p else None)

-- ---- of one granule of a word

-- the granule at a place from 0 to 15 has a GPI where the word is a descriptor
abbrev pub gpi_code : ℕ → ℕ → ℤ
gpi_code word place = if nat_lt place 16 then done_or bad_word (word_gpi word place) else bad_data

abbrev pub gpi_found : ℕ → ℕ → Option Gpi
gpi_found word place = if nat_lt place 16 then word_gpi word place else None

-- a field can be replaced at a place from 0 to 15, by a GPI, in a granules word
abbrev pub field_code : ℕ → ℕ → Option Gpi → ℤ
field_code word place None = bad_data
field_code word place (Some gpi) =
    if nat_lt place 16 then (if is_granules word then done else bad_word) else bad_data

abbrev pub field_written : ℕ → ℕ → ℕ → Option Gpi → ℕ
field_written old word place None = old
field_written old word place (Some gpi) =
    if nat_lt place 16 && is_granules word then with_field word place (value_of gpi) else old

-- ---- permission

abbrev pub one_where : Bool → ℤ
one_where true = pos 1
one_where false = pos 0

-- 1 where the GPI permits the space, 0 where it doesn't
abbrev pub permission : Option Gpi → Option Space → ℤ
permission (Some gpi) (Some s) = one_where (permits_of gpi s)
permission (Some gpi) None = bad_data
permission None s = bad_data
