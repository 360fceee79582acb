-- A protected space as the numbers that C has it by, and the places of an address in it.
use Rattle.std.specs.Prelude.{ℕ, ◌-◌, Bool, ◌&&◌, ◌||◌, ℤ, List, ◌++◌, take, replicate, Option, Some, None, ◌==◌, nat_lt, nat_le, if◌then◌else◌, option_and_then}
use Rattle.std.specs.Option.{option_map}
use Rattle.gpt_descriptors.specs.declared.size.Size.TheVariants as size
use Rattle.gpt_descriptors.specs.declared.size.MaxBlock.{MaxBlock}
use Rattle.gpt_descriptors.specs.declared.size.MaxBlock.TheVariants as most
use Rattle.gpt_descriptors.specs.Sizes.{SetupData, space_bytes, place_in_word, most_tables}
use Rattle.gpt_descriptors.specs.Level0.{is_l0_good, table_count}
use Rattle.gpt_descriptors.specs.Places.{GeometryData, Level1, Line, place_of, gen_place_of, l1_index_of}
use Rattle.bit_locks.specs.Locks.{lock_number, bit_with}
use Rattle.gpt_rme_c.specs.declared.space.Space.{Space}
use Rattle.gpt_rme_c.specs.declared.space.PlaceNumbers.{PlaceNumbers}
use Rattle.gpt_rme_c.specs.Codes.{bad_data, bad_address, done_or}

-- the largest contiguous size that is used, in MB (TF-A RME_GPT_MAX_BLOCK)
abbrev pub max_with : ℕ → Option MaxBlock
max_with n =
    if n == 0 then Some most.Zero else
    if n == 2 then Some most.Two else
    if n == 32 then Some most.ThirtyTwo else
    if n == 512 then Some most.FiveTwelve else None

-- the ranges of a setup
abbrev pub in_range : Space → Bool
in_range s =
    ((s.gigabytes == 4) || (s.gigabytes == 64))
    && ((s.lock_blocks == 0) || (s.lock_blocks == 1) || (s.lock_blocks == 2)
    || (s.lock_blocks == 4) || (s.lock_blocks == 8))
    && nat_le s.tables most_tables

-- generations and rings are of no concern to C, so they have the least values here
abbrev pub setup_as : Space → MaxBlock → SetupData
setup_as s max = record {
  gigabytes = s.gigabytes;
  max = max;
  lock_blocks = s.lock_blocks;
  first = 0;
  ring = 1;
  tables = s.tables;
  base = s.base;
}

-- the setup of these numbers
abbrev pub setup_with : Space → Option SetupData
setup_with s = if in_range s then option_map (setup_as s) (max_with s.max) else None

-- the level 0 words of the protected space; C may have anything in those above
abbrev pub used_l0 : Space → List ℕ
used_l0 s = take s.gigabytes s.l0

abbrev pub geometry_as : Space → SetupData → GeometryData
geometry_as s setup = record {
  setup = setup;
  cpus = s.cpus;
  l1_tables = table_count (used_l0 s);
  l0 = used_l0 s ++ replicate (64 - s.gigabytes) 0;
}

-- the geometry of a setup, where there are at most 32 processors and the level 0 table is good
abbrev pub geometry_in : Space → SetupData → Option GeometryData
geometry_in s setup =
    if nat_le s.cpus 32 && is_l0_good setup (used_l0 s) then Some (geometry_as s setup) else None

-- the geometry of these numbers
unfoldable pub geometry_with : Space → Option GeometryData
geometry_with s = option_and_then (geometry_in s) (setup_with s)

-- the places of an address whose level 1 word is number i of all
abbrev pub places_at : GeometryData → ℕ → ℕ → PlaceNumbers
places_at g pa i = record {
  lock = (bit_with (lock_number g.setup pa)).place;
  mask = (bit_with (lock_number g.setup pa)).mask;
  word = place_of g (Level1 i);
  field = place_in_word g.setup pa;
  line = place_of g (Line i);
  two = gen_place_of g size.Two pa;
  thirty_two = gen_place_of g size.ThirtyTwo pa;
  five_twelve = gen_place_of g size.FiveTwelve pa;
}

-- the places of an address in the protected space that a level 1 table covers
abbrev pub places_in : GeometryData → ℕ → Option PlaceNumbers
places_in g pa =
    if nat_lt pa (space_bytes g.setup)
    then option_map (places_at g pa) (l1_index_of g pa) else None

abbrev pub places_code : Option GeometryData → ℕ → ℤ
places_code None pa = bad_data
places_code (Some g) pa = done_or bad_address (places_in g pa)

abbrev pub places_found : Option GeometryData → ℕ → Option PlaceNumbers
places_found None pa = None
places_found (Some g) pa = places_in g pa
