-- The canonical tables of regions that are accepted.
use Rattle.std.specs.Prelude.{ℕ, ◌+◌, ◌*◌, ◌%◌, ◌^◌, Bool, ◌||◌, not, List, map, None, ◌==◌, nat_lt}
use Rattle.std.specs.List.{flat_map, range_with_len}
use Rattle.gpt_descriptors.specs.Sizes.{SetupData, table_words, table_bytes}
use Rattle.gpt_descriptors.specs.Entries.{packed}
use Rattle.gpt_descriptors.specs.Canonical.{canonical_word}
use Rattle.region_plan.specs.declared.region.Region.{Region}
use Rattle.region_plan.specs.Regions.{region_map, region_l0, tabled_below, tables_needed}
use Rattle.table_build.specs.TableData.{TableData}

-- n canonical words of the region map, from word first on
abbrev pub canonical_words : SetupData → List Region → ℕ → ℕ → List ℕ
canonical_words s regions first n =
    map (canonical_word s (region_map s regions) None) (range_with_len first n)

-- n granules words of the region map, from word first on
abbrev pub granules_words : SetupData → List Region → ℕ → ℕ → List ℕ
granules_words s regions first n =
    map (λ w. packed (region_map s regions) (16 * w) 16) (range_with_len first n)

-- the level 1 table of gigabyte q
abbrev pub table_of : SetupData → List Region → ℕ → List ℕ
table_of s regions q = canonical_words s regions (q * table_words s) (table_words s)

-- the tables, that of the lowest gigabyte first
abbrev pub region_l1 : SetupData → List Region → List ℕ
region_l1 s regions = flat_map (table_of s regions) (tabled_below regions s.gigabytes)

-- Canonical tables: the level 0 table of the regions, and every level 1 word canonical for the
-- region map.
abbrev pub tables_of : SetupData → List Region → TableData
tables_of s regions = record { setup = s; l0 = region_l0 s regions; l1 = region_l1 s regions }

-- the base isn't aligned to a table, or the last table ends above 2 ^ 52
unfoldable pub is_bad_base : SetupData → List Region → Bool
is_bad_base s regions =
    not (s.base % table_bytes s == 0)
    || nat_lt (2 ^ 52) (s.base + tables_needed s regions * table_bytes s)
