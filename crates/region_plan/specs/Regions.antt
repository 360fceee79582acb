-- The region map and the level 0 table of a list of regions.
use Rattle.std.specs.Prelude.{ℕ, zero, suc, ◌+◌, ◌*◌, ◌/◌, Bool, true, false, ◌&&◌, List, [], ◌∷◌, ◌++◌, length, map, Option, Some, None, nat_lt, nat_le, if◌then◌else◌}
use Rattle.std.specs.List.{find, list_any, range_with_len}
use Rattle.gpi_values.specs.declared.gpi.Gpi.{Gpi}
use Rattle.gpi_values.specs.declared.gpi.Gpi.TheVariants as gpi
use Rattle.gpt_descriptors.specs.declared.entry.L0Entry.{L0Entry}
use Rattle.gpt_descriptors.specs.declared.entry.L0Entry.TheVariants as l0
use Rattle.gpt_descriptors.specs.Sizes.{SetupData, granule_bytes, table_bytes, region_bytes, space_granules}
use Rattle.gpt_descriptors.specs.Entries.{l0_word}
use Rattle.region_plan.specs.declared.region.Kind.{Kind}
use Rattle.region_plan.specs.declared.region.Kind.TheVariants as kind
use Rattle.region_plan.specs.declared.region.Region.{Region}

-- the first granule of a region, and how many it has
abbrev pub first_granule : SetupData → Region → ℕ
first_granule s r = r.base / granule_bytes s

abbrev pub granule_count : SetupData → Region → ℕ
granule_count s r = r.size / granule_bytes s

-- granule g is one of the region's
abbrev pub is_in : SetupData → ℕ → Region → Bool
is_in s g r = nat_le (first_granule s r) g && nat_lt g (first_granule s r + granule_count s r)

abbrev pub gpi_or_any : Option Region → Gpi
gpi_or_any (Some r) = r.gpi
gpi_or_any None = gpi.Any

-- The region map: the GPI of a granule is that of the region that holds it, and any access where
-- none does.
unfoldable pub region_map : SetupData → List Region → ℕ → Gpi
region_map s regions g = gpi_or_any (find (is_in s g) regions)

-- the region map as a list, over the granules of the protected space
abbrev pub region_gpis : SetupData → List Region → List Gpi
region_gpis s regions = map (region_map s regions) (range_with_len 0 (space_granules s))

-- the region has bytes of gigabyte q
abbrev pub touches : ℕ → Region → Bool
touches q r = nat_lt r.base ((q + 1) * region_bytes) && nat_lt (q * region_bytes) (r.base + r.size)

abbrev pub is_granule_kind : Kind → Bool
is_granule_kind kind.Granule = true
is_granule_kind kind.Block = false

-- a gigabyte needs an L1 table where a granule region touches it
abbrev pub needs_table : List Region → ℕ → Bool
needs_table regions q = list_any (λ r. is_granule_kind r.kind && touches q r) regions

-- the gigabytes below q that need a table, in rising order
unfoldable pub tabled_below : List Region → ℕ → List ℕ
tabled_below regions zero = []
tabled_below regions (suc q) =
    tabled_below regions q ++ (if needs_table regions q then q ∷ [] else [])

-- how many tables stand before that of gigabyte q
abbrev pub tables_below : List Region → ℕ → ℕ
tables_below regions q = length (tabled_below regions q)

-- how many tables there are
abbrev pub tables_needed : SetupData → List Region → ℕ
tables_needed s regions = tables_below regions s.gigabytes

-- The entry of gigabyte q: the next table after the base where it needs one, else a block, of the
-- GPI of the block region there or of any access.
abbrev pub region_entry : SetupData → List Region → ℕ → L0Entry
region_entry s regions q =
    if needs_table regions q
    then l0.Table (s.base + tables_below regions q * table_bytes s)
    else l0.Block (gpi_or_any (find (touches q) regions))

-- the level 0 table
abbrev pub region_l0 : SetupData → List Region → List ℕ
region_l0 s regions = map (λ q. l0_word (region_entry s regions q)) (range_with_len 0 s.gigabytes)
