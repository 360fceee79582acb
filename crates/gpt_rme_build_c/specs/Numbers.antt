-- Setups and regions as the numbers that C has them by.
use Rattle.std.specs.Prelude.{ℕ, Bool, ◌&&◌, ◌||◌, Option, Some, None, is_some, ◌==◌, nat_le, if◌then◌else◌}
use Rattle.std.specs.Option.{option_map}
use Rattle.gpi_values.specs.declared.gpi.Gpi.{Gpi}
use Rattle.gpi_values.specs.declared.gpi.Gpi.TheVariants as gpi
use Rattle.gpi_values.specs.Values.{gpi_with}
use Rattle.gpt_descriptors.specs.declared.size.MaxBlock.{MaxBlock}
use Rattle.gpt_descriptors.specs.declared.size.MaxBlock.TheVariants as most
use Rattle.gpt_descriptors.specs.Sizes.{SetupData, most_tables}
use Rattle.region_plan.specs.declared.region.Kind.{Kind}
use Rattle.region_plan.specs.declared.region.Kind.TheVariants as kind
use Rattle.region_plan.specs.declared.region.Region.{Region}
use Rattle.gpt_rme_build_c.specs.declared.numbers.SetupNumbers.{SetupNumbers}
use Rattle.gpt_rme_build_c.specs.declared.numbers.RegionNumbers.{RegionNumbers}

-- the largest contiguous size that is used, in MB (TF-A RME_GPT_MAX_BLOCK)
abbrev pub max_with : ℕ → Option MaxBlock
max_with n =
    if n == 0 then Some most.Zero else
    if n == 2 then Some most.Two else
    if n == 32 then Some most.ThirtyTwo else
    if n == 512 then Some most.FiveTwelve else None

-- the ranges of a setup
abbrev pub in_range : SetupNumbers → Bool
in_range s = ((s.gigabytes == 4) || (s.gigabytes == 64)) && nat_le s.tables most_tables

-- locks, generations and rings have no part in tables, so they have the least values here
abbrev pub setup_as : SetupNumbers → MaxBlock → SetupData
setup_as s max = record {
  gigabytes = s.gigabytes;
  max = max;
  lock_blocks = 0;
  first = 0;
  ring = 1;
  tables = s.tables;
  base = s.base;
}

-- the setup of these numbers
abbrev pub setup_with : SetupNumbers → Option SetupData
setup_with s = if in_range s then option_map (setup_as s) (max_with s.max) else None

-- 0 for blocks, 1 for granules
abbrev pub kind_as : ℕ → Kind
kind_as n = if n == 0 then kind.Block else kind.Granule

abbrev pub gpi_or_any : Option Gpi → Gpi
gpi_or_any (Some g) = g
gpi_or_any None = gpi.Any

abbrev pub gpi_as : ℕ → Gpi
gpi_as n = gpi_or_any (gpi_with n)

-- its numbers stand for something
abbrev pub is_region : RegionNumbers → Bool
is_region r = nat_le r.kind 1 && is_some (gpi_with r.gpi)

abbrev pub region_as : RegionNumbers → Region
region_as r = record { base = r.base; size = r.size; kind = kind_as r.kind; gpi = gpi_as r.gpi }
