-- A plan as plain data, and what a plan keeps of it.
use Rattle.std.specs.Prelude.{◌≡◌, ◌<◌, ◌≤◌, ℕ, List, slice_index_or, Bool, false, None}
use Rattle.gpi_values.specs.declared.gpi.Gpi.{Gpi}
use Rattle.gpt_descriptors.specs.Sizes.{SetupData}
use Rattle.region_plan.specs.declared.region.Region.{Region}
use Rattle.region_plan.specs.Regions.{region_gpis, needs_table, tables_needed}
use Rattle.region_plan.specs.Refusals.{refusal}

pub record PlanData : Type 0 where
  pub setup : SetupData
  pub regions : List Region

-- the regions are accepted; their map, whether each gigabyte needs a table, and how many do
pub record PlanKeeps (s : SetupData) (regions : List Region)
    (gpis : List Gpi) (tabled : List Bool) (need : ℕ) : Type 0 where
  pub accepted : refusal s regions ≡ None
  pub gpis_are : gpis ≡ region_gpis s regions
  pub tabled_are : (q : ℕ) → q < 64 → slice_index_or tabled q false ≡ needs_table regions q
  pub need_is : need ≡ tables_needed s regions
  pub few : need ≤ 64
