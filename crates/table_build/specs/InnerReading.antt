-- Reading a map once, run by run.
use Rattle.std.specs.Prelude.{◌≡◌, ◌≢◌, ◌<◌, ◌≤◌, ℕ, ◌*◌, List, [], ◌∷◌, None}
use Rattle.gpi_values.specs.declared.gpi.Gpi.{Gpi}
use Rattle.gpi_values.specs.declared.gpi.Gpi.TheVariants as gpi
use Rattle.gpt_descriptors.specs.Sizes.{SetupData, space_granules}
use Rattle.region_plan.specs.declared.region.Region.{Region}
use Rattle.region_plan.specs.declared.run_map.Run.{Run}
use Rattle.region_plan.specs.Regions.{region_map}
use Rattle.region_plan.specs.Runs.{gpi_after, AreApart}
use Rattle.table_build.specs.declared.cursor.Cursor.{Cursor}

-- the first run begins at granule g or before it
abbrev pub HasBegun : ℕ → List Run → Type 0
HasBegun g [] = ⊥
HasBegun g (run ∷ runs) = run.first ≤ g

-- the second run, if there is one, begins after granule g
abbrev pub NextIsAfter : ℕ → List Run → Type 0
NextIsAfter g [] = Unit {0}
NextIsAfter g (run ∷ []) = Unit {0}
NextIsAfter g (run ∷ next ∷ runs) = g < next.first

-- the runs give the granules from g on what m gives them
pub record Reads (m : ℕ → Gpi) (g size : ℕ) (runs : List Run) : Type 0 where
  pub begun : HasBegun g runs
  pub apart : AreApart 0 None size runs
  pub gpis : (k : ℕ) → g ≤ k → k < size → gpi_after gpi.Any runs k ≡ m k

-- granules of one GPI from g on, up to the end of the map or to one of another GPI
pub record IsRunFrom (m : ℕ → Gpi) (g size : ℕ) (one : Gpi) (end : ℕ) : Type 0 where
  pub after : g < end
  pub within : end ≤ size
  pub same : (k : ℕ) → g ≤ k → k < end → m k ≡ one
  pub other : end < size → m end ≢ one

-- the cursor reads the region map from word w on
pub record IsAt (s : SetupData) (regions : List Region) (w : ℕ) (cursor : Cursor) : Type 0 where
  pub size : cursor.size ≡ space_granules s
  pub reads : Reads (region_map s regions) (16 * w) (space_granules s) cursor.rest.now
