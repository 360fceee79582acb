-- What the steps leave by which runs are searched, added and changed.
use Rattle.std.specs.Prelude.{◌≡◌, ◌≢◌, ◌<◌, ◌≤◌, ℕ, ◌+◌, List, [], ◌∷◌, length, slice_index_or, Option, Some, None, nat_lt, if◌then◌else◌}
use Rattle.gpi_values.specs.declared.gpi.Gpi.{Gpi}
use Rattle.gpi_values.specs.declared.gpi.Gpi.TheVariants as gpi
use Rattle.region_plan.specs.declared.run_map.Run.{Run}
use Rattle.region_plan.specs.Runs.{gpi_after, BeginAtZero, AreApart}

-- run i is the one that has the granule
pub record IsRunAt (granule : ℕ) (runs : List Run) (i : ℕ) : Type 0 where
  pub within : i < length runs
  pub begun : (d : Run) → (slice_index_or runs i d).first ≤ granule
  pub later : (k : ℕ) (d : Run) → i < k → k < length runs
      → granule < (slice_index_or runs k d).first

-- runs of the granules below the end, of which granule g has the GPI f g
pub record Covers (end : ℕ) (f : ℕ → Gpi) (runs : List Run) : Type 0 where
  pub begins : BeginAtZero end runs
  pub apart : AreApart 0 None end runs
  pub gpis : (g : ℕ) → g < end → gpi_after gpi.Any runs g ≡ f g

-- f before granule n, and one GPI from there on
abbrev pub then_one : ℕ → (ℕ → Gpi) → Gpi → ℕ → Gpi
then_one n f one g = if nat_lt g n then f g else one

-- the GPI of the last run, and o where there is none
abbrev pub last_gpi : Option Gpi → List Run → Option Gpi
last_gpi o [] = o
last_gpi o (run ∷ runs) = last_gpi (Some run.gpi) runs

-- where runs begin, the end where there is none
abbrev pub begin_of : ℕ → List Run → ℕ
begin_of end [] = end
begin_of end (run ∷ runs) = run.first

-- the first run has this GPI
abbrev pub BeginsWith : Gpi → List Run → Type 0
BeginsWith one [] = ⊥
BeginsWith one (run ∷ runs) = run.gpi ≡ one

-- runs later than a granule that became new: they give each of its successors what runs later than
-- own gave it
pub record Follows (granule end : ℕ) (own new : Gpi) (runs later : List Run) : Type 0 where
  pub apart : AreApart (granule + 1) (Some new) end later
  pub gpis : (g : ℕ) → granule < g → g < end → gpi_after new later g ≡ gpi_after own runs g

-- runs up to a granule that became new, which give the granules before it what the runs gave them
pub record Leads (granule : ℕ) (new : Gpi) (runs leading : List Run) : Type 0 where
  pub covers : Covers (granule + 1) (then_one granule (gpi_after gpi.Any runs) new) leading
  pub last : last_gpi None leading ≡ Some new

-- runs up to that of a granule, which has another GPI than new
pub record Reaches (granule : ℕ) (new : Gpi) (runs : List Run) : Type 0 where
  pub begins : BeginAtZero (granule + 1) runs
  pub apart : AreApart 0 None (granule + 1) runs
  pub other : last_gpi None runs ≢ Some new
