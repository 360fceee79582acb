-- A map from granule to GPI as its maximal runs: granules of one GPI in a row.
use Rattle.std.specs.Prelude.{◌≡◌, ◌≢◌, ◌<◌, ◌≤◌, ℕ, ◌+◌, List, [], ◌∷◌, length, map, Option, Some, None, nat_le, if◌then◌else◌}
use Rattle.std.specs.List.{range_with_len}
use Rattle.gpi_values.specs.declared.gpi.Gpi.{Gpi}
use Rattle.gpi_values.specs.declared.gpi.Gpi.TheVariants as gpi
use Rattle.region_plan.specs.declared.run_map.Run.{Run}

-- the GPI of granule g: that of the last run that begins at it or before it, and d where none does
abbrev pub gpi_after : Gpi → List Run → ℕ → Gpi
gpi_after d [] g = d
gpi_after d (run ∷ runs) g = gpi_after (if nat_le run.first g then run.gpi else d) runs g

-- the map of the granules below the end, by runs
abbrev pub runs_map : ℕ → List Run → List Gpi
runs_map end runs = map (gpi_after gpi.Any runs) (range_with_len 0 end)

-- the first run begins at granule 0; a map without granules has no run
abbrev pub BeginAtZero : ℕ → List Run → Type 0
BeginAtZero end [] = end ≡ 0
BeginAtZero end (run ∷ runs) = run.first ≡ 0

-- runs that rise, from granule n on and before the end, each of another GPI than the one before it
abbrev pub AreApart : ℕ → Option Gpi → ℕ → List Run → Type 0
AreApart n before end [] = Unit {0}
AreApart n before end (run ∷ runs) =
    (n ≤ run.first) × (run.first < end) × (before ≢ Some run.gpi)
    × AreApart (run.first + 1) (Some run.gpi) end runs

-- runs of the granules below the end, of which none could be longer
pub record AreRuns (end : ℕ) (runs : List Run) : Type 0 where
  pub begins : BeginAtZero end runs
  pub apart : AreApart 0 None end runs

-- The maximal runs of a map, in rising order.
pub record AreMaximalRuns (gpis : List Gpi) (runs : List Run) : Type 0 where
  pub longest : AreRuns (length gpis) runs
  pub covers : gpis ≡ runs_map (length gpis) runs
