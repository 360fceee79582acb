use Rattle.std.proofs.Common.{◌≡◌, ◌≤◌, ◌<◌, ◌-◌, ℕ}
use Rattle.gpi_values.specs.Values.{value_of}
use Rattle.region_plan.specs.Regions.{region_map}
use Rattle.plain_tables_tests.proofs.plain.common_gpi.Given as goal

abbrev pub invariant-loop-at : goal.invariant-loop-at
invariant-loop-at l = record {
  low : l.first ≤ l.at;
  high : l.at ≤ l.end;
  same : (k : ℕ) → l.first ≤ k → k < l.at → value_of (region_map l.setup l.regions k) ≡ value_of (region_map l.setup l.regions l.first);
}

abbrev pub decreases-loop-at : goal.decreases-loop-at
decreases-loop-at l = l.end - l.at
