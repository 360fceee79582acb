use Rattle.std.proofs.Common.{◌≡◌, ◌≤◌, ◌<◌, ℕ, take}
use Rattle.std.specs.List.{find}
use Rattle.region_plan.specs.Regions.{is_in}
use Rattle.plain_tables_tests.proofs.plain.run_end.Given as goal

abbrev pub invariant-loop-region : goal.invariant-loop-region
invariant-loop-region l = record {
  ahead : l.granule < l.next;
  bound : l.next ≤ l.end;
  same : (k : ℕ) → l.granule ≤ k → k < l.next → find (is_in l.setup k) (take l.region-index l.regions) ≡ find (is_in l.setup l.granule) (take l.region-index l.regions);
}
