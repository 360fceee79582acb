use Rattle.std.proofs.Common.{◌≤◌, take}
use Rattle.region_plan.specs.Regions.{region_map}
use Rattle.region_plan.specs.InnerRuns.{Covers}
use Rattle.region_plan.proofs.LayingLemmas.{Laid}
use Rattle.region_plan.proofs.laying.lay.Given as goal

abbrev pub invariant-loop-region : goal.invariant-loop-region
invariant-loop-region l = record {
  low : l.at ≤ l.size;
  laid : Laid l.setup l.at (take l.region-index l.region-items);
  covers : Covers l.at (region_map l.setup (take l.region-index l.region-items)) l.runs.items;
}
