use Rattle.std.proofs.Common.{◌≡◌, ◌*◌}
use Rattle.std.specs.List.{flat_map}
use Rattle.gpt_descriptors.specs.Sizes.{table_words}
use Rattle.region_plan.specs.Regions.{tabled_below}
use Rattle.table_build.specs.Built.{table_of}
use Rattle.table_build.specs.InnerReading.{IsAt}
use Rattle.table_build.proofs.building.level1.Given as goal

abbrev pub invariant-loop-q : goal.invariant-loop-q
invariant-loop-q l = record {
  words : l.words.items ≡ flat_map (table_of l.plan.setup l.plan.regions) (tabled_below l.plan.regions l.q);
  at : IsAt l.plan.setup l.plan.regions (l.q * table_words l.plan.setup) l.cursor;
}
