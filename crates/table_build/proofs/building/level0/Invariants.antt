use Rattle.std.proofs.Common.{◌≡◌, ◌≤◌, length, map}
use Rattle.std.specs.List.{range_with_len}
use Rattle.gpt_descriptors.specs.Entries.{l0_word}
use Rattle.region_plan.specs.Regions.{tabled_below, region_entry}
use Rattle.table_build.proofs.building.level0.Given as goal

abbrev pub invariant-loop-q : goal.invariant-loop-q
invariant-loop-q l = record {
  words : l.words.items ≡ map (λ q. l0_word (region_entry l.plan.setup l.plan.regions q)) (range_with_len 0 l.q);
  before : l.before ≡ length (tabled_below l.plan.regions l.q);
  few : l.before ≤ l.q;
}
