use Rattle.std.proofs.Common.{◌≡◌, ◌+◌, ◌*◌, ◌-◌}
use Rattle.gpt_descriptors.specs.Entries.{packed}
use Rattle.region_plan.specs.Regions.{region_map}
use Rattle.table_build.proofs.blocks.mixed_word.Given as goal

abbrev pub invariant-loop-step : goal.invariant-loop-step
invariant-loop-step l = l.word ≡ packed (region_map l.plan.setup l.plan.regions) (16 * l.w + (16 - l.step)) l.step
