use Rattle.std.proofs.Common.{◌≡◌, ◌≤◌, ◌++◌, ◌*◌, ◌-◌}
use Rattle.table_build.specs.Built.{granules_words}
use Rattle.table_build.specs.InnerReading.{IsAt}
use Rattle.table_build.proofs.blocks.push_granules.Given as goal

abbrev pub invariant-loop-w : goal.invariant-loop-w
invariant-loop-w l = record {
  low : l.b * l.words ≤ l.w;
  high : l.w ≤ l.end;
  words : l.out.items ≡ l.initial.out.items ++ granules_words l.plan.setup l.plan.regions (l.b * l.words) (l.w - l.b * l.words);
  at : IsAt l.plan.setup l.plan.regions l.w l.cursor;
}

abbrev pub decreases-loop-w : goal.decreases-loop-w
decreases-loop-w l = l.end - l.w
