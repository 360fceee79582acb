use Rattle.std.proofs.Common.{◌≡◌, ◌≤◌, ◌-◌, ◌++◌, length, take, drop}
use Rattle.history.specs.States.{without}
use Rattle.history.proofs.replay.close.Given as goal

abbrev pub invariant-loop-at : goal.invariant-loop-at
invariant-loop-at l = record {
  within : l.at ≤ length l.opened.items;
  kept : take l.at l.opened.items ++ without l.granule (drop l.at l.opened.items) ≡ without l.granule l.initial.opened.items;
}

abbrev pub decreases-loop-at : goal.decreases-loop-at
decreases-loop-at l = length l.opened.items - l.at
