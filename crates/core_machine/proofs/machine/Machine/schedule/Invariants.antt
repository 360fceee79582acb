use Rattle.std.proofs.Common.{◌≡◌, length, take}
use Rattle.std.specs.List.{flat_map}
use Rattle.core_machine.specs.InnerMachine.{after_turns}
use Rattle.core_machine.proofs.machine.Machine.schedule.Given as goal
use Rattle.core_machine.specs.Scenarios.{slot_turns}

abbrev pub invariant-loop-slot : goal.invariant-loop-slot
invariant-loop-slot g l = l.self ≡ after_turns l.initial.self (flat_map (slot_turns (length l.initial.self.callers)) (take l.slot-index l.schedule))
