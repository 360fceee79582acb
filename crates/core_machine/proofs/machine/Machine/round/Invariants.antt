use Rattle.std.proofs.Common.{◌≡◌, false, replicate}
use Rattle.std.specs.List.{flat_map, range_with_len}
use Rattle.core_machine.specs.InnerMachine.{after_turns}
use Rattle.core_machine.proofs.machine.Machine.round.Given as goal

abbrev pub invariant-loop-caller : goal.invariant-loop-caller
invariant-loop-caller g l =
    (l.self ≡ after_turns l.initial.self (flat_map (replicate l.count) (range_with_len 0 l.caller))) × (l.changed ≡ false → l.self ≡ l.initial.self)
