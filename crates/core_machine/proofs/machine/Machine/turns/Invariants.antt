use Rattle.std.proofs.Common.{◌≡◌, ◌-◌, ◌≤◌, replicate}
use Rattle.core_machine.specs.InnerMachine.{after_turns}
use Rattle.core_machine.proofs.machine.Machine.turns.Given as goal

abbrev pub invariant-loop-made : goal.invariant-loop-made
invariant-loop-made g l = (l.self ≡ after_turns l.initial.self (replicate l.made l.caller)) × (l.made ≤ l.count)

abbrev pub decreases-loop-made : goal.decreases-loop-made
decreases-loop-made g l = l.count - l.made
