use Rattle.std.proofs.Common.{◌≡◌, map, take}
use Rattle.core_machine.proofs.calling.tasks_of.Given as goal
use Rattle.core_machine.specs.Scenarios.{task_of_ask}

abbrev pub invariant-loop-ask : goal.invariant-loop-ask
invariant-loop-ask l = l.tasks.items ≡ map task_of_ask (take l.ask-index l.asks)
