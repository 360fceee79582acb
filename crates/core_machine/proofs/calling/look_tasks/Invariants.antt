use Rattle.std.proofs.Common.{◌≡◌, map, take}
use Rattle.core_machine.proofs.calling.look_tasks.Given as goal
use Rattle.core_machine.specs.Scenarios.{task_of_look}

abbrev pub invariant-loop-look : goal.invariant-loop-look
invariant-loop-look l = l.tasks.items ≡ map task_of_look (take l.look-index l.looks)
