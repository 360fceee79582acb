use Rattle.std.proofs.Common.{◌≡◌, ◌+◌, ◌++◌, drop}
use Rattle.std.specs.List.{count_by}
use Rattle.core_machine.specs.InnerPlay.{callers_from}
use Rattle.core_machine.specs.Scenarios.{is_cpu}
use Rattle.core_machine.proofs.calling.callers.Given as goal

abbrev pub invariant-loop-script : goal.invariant-loop-script
invariant-loop-script l =
    (l.callers.items ++ callers_from l.geometry l.number (drop l.script-index l.scripts) ≡ callers_from l.geometry 0 l.scripts)
    × (l.number + count_by is_cpu (drop l.script-index l.scripts) ≡ count_by is_cpu l.scripts)
