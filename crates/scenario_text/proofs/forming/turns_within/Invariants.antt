-- the turns so far and those of the rest are all the turns
use Rattle.std.proofs.Common.{◌≡◌, ◌+◌, ◌≤◌, drop, sum_by}
use Rattle.scenario_text.specs.Spelling.{turns_of, turn_limit}
use Rattle.scenario_text.proofs.forming.turns_within.Given as goal

abbrev pub invariant-loop-slot : goal.invariant-loop-slot
invariant-loop-slot l =
    (l.sum ≤ turn_limit)
    × (l.sum + sum_by (turns_of l.callers) (drop l.slot-index l.schedule) ≡ sum_by (turns_of l.callers) l.schedule)
