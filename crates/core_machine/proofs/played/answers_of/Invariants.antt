use Rattle.std.proofs.Common.{◌≡◌, ◌+◌, ◌≤◌, ◌++◌, map, length}
use Rattle.std.specs.Prelude.{vec_capacity}
use Rattle.std.specs.Vec.Iter.{into_iter_items}
use Rattle.core_machine.specs.InnerCallers.{caller_answers}
use Rattle.core_machine.proofs.played.answers_of.Given as goal

abbrev pub invariant-loop-caller : goal.invariant-loop-caller
invariant-loop-caller l =
    (l.answers.items ++ map caller_answers (into_iter_items l.caller-iterator) ≡ map caller_answers (into_iter_items l.initial.caller-iterator))
    × (length l.answers.items + length (into_iter_items l.caller-iterator) ≤ vec_capacity l.answers)
