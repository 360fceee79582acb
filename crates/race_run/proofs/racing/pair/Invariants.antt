use Rattle.std.proofs.Common.{◌≡◌, ◌+◌, ◌≤◌, ◌++◌, map, length}
use Rattle.std.specs.Prelude.{vec_capacity}
use Rattle.std.specs.Vec.Iter.{into_iter_items}
use Rattle.race_run.specs.InnerRunners.{caller_in, pass_in}
use Rattle.race_run.proofs.racing.pair.Given as goal

abbrev pub invariant-loop-caller : goal.invariant-loop-caller
invariant-loop-caller l =
    (map caller_in l.runners.items ++ into_iter_items l.caller-iterator ≡ into_iter_items l.initial.caller-iterator)
    × (map pass_in l.runners.items ++ into_iter_items l.passes ≡ into_iter_items l.initial.passes)
    × (length (into_iter_items l.passes) ≡ length (into_iter_items l.caller-iterator))
    × (length l.runners.items + length (into_iter_items l.caller-iterator) ≤ vec_capacity l.runners)
