use Rattle.std.proofs.Common.{◌≡◌, ◌+◌, ◌≤◌, ◌++◌, map, length}
use Rattle.std.specs.Prelude.{vec_capacity}
use Rattle.std.specs.Vec.Iter.{into_iter_items}
use Rattle.race_run.specs.InnerRunners.{caller_in, pass_in}
use Rattle.race_run.proofs.racing.part.Given as goal

abbrev pub invariant-loop-runner : goal.invariant-loop-runner
invariant-loop-runner l =
    (l.passes.items ++ map pass_in (into_iter_items l.runner-iterator) ≡ map pass_in (into_iter_items l.initial.runner-iterator))
    × (l.callers.items ++ map caller_in (into_iter_items l.runner-iterator) ≡ map caller_in (into_iter_items l.initial.runner-iterator))
    × (length l.passes.items + length (into_iter_items l.runner-iterator) ≤ vec_capacity l.passes)
    × (length l.callers.items + length (into_iter_items l.runner-iterator) ≤ vec_capacity l.callers)
