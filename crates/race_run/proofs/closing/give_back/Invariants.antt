use Rattle.std.proofs.Common.{◌≡◌, ◌≤◌, take, length}
use Rattle.std.specs.Prelude.{vec_capacity}
use Rattle.std.specs.Slots.{slots_items}
use Rattle.race_run.proofs.closing.give_back.Given as goal

abbrev pub invariant-loop-place : goal.invariant-loop-place
invariant-loop-place l =
    (l.words.items ≡ take l.place (slots_items l.closed.words))
    × (length l.words.items ≡ l.place)
    × (l.count ≤ vec_capacity l.words)
