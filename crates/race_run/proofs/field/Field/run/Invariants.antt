use Rattle.std.proofs.Common.{◌≡◌, ◌++◌, ℕ, List}
use Rattle.history.specs.declared.entry.Entry.{Entry}
use Rattle.race_run.specs.Passes.{IsPassOf}
use Rattle.race_run.proofs.field.Field.run.Given as goal

abbrev pub invariant-loop : goal.invariant-loop
invariant-loop g l =
    ((c : ℕ) → IsPassOf l.fn.self l.fn.pass c l.fn.caller → IsPassOf l.self l.pass c l.caller)
    × (l.pass.id ≡ l.fn.pass.id)
    × (l.pass.number ≡ l.fn.pass.number)
    × ((rest : List Entry) × (l.pass.view.seen ≡ l.fn.pass.view.seen ++ rest))
