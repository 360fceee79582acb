use Rattle.std.proofs.Common.{◌≡◌, ◌≤◌, ◌++◌, [], map, length, drop}
use Rattle.std.specs.Prelude.{vec_capacity}
use Rattle.race_run.specs.InnerRule.{fresh_seen, numbered, seen_of, whole, with_held}
use Rattle.race_run.proofs.field.Field.deal.Given as goal

abbrev pub invariant-loop : goal.invariant-loop
invariant-loop l =
    (l.whole.table_id ≡ l.self.id)
    × (l.whole.me ≡ (with_held (whole l.self.opening) (drop l.counter (numbered 0 l.self.opening.callers)), []))
    × (map seen_of l.passes.items ++ map (fresh_seen l.self) (drop l.counter (numbered 0 l.self.opening.callers)) ≡ map (fresh_seen l.self) (numbered 0 l.self.opening.callers))
    × (length l.passes.items ≡ l.counter)
    × (l.count ≤ vec_capacity l.passes)
