use Rattle.std.proofs.Common.{◌≡◌, [], Some, length}
use Rattle.race_run.specs.InnerRule.{AreOf, joined_back}
use Rattle.race_run.proofs.field.Field.join.Given as goal

abbrev pub invariant-loop-pass : goal.invariant-loop-pass
invariant-loop-pass l =
    (l.seat.table_id ≡ l.fn.seat.table_id)
    × (l.seat.id ≡ l.fn.seat.id)
    × (l.seat.me.1 ≡ [])
    × (l.seat.me.0.opening ≡ Some l.self.opening)
    × AreOf l.self l.passes.items
    × (joined_back l.seat.me.0 l.passes.items ≡ joined_back l.fn.seat.me.0 l.fn.passes.items)

abbrev pub decreases-loop-pass : goal.decreases-loop-pass
decreases-loop-pass l = length l.passes.items
