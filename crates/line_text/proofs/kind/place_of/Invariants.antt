use Rattle.std.proofs.Common.{◌-◌, length}
use Rattle.line_text.specs.InnerRows.{IsPastNames, names_in}
use Rattle.line_text.proofs.kind.place_of.Given as goal

abbrev pub invariant-loop-k : goal.invariant-loop-k
invariant-loop-k l = IsPastNames l.field (names_in l.names) l.k

abbrev pub decreases-loop-k : goal.decreases-loop-k
decreases-loop-k l = length l.names - l.k
