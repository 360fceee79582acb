use Rattle.std.proofs.Common.{◌-◌, length}
use Rattle.line_text.specs.InnerRows.{IsPast}
use Rattle.line_text.proofs.cutting.position_of.Given as goal

abbrev pub invariant-loop-k : goal.invariant-loop-k
invariant-loop-k l = IsPast l.at l.text l.k

abbrev pub decreases-loop-k : goal.decreases-loop-k
decreases-loop-k l = length l.text - l.k
