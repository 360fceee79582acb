use Rattle.std.proofs.Common.{length}
use Rattle.scenario_text.specs.InnerDrafts.{data_of}
use Rattle.scenario_text.proofs.Loop.{Going}
use Rattle.scenario_text.proofs.parsing.scenario.Given as goal

abbrev pub invariant-loop-line : goal.invariant-loop-line
invariant-loop-line l = Going l.bytes l.number l.rest l.context (data_of l.draft)

abbrev pub decreases-loop-line : goal.decreases-loop-line
decreases-loop-line l = length l.rest
