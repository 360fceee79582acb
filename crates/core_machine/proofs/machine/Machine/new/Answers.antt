use Rattle.core_machine.proofs.machine.Machine.new.Goals as goal
use Rattle.core_machine.proofs.OpeningLemmas.{opening_invariant}

pub returns-clause-invariant : goal.returns-clause-invariant
returns-clause-invariant g c = λ first starting. opening_invariant c.args.geometry first c.args.callers.items (g.W.Words.words c.args.words) c.requires.fresh c.requires.numbers starting
