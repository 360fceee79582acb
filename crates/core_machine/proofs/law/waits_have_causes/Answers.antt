use Rattle.core_machine.proofs.CallerLaws.{locks_have_holders, waits_have_causes}
use Rattle.core_machine.proofs.law.waits_have_causes.Goals as goal

pub returns-clause-locks : goal.returns-clause-locks
returns-clause-locks c = locks_have_holders

pub returns-clause-waits : goal.returns-clause-waits
returns-clause-waits c = waits_have_causes
