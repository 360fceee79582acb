use Rattle.core_machine.proofs.LawLemmas.{one_act}
use Rattle.core_machine.proofs.law.one_act_keeps.Goals as goal

pub returns : goal.returns
returns c = one_act
