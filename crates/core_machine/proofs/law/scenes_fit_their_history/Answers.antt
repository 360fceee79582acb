use Rattle.core_machine.proofs.MomentLemmas.{scenes_begin, fresh_are_made, acts_go_on, scenes_fit}
use Rattle.core_machine.proofs.law.scenes_fit_their_history.Goals as goal

pub returns-clause-begin : goal.returns-clause-begin
returns-clause-begin c = scenes_begin

pub returns-clause-made : goal.returns-clause-made
returns-clause-made c = fresh_are_made

pub returns-clause-goes_on : goal.returns-clause-goes_on
returns-clause-goes_on c = acts_go_on

pub returns-clause-fits : goal.returns-clause-fits
returns-clause-fits c = scenes_fit
