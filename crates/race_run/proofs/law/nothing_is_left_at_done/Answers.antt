use Rattle.race_run.proofs.NothingLeftLemmas.{cleaned_is_nothing_left, nothing_is_left, nothing_stays}
use Rattle.race_run.proofs.law.nothing_is_left_at_done.Goals as goal

pub returns-clause-done : goal.returns-clause-done
returns-clause-done c = nothing_is_left

pub returns-clause-settled : goal.returns-clause-settled
returns-clause-settled c = cleaned_is_nothing_left

pub returns-clause-stays : goal.returns-clause-stays
returns-clause-stays c = nothing_stays
