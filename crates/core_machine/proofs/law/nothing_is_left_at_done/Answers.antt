use Rattle.core_machine.proofs.NothingLeftLemmas.{done_is_cleaned, cleaned_has_nothing_left, cleaned_stays}
use Rattle.core_machine.proofs.law.nothing_is_left_at_done.Goals as goal

pub returns-clause-done : goal.returns-clause-done
returns-clause-done c = done_is_cleaned

pub returns-clause-settled : goal.returns-clause-settled
returns-clause-settled c = cleaned_has_nothing_left

pub returns-clause-stays : goal.returns-clause-stays
returns-clause-stays c = cleaned_stays
