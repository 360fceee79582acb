use Rattle.core_machine.proofs.LawLemmas.{acts_have_places}
use Rattle.core_machine.proofs.CallerLaws.{acts_keep, agents_go_on}
use Rattle.core_machine.proofs.law.callers_keep_to_their_words.Goals as goal

pub returns-clause-places : goal.returns-clause-places
returns-clause-places c = acts_have_places

pub returns-clause-kept : goal.returns-clause-kept
returns-clause-kept c = acts_keep

pub returns-clause-next : goal.returns-clause-next
returns-clause-next c = agents_go_on
