use Rattle.shatter.proofs.WordLemmas.{next_in_order}
use Rattle.shatter.proofs.law.stores_are_in_order.Goals as goal

pub returns : goal.returns
returns c = next_in_order
