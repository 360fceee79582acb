use Rattle.processor.proofs.FollowLemmas.{call_few, under_way_few}
use Rattle.processor.proofs.law.accesses_make_nine_acts.Goals as goal

pub returns : goal.returns
returns c = record { answered = call_few; under_way = under_way_few }
