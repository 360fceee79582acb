use Rattle.delegate_ops.proofs.ScriptLemmas.{fresh_walked, step_walks}
use Rattle.delegate_ops.proofs.FollowLemmas.{walked_follows, walked_ended}
use Rattle.delegate_ops.proofs.script.agents_follow_their_script.Goals as goal

pub returns : goal.returns
returns c = record { start = fresh_walked; step = step_walks; follows = walked_follows; ended = walked_ended }
