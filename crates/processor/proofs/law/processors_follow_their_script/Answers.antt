use Rattle.processor.proofs.ScriptLemmas.{fresh_walked, step_walks}
use Rattle.processor.proofs.FollowLemmas.{walked_follows, cpu_ended}
use Rattle.processor.proofs.law.processors_follow_their_script.Goals as goal

pub returns : goal.returns
returns c = record { start = fresh_walked; step = step_walks; follows = walked_follows; ended = cpu_ended }
