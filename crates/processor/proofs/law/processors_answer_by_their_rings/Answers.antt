use Rattle.processor.proofs.RingLemmas.{walked_ringed, follows_ringed}
use Rattle.processor.proofs.law.processors_answer_by_their_rings.Goals as goal

pub returns : goal.returns
returns c = record { walked = walked_ringed; follows = follows_ringed }
