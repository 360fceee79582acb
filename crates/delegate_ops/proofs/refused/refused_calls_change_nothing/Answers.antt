use Rattle.delegate_ops.proofs.QuietLemmas.{refused_quiet, call_unlocks}
use Rattle.delegate_ops.proofs.refused.refused_calls_change_nothing.Goals as goal

pub returns : goal.returns
returns c = record { quiet = refused_quiet; unlocks = call_unlocks }
