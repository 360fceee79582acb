use Rattle.std.proofs.Common.{rules}
use Rattle.gpt_cli.proofs.ReplyLemmas.{loaded_replies, played_status}
use Rattle.gpt_cli.proofs.loaded.reply_to_load.Goals as goal

pub returns-clause-replies : goal.returns-clause-replies
returns-clause-replies c =
    loaded_replies c.args.number c.in_ok-scenario.scenario c.in_ok-outcome.outcome _ c.in_ok-scenario.ensures.scenario c.in_ok-outcome.ensures.trace (search rules)
    (record { planned = c.in_ok-scenario.ensures.planned; based = c.in_ok-scenario.ensures.based }) c.in_ok-outcome.ensures.run

pub returns-clause-status : goal.returns-clause-status
returns-clause-status c = rw c.run_status.ensures (played_status c.in_ok-scenario.scenario c.in_ok-outcome.outcome)
