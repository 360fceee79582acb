use Rattle.gpt_cli.proofs.ReplyLemmas.{races_prepared, races_refused, raced_status}
use Rattle.gpt_cli.proofs.raced.reply_to_race.Goals as goal

pub returns-in-Ok-clause-replies : goal.returns-in-Ok-clause-replies
returns-in-Ok-clause-replies g c =
    races_prepared c.args.bytes.items c.in-Ok.prepared.scenario c.reply_to_prepared_race.result c.in-Ok.ensures.scenario c.in-Ok.ensures.prepared.accepted c.reply_to_prepared_race.ensures

pub returns-in-Ok-clause-status : goal.returns-in-Ok-clause-status
returns-in-Ok-clause-status g c = raced_status c.in-Ok.prepared.scenario c.reply_to_prepared_race.result c.reply_to_prepared_race.ensures

pub returns-in-Err-clause-replies : goal.returns-in-Err-clause-replies
returns-in-Err-clause-replies g c = races_refused c.args.bytes.items c.in-Err.refusal c.refusal_text.result c.in-Err.ensures.refused c.refusal_text.ensures.reply c.refusal_text.ensures.rule
