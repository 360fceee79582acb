use Rattle.gpt_cli.proofs.ReplyLemmas.{replies_prepared, replies_refused, prepared_status}
use Rattle.gpt_cli.proofs.program.reply_to.Goals as goal

pub returns-in-Ok-clause-replies : goal.returns-in-Ok-clause-replies
returns-in-Ok-clause-replies c =
    replies_prepared c.args.command c.args.bytes.items c.in-Ok.prepared.scenario c.reply_to_prepared.result c.in-Ok.ensures.scenario c.in-Ok.ensures.prepared.accepted
    c.reply_to_prepared.ensures.reply c.reply_to_prepared.ensures.upholds

pub returns-in-Ok-clause-status : goal.returns-in-Ok-clause-status
returns-in-Ok-clause-status c = prepared_status c.args.command c.in-Ok.prepared.scenario c.reply_to_prepared.result c.reply_to_prepared.ensures.reply

pub returns-in-Err-clause-replies : goal.returns-in-Err-clause-replies
returns-in-Err-clause-replies c =
    replies_refused c.args.command c.args.bytes.items c.in-Err.refusal c.refusal_text.result c.in-Err.ensures.refused c.refusal_text.ensures.reply c.refusal_text.ensures.rule
