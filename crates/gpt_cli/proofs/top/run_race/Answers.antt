use Rattle.std.proofs.Common.{rules}
use Rattle.gpt_cli.proofs.top.run_race.Goals as goal

pub returns-in-Ok-reply_to_race-clause-reply : goal.returns-in-Ok-reply_to_race-clause-reply
returns-in-Ok-reply_to_race-clause-reply g c = λ not_fault not_memory. (
  c.in-Ok.bytes.items,
  c.in-Ok-reply_to_race.reply,
  c.in-Ok.ensures.taken,
  c.in-Ok.ensures.ended,
  c.in-Ok.ensures.ok,
  c.in-Ok-reply_to_race.ensures.replies,
  search rules,
)
