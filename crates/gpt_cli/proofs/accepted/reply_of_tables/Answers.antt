use Rattle.gpt_cli.proofs.AcceptedLemmas.{tables_mean}
use Rattle.gpt_cli.proofs.accepted.reply_of_tables.Goals as goal

pub returns-clause-upholds : goal.returns-clause-upholds
returns-clause-upholds c = tables_mean c.args.prepared.now.scenario
