use Rattle.scenario_text.proofs.Texts.{read_text, read_only, read_fault}
use Rattle.scenario_text.proofs.parsing.parse.Goals as goal

pub returns-clause-text : goal.returns-clause-text
returns-clause-text c = read_text c.args.bytes.now c.scenario.result c.scenario.ensures

pub returns-clause-only : goal.returns-clause-only
returns-clause-only c = read_only c.args.bytes.now c.scenario.result c.scenario.ensures

pub returns-clause-fault : goal.returns-clause-fault
returns-clause-fault c = read_fault c.args.bytes.now c.scenario.result c.scenario.ensures
