use Rattle.scenario_text.proofs.Texts as texts
use Rattle.scenario_text.proofs.laws.texts_are_exact.Goals as goal

pub returns-clause-read : goal.returns-clause-read
returns-clause-read c = texts.read

pub returns-clause-good : goal.returns-clause-good
returns-clause-good c = texts.good

pub returns-clause-one : goal.returns-clause-one
returns-clause-one c = texts.one
