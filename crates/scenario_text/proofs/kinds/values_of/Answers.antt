use Rattle.scenario_text.proofs.kinds.values_of.Goals as goal

pub returns-in-Region-clause-read : goal.returns-in-Region-clause-read
returns-in-Region-clause-read c = rw c.in-Region.is c.row-in-Region.ensures.read

pub returns-in-Look-clause-read : goal.returns-in-Look-clause-read
returns-in-Look-clause-read c = rw c.in-Look.is c.row-in-Look.ensures.read
