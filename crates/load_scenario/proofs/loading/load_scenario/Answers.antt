use Rattle.load_scenario.proofs.FormLemmas.{scenario_is, formed, planned, based}
use Rattle.load_scenario.proofs.loading.load_scenario.Goals as goal

pub returns-clause-scenario : goal.returns-clause-scenario
returns-clause-scenario c =
    scenario_is c.args.number _ _ _ _ c.load_setup.ensures c.in_ok-load_regions.ensures c.in_ok-load_scripts.ensures c.in_ok-load_schedule.ensures

pub returns-clause-formed : goal.returns-clause-formed
returns-clause-formed c = formed c.args.number _ (returns-clause-scenario c)

pub returns-clause-planned : goal.returns-clause-planned
returns-clause-planned c = planned c.args.number _ (returns-clause-scenario c)

pub returns-clause-based : goal.returns-clause-based
returns-clause-based c = based c.args.number _ (returns-clause-scenario c)
