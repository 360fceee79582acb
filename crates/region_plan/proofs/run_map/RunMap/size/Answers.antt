use Rattle.region_plan.proofs.RunLemmas.{runs_length}
use Rattle.region_plan.proofs.run_map.RunMap.size.Goals as goal

pub returns : goal.returns
returns c = cc (runs_length c.self.inside.size c.self.inside.runs.items)
