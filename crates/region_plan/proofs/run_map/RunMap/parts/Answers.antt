use Rattle.std.proofs.Common.{sym}
use Rattle.region_plan.proofs.RunLemmas.{maximal}
use Rattle.region_plan.proofs.run_map.RunMap.parts.Goals as goal

pub returns : goal.returns
returns c = rw (c.as_slice.ensures.value, sym c.self.view_is) (maximal c.self.inside.size c.self.inside.runs.items c.self.invariant)
