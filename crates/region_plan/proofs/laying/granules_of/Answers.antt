use Rattle.region_plan.proofs.LayingLemmas.{region_end}
use Rattle.region_plan.proofs.laying.granules_of.Goals as goal

pub returns-clause-high : goal.returns-clause-high
returns-clause-high c = rw c.granule_bytes-bytes.ensures.value (region_end c.args.setup.now c.args.region.now c.requires)
