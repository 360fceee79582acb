use Rattle.std.proofs.Common.{◌≡◌, List, length, ◌∙◌}
use Rattle.gpi_values.specs.declared.gpi.Gpi.{Gpi}
use Rattle.gpt_descriptors.specs.Sizes.{space_granules}
use Rattle.region_plan.specs.Regions.{region_map}
use Rattle.region_plan.proofs.LayingLemmas.{ok_then, mapped_length}
use Rattle.region_plan.proofs.run_map.RunMap.of.Goals as goal

pub returns-clause-size : goal.returns-clause-size
returns-clause-size c =
    ok_then c.copy.result (λ (m : List Gpi). m ≡ c.map.result.now) (λ (m : List Gpi). length m ≡ space_granules c.args.plan.now.setup) c.copy.ensures
    (λ m e. mapped_length (region_map c.args.plan.now.setup c.args.plan.now.regions) (space_granules c.args.plan.now.setup) m (e ∙ c.map.ensures))
