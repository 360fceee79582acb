use Rattle.std.proofs.Common.{◌∙◌}
use Rattle.gpi_values.specs.declared.gpi.Gpi.TheVariants as gpi
use Rattle.region_plan.specs.InnerRuns.{then_one}
use Rattle.region_plan.proofs.RunLemmas.{covers_none, covered_runs, covered_map, any_everywhere}
use Rattle.region_plan.proofs.run_map.RunMap.new.Goals as goal

pub invariant_of-result : goal.invariant_of-result
invariant_of-result c =
    let covers = c.in_ok-add_granules.ensures (λ _. gpi.Any) (rw c.new-runs.ensures.items (covers_none (λ _. gpi.Any))) in
    covered_runs c.args.granules (then_one 0 (λ _. gpi.Any) gpi.Any) c.add_granules.new.runs.items covers

pub returns : goal.returns
returns c =
    let covers = c.in_ok-add_granules.ensures (λ _. gpi.Any) (rw c.new-runs.ensures.items (covers_none (λ _. gpi.Any))) in
    covered_map c.args.granules (then_one 0 (λ _. gpi.Any) gpi.Any) c.add_granules.new.runs.items covers ∙ any_everywhere c.args.granules
