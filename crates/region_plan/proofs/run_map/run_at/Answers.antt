use Rattle.std.proofs.Common.{leb, rules, ◌<◌}
use Rattle.std.proofs.lemmas.List.Sorted.{IsPartitionPoint-from_clause, IsPartitionedBy-leb}
use Rattle.region_plan.specs.declared.run_map.Run.{Run}
use Rattle.region_plan.proofs.RunLemmas.{firsts_rise, some_run, run_found}
use Rattle.region_plan.proofs.run_map.run_at.Goals as goal

pub overflow_sub-result : goal.overflow_sub-result
overflow_sub-result c =
    let parted = IsPartitionedBy-leb (λ (x : Run). x.first) _ c.args.granule (firsts_rise _ _ _ _ c.requires.1.apart) in
    let point = IsPartitionPoint-from_clause (λ (x : Run). leb x.first c.args.granule) _ _ c.partition_point.ensures.partitioned parted (λ a r q k. search rules) in
    some_run c.requires.0 c.args.granule c.partition_point.result c.args.runs.now c.requires.1 c.requires.2 point

pub returns : goal.returns
returns c =
    let parted = IsPartitionedBy-leb (λ (x : Run). x.first) _ c.args.granule (firsts_rise _ _ _ _ c.requires.1.apart) in
    let point = IsPartitionPoint-from_clause (λ (x : Run). leb x.first c.args.granule) _ _ c.partition_point.ensures.partitioned parted (λ a r q k. search rules) in
    let some : 0 < c.partition_point.result = some_run c.requires.0 c.args.granule c.partition_point.result c.args.runs.now c.requires.1 c.requires.2 point in
    run_found c.args.granule c.partition_point.result c.args.runs.now c.partition_point.ensures.bound some point
