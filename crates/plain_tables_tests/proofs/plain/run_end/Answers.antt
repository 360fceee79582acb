use Rattle.std.proofs.Common.{arith}
use Rattle.region_plan.specs.Regions.{is_in}
use Rattle.region_plan.proofs.PlanLemmas.{find_more, map_same}
use Rattle.plain_tables_tests.proofs.plain.run_end.Goals as goal

pub loop-region-preserved : goal.loop-region-preserved
loop-region-preserved c = record {
  ahead = c.next_edge-next.ensures.ahead;
  bound = omega (arith, c.next_edge-next.ensures.bound);
  same = λ k low high.
      find_more (is_in c.args.setup.now k) (is_in c.args.setup.now c.args.granule) c.args.regions.now c.loop-region.region-index _ c.loop-region-test.true
      (c.loop-region.invariant.same k low (omega (arith, c.next_edge-next.ensures.bound))) (c.next_edge-next.ensures.same k low high);
}

pub returns-clause-same : goal.returns-clause-same
returns-clause-same c = λ k low high.
    map_same c.args.setup.now c.args.regions.now c.args.granule k c.loop-region.region-index c.loop-region-test.false (c.loop-region.invariant.same k low high)
