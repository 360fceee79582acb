use Rattle.std.proofs.Common.{sym, ◌∙◌}
use Rattle.region_plan.proofs.PlanLemmas.{overlap_found, overlap_none}
use Rattle.region_plan.proofs.refusing.overlap.Goals as goal

pub returns-in-Some : goal.returns-in-Some
returns-in-Some c =
    sym (c.loop-i.invariant ∙ overlap_found c.args.setup.now c.args.regions.now c.loop-i.i c.in-Some.k _ c.loop-i-test.true (sym c.in-Some.ensures.first))

pub loop-i-preserved : goal.loop-i-preserved
loop-i-preserved c =
    c.loop-i.invariant ∙ overlap_none c.args.setup.now c.args.regions.now c.loop-i.i _ c.loop-i-test.true (sym c.in-None.ensures.first)
