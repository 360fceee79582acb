use Rattle.std.proofs.Common.{◌≡◌, ◌<◌, Some, None, arith}
use Rattle.region_plan.specs.InnerRuns.{last_gpi}
use Rattle.region_plan.proofs.RunLemmas.{covers_more, covers_new, fails}
use Rattle.region_plan.proofs.run_map.add_granules.Goals as goal

pub returns-then-ends_with : goal.returns-then-ends_with
returns-then-ends_with c = λ f covers.
    let given = rw c.deref.ensures.value at c.ends_with.ensures in
    covers_more c.args.at c.args.end f c.args.gpi c.args.runs.now.items c.requires (given.0 c.if-ends_with.true) covers

pub returns : goal.returns
returns c = λ f covers.
    let lt : c.args.at < c.args.end = omega arith in
    let given = rw c.deref.ensures.value at c.ends_with.ensures in
    let other = fails c.ends_with.result (last_gpi None c.args.runs.now.items ≡ Some c.args.gpi) given.1 c.if-ends_with.false in
    rw c.in_ok-push.ensures.items (covers_new c.args.at c.args.end f c.args.gpi c.args.runs.now.items lt other covers)
