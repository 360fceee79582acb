use Rattle.std.proofs.Common.{◌≡◌, ◌≤◌, length, drop, arith}
use Rattle.std.proofs.lemmas.List.{take_rest}
use Rattle.region_plan.specs.InnerRuns.{begin_of}
use Rattle.region_plan.proofs.RunLemmas.{follows_inserted, follows_removed}
use Rattle.region_plan.proofs.run_map.part_after.Goals as goal

pub returns-then-granule-begin_of-clause-follows : goal.returns-then-granule-begin_of-clause-follows
returns-then-granule-begin_of-clause-follows c =
    let items = c.args.runs.now.items in
    let place : c.args.next ≤ length items = omega (arith, c.requires.place, c.args.runs.now.ok.0) in
    let begin : c.begin_of.result ≡ begin_of c.args.size (drop c.args.next items) = rw (c.deref.ensures.value, take_rest items c.args.next) at c.begin_of.ensures in
    rw c.insert_run.ensures.items (
    follows_inserted c.args.granule c.args.size c.args.next c.args.own c.args.new items place c.requires.other (omega (arith, begin)) c.requires.inside c.requires.apart)

pub returns-then-begins_with-clause-follows : goal.returns-then-begins_with-clause-follows
returns-then-begins_with-clause-follows c =
    let items = c.args.runs.now.items in
    let place : c.args.next ≤ length items = omega (arith, c.requires.place, c.args.runs.now.ok.0) in
    let begin : c.begin_of.result ≡ begin_of c.args.size (drop c.args.next items) = rw (c.deref.ensures.value, take_rest items c.args.next) at c.begin_of.ensures in
    let given = rw (c.deref-else-granule-begin_of.ensures.value, take_rest items c.args.next) at c.begins_with.ensures in
    rw c.remove.ensures.items (
    follows_removed c.args.granule c.args.size c.args.next c.args.own c.args.new items place (given.0 c.if-begins_with.true) (omega (arith, begin)) c.requires.apart)
