use Rattle.std.proofs.Common.{◌≤◌, ◌+◌, ◌++◌, ◌∷◌, [], take, get_or, ◌∙◌, arith}
use Rattle.std.specs.List.Sorted.{IsPermutation}
use Rattle.std.proofs.lemmas.List.{take_more, take_all}
use Rattle.gpi_values.specs.declared.gpi.Gpi.TheVariants as gpi
use Rattle.gpt_descriptors.specs.Sizes.{space_granules}
use Rattle.region_plan.specs.declared.region.Kind.TheVariants as kind
use Rattle.region_plan.specs.declared.region.Region.{Region}
use Rattle.region_plan.specs.Regions.{first_granule, granule_count, region_map}
use Rattle.region_plan.specs.InnerRuns.{then_one}
use Rattle.region_plan.proofs.LayingLemmas.{laid_more, map_more, covers_alike, all_inside, laid_apart, laid_is_map}
use Rattle.region_plan.proofs.RunLemmas.{covered_runs}
use Rattle.region_plan.proofs.laying.lay.Goals as goal

pub granules_of-first-requires : goal.granules_of-first-requires
granules_of-first-requires c =
    let moved : IsPermutation c.args.regions.now c.deref-region-items.result.now = rw c.deref-region-items.ensures.value c.in_ok-sorted.ensures in
    all_inside c.args.setup.now c.args.regions.now c.deref-region-items.result.now c.requires moved c.loop-region.region-index _ c.loop-region-test.true

pub loop-region-preserved : goal.loop-region-preserved
loop-region-preserved c =
    let s = c.args.setup.now in
    let items = c.deref-region-items.result.now in
    let xs = take c.loop-region.region-index items in
    let none : Region = record { base = 0; size = 0; kind = kind.Block; gpi = gpi.NoAccess } in
    let r = get_or items c.loop-region.region-index none in
    let le : c.loop-region.at ≤ first_granule s r = omega (arith, c.granules_of-first.ensures.first, c.if-first-at.false) in
    let before = c.in_ok-add_granules.ensures (region_map s xs) c.loop-region.invariant.covers in
    let region = c.in_ok-add_granules-2.ensures (then_one c.loop-region.at (region_map s xs) gpi.Any) before in
    let there = rw (c.granules_of-first.ensures.first, c.granules_of-first.ensures.end) at region in
    rw (take_more items c.loop-region.region-index none c.loop-region-test.true) (record {
      low = rw c.space_granules-size.ensures.value c.granules_of-first.ensures.high;
      laid = rw c.granules_of-first.ensures.end (laid_more s c.loop-region.at xs r le c.loop-region.invariant.laid);
      covers = rw c.granules_of-first.ensures.end (
          covers_alike (first_granule s r + granule_count s r) (then_one (first_granule s r) (then_one c.loop-region.at (region_map s xs) gpi.Any) r.gpi) (region_map s (take c.loop-region.region-index items ++ r ∷ []))
          c.add_granules-in-loop-region.new.runs.items (λ g lt. map_more s c.loop-region.at g xs r le c.loop-region.invariant.laid lt) there);
    })

pub of_runs-requires : goal.of_runs-requires
of_runs-requires c =
    let f = region_map c.args.setup.now (take c.loop-region.region-index c.deref-region-items.result.now) in
    covered_runs c.space_granules-size.result (then_one c.loop-region.at f gpi.Any) c.add_granules-2.new.runs.items
    (c.in_ok-add_granules-3.ensures f c.loop-region.invariant.covers)

pub returns-clause-apart : goal.returns-clause-apart
returns-clause-apart c =
    let moved : IsPermutation c.args.regions.now c.deref-region-items.result.now = rw c.deref-region-items.ensures.value c.in_ok-sorted.ensures in
    laid_apart c.args.setup.now c.loop-region.at c.args.regions.now c.deref-region-items.result.now c.requires moved
    (rw (take_all c.loop-region.region-index c.deref-region-items.result.now c.loop-region-test.false) at c.loop-region.invariant.laid)

pub returns-clause-map : goal.returns-clause-map
returns-clause-map c =
    let items = c.deref-region-items.result.now in
    let all = take_all c.loop-region.region-index items c.loop-region-test.false in
    let moved : IsPermutation c.args.regions.now items = rw c.deref-region-items.ensures.value c.in_ok-sorted.ensures in
    let covers = c.in_ok-add_granules-3.ensures (region_map c.args.setup.now items) (rw all at c.loop-region.invariant.covers) in
    c.of_runs.ensures
    ∙ rw c.space_granules-size.ensures.value (
    laid_is_map c.args.setup.now c.loop-region.at (space_granules c.args.setup.now) c.args.regions.now items c.add_granules-2.new.runs.items moved
    (rw all at c.loop-region.invariant.laid) (rw c.space_granules-size.ensures.value at covers))
