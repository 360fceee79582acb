use Rattle.std.proofs.Common.{◌≡◌, ◌/◌, sym, ap, subst}
use Rattle.gpt_descriptors.specs.Sizes.{granule_bytes, space_granules}
use Rattle.region_plan.specs.PlanData.{PlanData}
use Rattle.region_plan.specs.Regions.{region_map}
use Rattle.region_plan.proofs.LayingLemmas.{granule_inside, mapped_at, mapped_length}
use Rattle.region_plan.proofs.planning.Plan.gpi.Goals as goal

pub get-requires : goal.get-requires
get-requires c =
    let same : c.args.self.now.setup ≡ c.self.inside.setup = sym (ap (λ (p : PlanData). p.setup) c.self.view_is) in
    let size = mapped_length (region_map c.self.inside.setup c.self.inside.regions.items) (space_granules c.self.inside.setup) c.self.inside.map c.self.invariant.gpis_are in
    rw (c.granule_bytes.ensures.value, size) (granule_inside c.self.inside.setup c.args.pa (rw same at c.requires))

pub returns : goal.returns
returns c =
    let same : c.args.self.now.setup ≡ c.self.inside.setup = sym (ap (λ (p : PlanData). p.setup) c.self.view_is) in
    let here = granule_inside c.self.inside.setup c.args.pa (rw same at c.requires) in
    let read = rw c.granule_bytes.ensures.value at c.get.ensures in
    subst (λ (p : PlanData). c.get.result ≡ region_map p.setup p.regions (c.args.pa / granule_bytes p.setup)) c.self.view_is
    (mapped_at (region_map c.self.inside.setup c.self.inside.regions.items) (space_granules c.self.inside.setup) (c.args.pa / granule_bytes c.self.inside.setup)
    c.self.inside.map c.get.result c.self.invariant.gpis_are here read)
