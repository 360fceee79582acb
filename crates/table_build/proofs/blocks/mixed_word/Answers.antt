use Rattle.std.proofs.Common.{◌≡◌, ℕ, length, ◌+◌, ◌*◌, ◌-◌, sym, arith}
use Rattle.gpt_descriptors.specs.Sizes.{space_granules}
use Rattle.region_plan.specs.Regions.{region_map}
use Rattle.region_plan.proofs.LayingLemmas.{mapped_at, mapped_length}
use Rattle.gpt_descriptors.proofs.PackedLemmas.{packed-zero, packed_fits}
use Rattle.gpi_values.proofs.ValueLemmas.{value_low}
use Rattle.table_build.proofs.BlockLemmas.{packed_step}
use Rattle.table_build.proofs.blocks.mixed_word.Goals as goal

pub loop-step-init : goal.loop-step-init
loop-step-init c = sym (packed-zero (region_map c.args.plan.now.setup c.args.plan.now.regions) (16 * c.args.w + 16))

pub overflow_mul-word : goal.overflow_mul-word
overflow_mul-word c =
    omega (arith, c.loop-step.invariant, packed_fits (region_map c.args.plan.now.setup c.args.plan.now.regions) (16 * c.args.w + (16 - c.loop-step.step)) c.loop-step.step c.loop-step-test.true)

pub overflow_add-word : goal.overflow_add-word
overflow_add-word c =
    omega (arith, c.loop-step.invariant, packed_fits (region_map c.args.plan.now.setup c.args.plan.now.regions) (16 * c.args.w + (16 - c.loop-step.step)) c.loop-step.step c.loop-step-test.true, c.nibble.ensures, value_low c.get.result)

pub get-requires : goal.get-requires
get-requires c =
    let s = c.args.plan.now.setup in
    let count : length c.map.result.now ≡ space_granules s = mapped_length (region_map s c.args.plan.now.regions) (space_granules s) c.map.result.now c.map.ensures in
    omega (arith, c.requires.inside, c.loop-step-test.true)

pub loop-step-preserved : goal.loop-step-preserved
loop-step-preserved c =
    let s = c.args.plan.now.setup in
    let m = region_map s c.args.plan.now.regions in
    let g : ℕ = 16 * c.args.w + (15 - c.loop-step.step) in
    let own : c.get.result ≡ m g = mapped_at m (space_granules s) g c.map.result.now c.get.result c.map.ensures (omega (arith, c.requires.inside, c.loop-step-test.true)) c.get.ensures in
    rw (c.nibble.ensures, own, c.loop-step.invariant) (packed_step m (16 * c.args.w) c.loop-step.step c.loop-step-test.true)
