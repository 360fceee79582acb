use Rattle.std.proofs.Common.{◌+◌, ◌*◌, ◌-◌, sym, arith}
use Rattle.region_plan.specs.Regions.{region_map}
use Rattle.gpt_descriptors.proofs.PackedLemmas.{packed-zero, packed_fits}
use Rattle.gpi_values.proofs.ValueLemmas.{value_low}
use Rattle.table_build.proofs.BlockLemmas.{packed_step}
use Rattle.plain_tables_tests.proofs.plain.granules_word.Goals as goal

pub loop-step-init : goal.loop-step-init
loop-step-init c = sym (packed-zero (region_map c.args.setup.now c.args.regions.now) (16 * c.args.w + 16))

pub overflow_mul-word : goal.overflow_mul-word
overflow_mul-word c =
    omega (arith, c.loop-step.invariant, packed_fits (region_map c.args.setup.now c.args.regions.now) (16 * c.args.w + (16 - c.loop-step.step)) c.loop-step.step c.loop-step-test.true)

pub overflow_add-word : goal.overflow_add-word
overflow_add-word c =
    omega (arith, c.loop-step.invariant, packed_fits (region_map c.args.setup.now c.args.regions.now) (16 * c.args.w + (16 - c.loop-step.step)) c.loop-step.step c.loop-step-test.true, c.nibble.ensures, value_low c.granule_gpi.result)

pub loop-step-preserved : goal.loop-step-preserved
loop-step-preserved c =
    rw (c.nibble.ensures, c.granule_gpi.ensures, c.loop-step.invariant) (packed_step (region_map c.args.setup.now c.args.regions.now) (16 * c.args.w) c.loop-step.step c.loop-step-test.true)
