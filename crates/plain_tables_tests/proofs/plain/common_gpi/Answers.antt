use Rattle.std.proofs.Common.{◌-◌, sym, ap, ◌∙◌, arith}
use Rattle.gpi_values.specs.Values.{value_of}
use Rattle.gpt_descriptors.proofs.CanonicalLemmas.{one_gpi_from, one_gpi_not}
use Rattle.region_plan.specs.Regions.{region_map}
use Rattle.plain_tables_tests.proofs.plain.common_gpi.Goals as goal

pub returns-then-nibble-clause-exact : goal.returns-then-nibble-clause-exact
returns-then-nibble-clause-exact c =
    sym (one_gpi_not (region_map c.args.setup.now c.args.regions.now) c.args.first (c.args.end - c.args.first) c.loop-at.at
    c.loop-at.invariant.low (omega arith)
    (λ same. c.if-nibble.true (c.nibble.ensures ∙ ap value_of c.granule_gpi.ensures ∙ same ∙ sym (c.nibble-in-loop-at.ensures ∙ ap value_of c.granule_gpi-gpi.ensures))))

pub returns-clause-exact : goal.returns-clause-exact
returns-clause-exact c =
    sym (one_gpi_from (region_map c.args.setup.now c.args.regions.now) c.args.first (c.args.end - c.args.first)
    (λ k low high. c.loop-at.invariant.same k low (omega arith)))
