use Rattle.std.proofs.Common.{sym, arith}
use Rattle.gpt_descriptors.proofs.SizeLemmas.{table_bytes_low}
use Rattle.region_plan.specs.Regions.{tables_below}
use Rattle.table_build.proofs.BuiltLemmas.{table_room, table_page}
use Rattle.table_build.proofs.building.entry_word.Goals as goal

pub table_address-requires : goal.table_address-requires
table_address-requires c =
    let needs = sym c.if-needs_table.ensures in
    rw (c.setup.ensures.setup, c.requires.before)
    (omega (arith, table_room c.args.plan.now.setup c.args.plan.now.regions c.args.q c.requires.good c.requires.range needs))

pub encode_l0-requires : goal.encode_l0-requires
encode_l0-requires c =
    let needs = sym c.if-needs_table.ensures in
    rw (c.table_address.ensures, c.setup.ensures.setup, c.requires.before) (
      table_page c.args.plan.now.setup c.args.plan.now.regions (tables_below c.args.plan.now.regions c.args.q) c.requires.good,
      omega (arith, table_bytes_low c.args.plan.now.setup, table_room c.args.plan.now.setup c.args.plan.now.regions c.args.q c.requires.good c.requires.range needs),
    )
