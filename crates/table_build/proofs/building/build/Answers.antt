use Rattle.std.proofs.Common.{◌≡◌, false, sym}
use Rattle.table_build.specs.Built.{is_bad_base}
use Rattle.table_build.proofs.BuiltLemmas.{tables_fit}
use Rattle.table_build.proofs.building.build.Goals as goal

pub new-requires : goal.new-requires
new-requires c =
    let good : is_bad_base c.args.plan.now.setup c.args.plan.now.regions ≡ false = sym c.if-bad_base.ensures in
    rw (c.setup.ensures.setup, c.in_ok-l0.ensures, c.in_ok-l1.ensures) (tables_fit c.args.plan.now.setup c.args.plan.now.regions good c.setup.ensures.accepted)
