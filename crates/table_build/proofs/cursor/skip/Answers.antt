use Rattle.std.proofs.Common.{◌+◌}
use Rattle.std.proofs.lemmas.List.{take_rest}
use Rattle.gpi_values.specs.declared.gpi.Gpi.TheVariants as gpi
use Rattle.region_plan.specs.declared.run_map.Run.{Run}
use Rattle.table_build.proofs.ReadingLemmas.{begun_drop, reads_drop}
use Rattle.table_build.proofs.cursor.skip.Goals as goal

pub loop-at-preserved : goal.loop-at-preserved
loop-at-preserved c =
    let none : Run = record { first = 0; gpi = gpi.NoAccess } in
    record {
      within = c.loop-at-test.true;
      begun = begun_drop c.args.granule (c.loop-at.at + 1) c.args.rest.now none c.loop-at-test.true c.if-rest-at.true;
      reads = λ m size reads. reads_drop m c.args.granule size c.loop-at.at c.args.rest.now none c.loop-at-test.true c.if-rest-at.true (c.loop-at.invariant.reads m size reads);
    }

pub returns-clause-reads : goal.returns-clause-reads
returns-clause-reads c = λ m size reads. rw (take_rest c.args.rest.now c.loop-at.at) (c.loop-at.invariant.reads m size reads)
