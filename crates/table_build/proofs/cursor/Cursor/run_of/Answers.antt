use Rattle.std.proofs.Common.{arith}
use Rattle.table_build.proofs.ReadingLemmas.{run_one, run_two}
use Rattle.table_build.proofs.cursor.Cursor.run_of.Goals as goal

pub returns-in-len1-clause-reads : goal.returns-in-len1-clause-reads
returns-in-len1-clause-reads c = λ m reads. c.skip-self.ensures.reads m c.args.self.now.size reads

pub returns-in-len2-up-clause-reads : goal.returns-in-len2-up-clause-reads
returns-in-len2-up-clause-reads c = λ m reads. c.skip-self.ensures.reads m c.args.self.now.size reads

pub returns-in-len1-clause-run : goal.returns-in-len1-clause-run
returns-in-len1-clause-run c = λ m reads inside.
    run_one m c.args.granule c.args.self.now.size c.skip-self.result.now _ (omega arith) (omega arith) inside c.skip-self.ensures.next (c.skip-self.ensures.reads m c.args.self.now.size reads)

pub returns-in-len2-up-clause-run : goal.returns-in-len2-up-clause-run
returns-in-len2-up-clause-run c = λ m reads inside.
    run_two m c.args.granule c.args.self.now.size c.skip-self.result.now _ (omega arith) inside c.skip-self.ensures.next (c.skip-self.ensures.reads m c.args.self.now.size reads)
