use Rattle.table_meaning.proofs.MeaningLemmas.{canonical_mean}
use Rattle.table_meaning.proofs.law.canonical_tables_mean_their_map.Goals as goal

pub returns : goal.returns
returns c = canonical_mean
