use Rattle.table_build.proofs.MeaningLemmas.{built_word, built_block, built_fills}
use Rattle.table_build.proofs.law.built_tables_mean_the_map.Goals as goal

pub returns : goal.returns
returns c = record {
  words = built_word;
  blocks = built_block;
  fills = built_fills;
}
