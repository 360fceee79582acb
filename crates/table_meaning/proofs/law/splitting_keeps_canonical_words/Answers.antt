use Rattle.table_meaning.proofs.LawLemmas.{splitting_keeps, splitting_end}
use Rattle.table_meaning.proofs.law.splitting_keeps_canonical_words.Goals as goal

pub returns : goal.returns
returns c = record { each = splitting_keeps; last = splitting_end }
