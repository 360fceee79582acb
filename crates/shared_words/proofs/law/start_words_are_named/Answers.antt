use Rattle.shared_words.proofs.StartLemmas.{start_count, start_named}
use Rattle.shared_words.proofs.law.start_words_are_named.Goals as goal

pub returns : goal.returns
returns c = record { count = start_count; named = start_named }
