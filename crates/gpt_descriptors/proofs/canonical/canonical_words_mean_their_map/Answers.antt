use Rattle.gpt_descriptors.proofs.MeaningLemmas.{canonical_meaning, canonical_covers}
use Rattle.gpt_descriptors.proofs.canonical.canonical_words_mean_their_map.Goals as goal

pub returns : goal.returns
returns c = record { meaning = canonical_meaning; covers = canonical_covers }
