use Rattle.table_meaning.proofs.LawLemmas.{merging_finds, nothing_to_merge, merging_keeps, merging_end}
use Rattle.table_meaning.proofs.law.merging_makes_words_canonical.Goals as goal

pub returns : goal.returns
returns c = record { size = merging_finds; none = nothing_to_merge; each = merging_keeps; last = merging_end }
