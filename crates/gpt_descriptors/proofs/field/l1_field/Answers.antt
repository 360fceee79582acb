use Rattle.std.proofs.Common.{sym, ◌∙◌}
use Rattle.gpt_descriptors.proofs.FieldEntryLemmas.{granules_each}
use Rattle.gpt_descriptors.proofs.field.l1_field.Goals as goal

pub known_gpi-requires : goal.known_gpi-requires
known_gpi-requires c = granules_each c.args.word (sym c.is_granules.ensures ∙ c.if-is_granules.true) c.args.place c.requires.place
