use Rattle.std.proofs.Common.{sym, refl}
use Rattle.gpt_descriptors.proofs.PlaceLemmas.{index_told, index_within, index_small}
use Rattle.gpt_descriptors.proofs.geometry.Geometry.index_in_table.Goals as goal

pub overflow_sub-result : goal.overflow_sub-result
overflow_sub-result c =
    (index_told _ _ _ _ _ _ _ c.setup-setup.ensures.value c.setup-setup.ensures.geometry c.requires.inside c.requires.table c.base.ensures.value c.word_bytes.ensures.value refl).0

pub returns-clause-value : goal.returns-clause-value
returns-clause-value c =
    (index_told _ _ _ _ _ _ _ c.setup-setup.ensures.value c.setup-setup.ensures.geometry c.requires.inside c.requires.table c.base.ensures.value c.word_bytes.ensures.value c.table_words.ensures.value).1

pub returns-clause-within : goal.returns-clause-within
returns-clause-within c = index_within _ _ _ c.setup-setup.ensures.geometry (sym (index_told _ _ _ _ _ _ _ c.setup-setup.ensures.value c.setup-setup.ensures.geometry c.requires.inside c.requires.table c.base.ensures.value c.word_bytes.ensures.value c.table_words.ensures.value).1)

pub returns-clause-small : goal.returns-clause-small
returns-clause-small c = index_small _ _ _ c.setup-setup.ensures.geometry (sym (index_told _ _ _ _ _ _ _ c.setup-setup.ensures.value c.setup-setup.ensures.geometry c.requires.inside c.requires.table c.base.ensures.value c.word_bytes.ensures.value c.table_words.ensures.value).1)
