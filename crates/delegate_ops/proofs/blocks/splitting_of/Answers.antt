use Rattle.std.proofs.Common.{ap, ◌∙◌}
use Rattle.gpt_descriptors.specs.Sizes.{words_of}
use Rattle.gpt_descriptors.specs.declared.size.Size.TheVariants as size
use Rattle.delegate_ops.proofs.StartLemmas.{split_start}
use Rattle.delegate_ops.proofs.blocks.splitting_of.Goals as goal

pub returns : goal.returns
returns c =
    c.new.ensures
    ∙ split_start c.args.geometry.now c.args.task c.args.size c.args.gpi c.first_l1_word.result c.l1_index_of-index.result c.words_of-words.result c.words_of-two.result c.requires
    c.first_l1_word.ensures.place c.l1_index_of-index.ensures.value (c.words_of-words.ensures.value ∙ ap (λ s. words_of s c.args.size) c.setup-setup.ensures.value)
    (c.words_of-two.ensures.value ∙ ap (λ s. words_of s size.Two) c.setup-setup.ensures.value)
