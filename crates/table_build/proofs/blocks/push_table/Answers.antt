use Rattle.gpt_descriptors.specs.declared.size.Size.TheVariants as size
use Rattle.gpt_descriptors.specs.Sizes.{words_of, table_words}
use Rattle.gpt_descriptors.proofs.SizeLemmas.{table_is}
use Rattle.table_build.proofs.BlockLemmas.{table_words_of, then_pushed, on_ok, at_half, at_whole, half_inside}
use Rattle.table_build.proofs.blocks.push_table.Goals as goal

pub push_five_twelve-requires-clause-inside : goal.push_five_twelve-requires-clause-inside
push_five_twelve-requires-clause-inside c =
    let s = c.args.plan.now.setup in (half_inside c.args.q (words_of s size.FiveTwelve) (table_words s) s.gigabytes (table_is s) c.requires.inside).0

pub push_five_twelve-requires-clause-at : goal.push_five_twelve-requires-clause-at
push_five_twelve-requires-clause-at c =
    let s = c.args.plan.now.setup in at_half s c.args.plan.now.regions c.args.q (words_of s size.FiveTwelve) (table_words s) c.args.cursor.now (table_is s) c.requires.at

pub push_five_twelve-requires-2-clause-inside : goal.push_five_twelve-requires-2-clause-inside
push_five_twelve-requires-2-clause-inside c =
    let s = c.args.plan.now.setup in (half_inside c.args.q (words_of s size.FiveTwelve) (table_words s) s.gigabytes (table_is s) c.requires.inside).1

pub returns-clause-words : goal.returns-clause-words
returns-clause-words c =
    on_ok c.push_five_twelve-2.result _ _
    (λ second. then_pushed _ _ _ _ _ _ (table_words_of c.args.plan.now.setup c.args.plan.now.regions c.args.q) c.in_ok-push_five_twelve.ensures.words second)
    c.push_five_twelve-2.ensures.words

pub returns-clause-at : goal.returns-clause-at
returns-clause-at c =
    let s = c.args.plan.now.setup in
    on_ok c.push_five_twelve-2.result _ _
    (λ there. at_whole s c.args.plan.now.regions c.args.q (words_of s size.FiveTwelve) (table_words s) c.push_five_twelve-2.new.cursor (table_is s) there)
    c.push_five_twelve-2.ensures.at
