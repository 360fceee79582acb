use Rattle.std.proofs.Common.{ap}
use Rattle.gpt_descriptors.specs.declared.size.Size.TheVariants as size
use Rattle.report_text.specs.declared.load.Contiguous.{Contiguous}
use Rattle.report_text.proofs.LoadLemmas.{counted_in}
use Rattle.report_text.proofs.load.count_contiguous.Goals as goal

pub returns-clause-two : goal.returns-clause-two
returns-clause-two c =
    counted_in c.args.geometry.now c.args.words.now c.words_of_tables.result.now size.Two c.count_sizes.result.two c.words_of_tables.ensures.value
    (ap (λ (n : Contiguous). n.two) c.count_sizes.ensures)

pub returns-clause-thirty_two : goal.returns-clause-thirty_two
returns-clause-thirty_two c =
    counted_in c.args.geometry.now c.args.words.now c.words_of_tables.result.now size.ThirtyTwo c.count_sizes.result.thirty_two c.words_of_tables.ensures.value
    (ap (λ (n : Contiguous). n.thirty_two) c.count_sizes.ensures)

pub returns-clause-five_twelve : goal.returns-clause-five_twelve
returns-clause-five_twelve c =
    counted_in c.args.geometry.now c.args.words.now c.words_of_tables.result.now size.FiveTwelve c.count_sizes.result.five_twelve c.words_of_tables.ensures.value
    (ap (λ (n : Contiguous). n.five_twelve) c.count_sizes.ensures)
