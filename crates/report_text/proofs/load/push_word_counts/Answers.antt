use Rattle.std.proofs.Common.{refl, string_bytes}
use Rattle.std.specs.Prelude.{codes}
use Rattle.gpt_descriptors.specs.declared.size.Size.TheVariants as size
use Rattle.table_build.proofs.BlockLemmas.{on_ok}
use Rattle.report_text.specs.LoadText.{count_line, contiguous_in, raises_in, word_counts}
use Rattle.report_text.proofs.StateLemmas.{four}
use Rattle.report_text.proofs.LoadLemmas.{line_added}
use Rattle.report_text.proofs.load.push_word_counts.Goals as goal

pub returns : goal.returns
returns c =
    let g = c.args.geometry.now in
    let words = c.args.words.now in
    let out0 = string_bytes c.args.out.now in
    let out1 = string_bytes c.push_count.new.out in
    let out2 = string_bytes c.push_count-2.new.out in
    let out3 = string_bytes c.push_count-3.new.out in
    let out4 = string_bytes c.push_count-4.new.out in
    on_ok _ _ _
    (λ last. four out0 (count_line (codes "contig2m") (contiguous_in g words size.Two)) (count_line (codes "contig32m") (contiguous_in g words size.ThirtyTwo))
    (count_line (codes "contig512m") (contiguous_in g words size.FiveTwelve)) (count_line (codes "gens") (raises_in g words)) (word_counts g words) out1 out2 out3 out4 refl
    (line_added (codes "contig2m") out0 out1 _ _ c.count_contiguous-contiguous.ensures.two c.in_ok-push_count.ensures)
    (line_added (codes "contig32m") out1 out2 _ _ c.count_contiguous-contiguous.ensures.thirty_two c.in_ok-push_count-2.ensures)
    (line_added (codes "contig512m") out2 out3 _ _ c.count_contiguous-contiguous.ensures.five_twelve c.in_ok-push_count-3.ensures)
    (line_added (codes "gens") out3 out4 _ _ c.sum_raises.ensures last))
    c.push_count-4.ensures
