use Rattle.std.proofs.Common.{◌+◌, get_or, take, string_bytes}
use Rattle.report_text.specs.declared.load.Counted.TheVariants as counted
use Rattle.report_text.specs.LoadText.{counted_name, count_in, count_line, all_counted}
use Rattle.report_text.proofs.StateLemmas.{pushed}
use Rattle.report_text.proofs.LoadLemmas.{names_text, name_more}
use Rattle.report_text.proofs.load.push_answer_counts.Goals as goal

pub loop-counted-preserved : goal.loop-counted-preserved
loop-counted-preserved c =
    let answers = c.args.answers.now in
    let i = c.loop-counted.counted-index in
    let name = get_or all_counted i counted.Done in
    pushed (string_bytes c.args.out.now) (names_text answers (take i all_counted)) (count_line (counted_name name) (count_in name answers))
    (names_text answers (take (i + 1) all_counted)) (string_bytes c.loop-counted.out) (string_bytes c.push_counted.new.out)
    (name_more answers all_counted i counted.Done c.loop-counted-test.true) c.loop-counted.invariant c.in_ok-push_counted.ensures
