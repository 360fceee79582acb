use Rattle.std.proofs.Common.{ℕ, ◌≡◌, List, [], ◌∷◌, ◌++◌, refl, ap, ◌∙◌, string_bytes}
use Rattle.std.specs.Prelude.{codes}
use Rattle.history.specs.declared.call.Answer.{Answer}
use Rattle.scenario_text.specs.declared.scenario.Script.{Script}
use Rattle.line_text.specs.Lines.{count}
use Rattle.report_text.specs.TablesText.{line, end_line}
use Rattle.report_text.specs.LoadText.{left_in, count_line, answer_counts, word_counts, report_of_load}
use Rattle.report_text.proofs.LoadLemmas.{line_added, five}
use Rattle.report_text.proofs.load.load_report.Goals as goal

pub returns : goal.returns
unfolding report_of_load
returns c =
    let o = c.args.outcome.now in
    let s = c.args.scenario.now in
    let head = line (codes "report" ∷ codes "1" ∷ codes "load" ∷ count c.args.number ∷ []) in
    let out0 = string_bytes c.new-out.result in
    let out1 = string_bytes c.write.new.self in
    let out2 = string_bytes c.push_answer_counts.new.out in
    let out3 = string_bytes c.push_count.new.out in
    let out4 = string_bytes c.push_word_counts.new.out in
    let out5 = string_bytes c.push_str.new.self in
    let answers = c.as_slice-answers.ensures in
    let left : c.count_left-left.result ≡ left_in s.scripts o.answers =
    c.count_left-left.ensures ∙ (ap (λ (l : List Script). left_in l c.as_slice-answers.result.now) c.as_slice.ensures ∙ ap (left_in s.scripts) answers) in
    let items : c.into_bytes.result.items ≡ out5 = rw c.into_bytes.ensures.value refl in
    items
    ∙ five head (answer_counts o.answers) (count_line (codes "left") (left_in s.scripts o.answers)) (word_counts o.geometry o.words) end_line
    out0 out1 out2 out3 out4 out5 c.new-out.ensures.bytes c.in_ok-write.ensures.bytes
    (c.in_ok-push_answer_counts.ensures ∙ ap (λ (l : List (List Answer)). out1 ++ answer_counts l) answers)
    (line_added (codes "left") out2 out3 _ _ left c.in_ok-push_count.ensures)
    (c.in_ok-push_word_counts.ensures ∙ ap (λ (l : List ℕ). out3 ++ word_counts o.geometry l) c.as_slice-2.ensures)
    c.in_ok-push_str.ensures.bytes
