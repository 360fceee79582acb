use Rattle.std.proofs.Common.{◌≡◌, ◌++◌, take, string_bytes}
use Rattle.report_text.specs.LoadText.{all_counted}
use Rattle.report_text.proofs.LoadLemmas.{names_text}
use Rattle.report_text.proofs.load.push_answer_counts.Given as goal

abbrev pub invariant-loop-counted : goal.invariant-loop-counted
invariant-loop-counted l = string_bytes l.out ≡ string_bytes l.initial.out ++ names_text l.answers (take l.counted-index all_counted)
