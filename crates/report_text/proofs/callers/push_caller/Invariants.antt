use Rattle.std.proofs.Common.{◌≡◌, ◌++◌, drop, string_bytes}
use Rattle.report_text.specs.RunText.{script_calls, answers_text}
use Rattle.report_text.proofs.callers.push_caller.Given as goal

abbrev pub invariant-loop-k : goal.invariant-loop-k
invariant-loop-k l =
    string_bytes l.out ++ answers_text l.caller l.k (drop l.k (script_calls l.script)) (drop l.k l.answers)
    ≡ string_bytes l.initial.out ++ answers_text l.caller 0 (script_calls l.script) l.answers
