use Rattle.std.proofs.Common.{◌≡◌, ◌++◌, drop, string_bytes}
use Rattle.report_text.specs.RunText.{callers_text}
use Rattle.report_text.proofs.callers.push_callers.Given as goal

abbrev pub invariant-loop-k : goal.invariant-loop-k
invariant-loop-k l =
    string_bytes l.out ++ callers_text l.k (drop l.k l.scripts) (drop l.k l.answers)
    ≡ string_bytes l.initial.out ++ callers_text 0 l.scripts l.answers
