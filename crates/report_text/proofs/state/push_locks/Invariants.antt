use Rattle.std.proofs.Common.{◌≡◌, ◌++◌, string_bytes}
use Rattle.report_text.specs.RunParts.{held_upto}
use Rattle.report_text.proofs.state.push_locks.Given as goal

abbrev pub invariant-loop-lock : goal.invariant-loop-lock
invariant-loop-lock l = string_bytes l.out ≡ string_bytes l.initial.out ++ held_upto l.words l.lock
