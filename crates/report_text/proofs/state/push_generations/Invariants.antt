use Rattle.std.proofs.Common.{◌≡◌, ◌++◌, string_bytes}
use Rattle.report_text.specs.RunParts.{generations_upto}
use Rattle.report_text.proofs.state.push_generations.Given as goal

abbrev pub invariant-loop-block : goal.invariant-loop-block
invariant-loop-block l = string_bytes l.out ≡ string_bytes l.initial.out ++ generations_upto l.geometry l.words l.size l.block
