use Rattle.std.proofs.Common.{◌≡◌, ◌*◌, ◌++◌, string_bytes}
use Rattle.gpt_descriptors.specs.Sizes.{table_words}
use Rattle.report_text.specs.RunParts.{granules_text}
use Rattle.report_text.proofs.state.push_table_lines.Given as goal

abbrev pub invariant-loop-k : goal.invariant-loop-k
invariant-loop-k l = string_bytes l.out ≡ string_bytes l.initial.out ++ granules_text l.geometry l.words (16 * (l.gigabyte * table_words l.geometry.setup)) (16 * l.k)
