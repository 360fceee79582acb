use Rattle.std.proofs.Common.{string_bytes}
use Rattle.gpt_descriptors.specs.declared.size.Size.TheVariants as size
use Rattle.table_build.proofs.BlockLemmas.{on_ok}
use Rattle.report_text.specs.RunText.{tables_part_text, generations_text, lines_text, state_text}
use Rattle.report_text.specs.RunParts.{held_upto}
use Rattle.report_text.proofs.StateLemmas.{state_parts, six}
use Rattle.report_text.proofs.state.push_state.Goals as goal

pub returns : goal.returns
returns c =
    on_ok _ _ _
    (six (string_bytes c.args.out.now) (held_upto c.args.words.now 128) (tables_part_text c.args.geometry.now c.args.words.now) (generations_text c.args.geometry.now c.args.words.now size.Two)
    (generations_text c.args.geometry.now c.args.words.now size.ThirtyTwo) (generations_text c.args.geometry.now c.args.words.now size.FiveTwelve) (lines_text c.args.geometry.now c.args.words.now)
    (state_text c.args.geometry.now c.args.words.now)
    (string_bytes c.push_locks.new.out) (string_bytes c.push_table_part.new.out) (string_bytes c.push_generations.new.out) (string_bytes c.push_generations-2.new.out) (string_bytes c.push_generations-3.new.out) (string_bytes c.push_lines.new.out)
    (state_parts c.args.geometry.now c.args.words.now) c.in_ok-push_locks.ensures c.in_ok-push_table_part.ensures c.in_ok-push_generations.ensures c.in_ok-push_generations-2.ensures c.in_ok-push_generations-3.ensures)
    c.push_lines.ensures
