use Rattle.std.proofs.Common.{◌+◌, ◌*◌, string_bytes}
use Rattle.report_text.specs.RunParts.{set_lines, word_lines}
use Rattle.report_text.proofs.StateLemmas.{word_lines_none, word_lines_more, begins, pushed}
use Rattle.report_text.proofs.state.push_granules.Goals as goal

pub loop-k-init : goal.loop-k-init
loop-k-init c = begins (string_bytes c.args.out.now) (word_lines c.args.bytes c.args.word c.args.first 0) (word_lines_none c.args.bytes c.args.word c.args.first)

pub loop-k-preserved : goal.loop-k-preserved
loop-k-preserved c =
    pushed (string_bytes c.args.out.now) (word_lines c.args.bytes c.args.word c.args.first c.loop-k.k) (set_lines ((c.args.first + c.loop-k.k) * c.args.bytes) c.args.word c.loop-k.k) _
    (string_bytes c.loop-k.out) (string_bytes c.push_granule.new.out) (word_lines_more c.args.bytes c.args.word c.args.first c.loop-k.k) c.loop-k.invariant c.in_ok-push_granule.ensures
