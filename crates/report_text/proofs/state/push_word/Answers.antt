use Rattle.std.proofs.Common.{ℕ, ap, ◌∙◌, string_bytes}
use Rattle.report_text.specs.RunParts.{word_lines}
use Rattle.report_text.proofs.StateLemmas.{no_word_lines, begins}
use Rattle.report_text.proofs.state.push_word.Goals as goal

pub returns-then-word-eq0 : goal.returns-then-word-eq0
returns-then-word-eq0 c =
    begins (string_bytes c.args.out.now) (word_lines c.args.bytes c.args.word c.args.first 16)
    (ap (λ (word : ℕ). word_lines c.args.bytes word c.args.first 16) c.if-word-eq0.true ∙ no_word_lines c.args.bytes c.args.first 16)
