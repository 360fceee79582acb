use Rattle.std.proofs.Common.{sym, ◌∙◌, arith}
use Rattle.line_text.proofs.DigitLemmas.{rest_ends_at}
use Rattle.line_text.proofs.numeral.value.Goals as goal

pub returns : goal.returns
returns c = sym (rest_ends_at c.args.base c.loop-byte.sum c.args.digits.now c.loop-byte.byte-index (omega arith) c.loop-byte.invariant.0) ∙ c.loop-byte.invariant.1
