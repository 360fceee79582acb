use Rattle.line_text.proofs.Cuts.{is_first, is_nowhere}
use Rattle.std.proofs.Common.{arith}
use Rattle.line_text.proofs.cutting.position_from.Goals as goal

pub returns-then-text-k : goal.returns-then-text-k
returns-then-text-k c = is_first c.args.at c.args.text.now c.loop-k.k c.loop-k.invariant (omega arith) c.if-text-k.true

pub returns : goal.returns
returns c = is_nowhere c.args.at c.args.text.now c.loop-k.k c.loop-k.invariant (omega arith)
