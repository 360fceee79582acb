use Rattle.line_text.proofs.Cuts.{is_first, past_one, past_two, past_three}
use Rattle.std.proofs.Common.{◌+◌, arith}
use Rattle.line_text.proofs.cutting.position_of.Goals as goal

pub returns-then-text-k : goal.returns-then-text-k
returns-then-text-k c = is_first c.args.at c.args.text.now c.loop-k.k c.loop-k.invariant (omega arith) c.if-text-k.true

pub returns-then-text-k-2 : goal.returns-then-text-k-2
returns-then-text-k-2 c =
    is_first c.args.at c.args.text.now (c.loop-k.k + 1) (past_one c.args.at c.args.text.now c.loop-k.k c.loop-k.invariant (omega arith) c.if-text-k.false) (omega arith) c.if-text-k-2.true

pub returns-then-text-k-3 : goal.returns-then-text-k-3
returns-then-text-k-3 c =
    is_first c.args.at c.args.text.now (c.loop-k.k + 2) (past_two c.args.at c.args.text.now c.loop-k.k c.loop-k.invariant (omega arith) c.if-text-k.false c.if-text-k-2.false) (omega arith) c.if-text-k-3.true

pub returns-then-text-k-4 : goal.returns-then-text-k-4
returns-then-text-k-4 c =
    is_first c.args.at c.args.text.now (c.loop-k.k + 3) (past_three c.args.at c.args.text.now c.loop-k.k c.loop-k.invariant (omega arith) c.if-text-k.false c.if-text-k-2.false c.if-text-k-3.false) (omega arith) c.if-text-k-4.true
