use Rattle.std.proofs.Common.{ℕ, ◌-◌, length, ap, arith}
use Rattle.report_text.proofs.CallerLemmas.{answers_length, own_short, left_moves, lent_own}
use Rattle.report_text.proofs.callers.push_lefts.Goals as goal

pub bounds-answers-k : goal.bounds-answers-k
bounds-answers-k c = omega (arith, answers_length c.args.scripts.now c.args.answers.now c.requires)

pub overflow_sub-left : goal.overflow_sub-left
overflow_sub-left c =
    let short = own_short c.args.scripts.now c.args.answers.now c.loop-k.k c.index-scripts-k.result c.as_slice.result.now c.requires c.loop-k-test.true
    c.index-scripts-k.is (lent_own c.args.answers.now c.loop-k.k c.index-answers-k.result c.as_slice.result.now c.index-answers-k.is c.as_slice.ensures) in
    omega (arith, short, c.call_count.ensures)

pub loop-k-preserved : goal.loop-k-preserved
loop-k-preserved c =
    left_moves c.loop-k.k c.args.scripts.now c.args.answers.now c.index-scripts-k.result c.as_slice.result.now (c.call_count.result - length c.as_slice.result.now) _ _ _ c.loop-k-test.true
    c.index-scripts-k.is c.requires (lent_own c.args.answers.now c.loop-k.k c.index-answers-k.result c.as_slice.result.now c.index-answers-k.is c.as_slice.ensures)
    (ap (λ (n : ℕ). n - length c.as_slice.result.now) c.call_count.ensures) c.loop-k.invariant c.in_ok-push_left.ensures
