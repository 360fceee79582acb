use Rattle.std.proofs.Common.{◌<◌, length, arith}
use Rattle.report_text.proofs.CallerLemmas.{answers_length, own_short, lent_own}
use Rattle.report_text.proofs.LoadLemmas.{left_more}
use Rattle.report_text.proofs.load.count_left.Goals as goal

pub bounds-answers-k : goal.bounds-answers-k
bounds-answers-k c = omega (arith, answers_length c.args.scripts.now c.args.answers.now c.requires)

pub overflow_sub-left : goal.overflow_sub-left
overflow_sub-left c =
    let within : c.loop-k.k < length c.args.scripts.now = omega arith in
    let short = own_short c.args.scripts.now c.args.answers.now c.loop-k.k c.index-scripts-k.result c.as_slice.result.now c.requires within
    c.index-scripts-k.is (lent_own c.args.answers.now c.loop-k.k c.index-answers-k.result c.as_slice.result.now c.index-answers-k.is c.as_slice.ensures) in
    omega (arith, short, c.call_count.ensures)

pub loop-k-preserved : goal.loop-k-preserved
loop-k-preserved c =
    let within : c.loop-k.k < length c.args.scripts.now = omega arith in
    record {
      counted = left_more c.loop-k.k c.args.scripts.now c.args.answers.now c.index-scripts-k.result c.as_slice.result.now c.call_count.result c.loop-k.total _ within
          c.index-scripts-k.is c.requires (lent_own c.args.answers.now c.loop-k.k c.index-answers-k.result c.as_slice.result.now c.index-answers-k.is c.as_slice.ensures)
          c.call_count.ensures c.loop-k.invariant.counted;
      small = omega (arith, c.loop-k.invariant.small);
    }
