use Rattle.std.proofs.Common.{◌≤◌, ◌*◌, ◌<◌, arith}
use Rattle.table_build.proofs.BlockLemmas.{then_pushed, words_joined}
use Rattle.table_build.proofs.blocks.push_granules.Goals as goal

pub loop-w-preserved : goal.loop-w-preserved
loop-w-preserved c =
    let more : c.loop-w.w < c.in_ok-w.w = c.in_ok-w.ensures.more in
    let low : c.args.b * c.words_of-words.result ≤ c.loop-w.w = c.loop-w.invariant.low in
    record {
      low = omega arith;
      high = c.in_ok-w.ensures.inside;
      words =
          then_pushed _ _ _ _ _ _ (words_joined c.args.plan.now.setup c.args.plan.now.regions (c.args.b * c.words_of-words.result) c.loop-w.w c.in_ok-w.w low (omega arith))
          c.loop-w.invariant.words c.in_ok-w.ensures.words;
      at = c.in_ok-w.ensures.at;
    }
