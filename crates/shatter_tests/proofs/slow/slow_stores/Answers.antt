use Rattle.std.proofs.Common.{arith}
use Rattle.shatter.specs.Splitting.{SplittingData}
use Rattle.shatter_tests.proofs.StoreLemmas.{stores_more}
use Rattle.shatter_tests.proofs.slow.slow_stores.Goals as goal

pub loop-j-preserved : goal.loop-j-preserved
loop-j-preserved c =
    let d : SplittingData = record { first = c.args.first; own = c.args.own; gpi = c.args.gpi; made = 0; words = c.args.words; two = c.args.two } in
    let more = stores_more d c.loop-j.j c.loop-j.acts.items c.loop-j.invariant in
    grind (arith, more, c.slow_word.ensures, c.in_ok-push.ensures.items)
