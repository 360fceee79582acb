use Rattle.std.proofs.Common.{◌+◌, ◌*◌, sym, arith}
use Rattle.gpt_descriptors.specs.declared.size.Size.TheVariants as size
use Rattle.gpt_descriptors.specs.Sizes.{words_of}
use Rattle.table_build.specs.InnerReading.{IsAt}
use Rattle.table_build.proofs.BlockLemmas.{five_twelve_block, at_later, ok_known}
use Rattle.table_build.proofs.blocks.push_five_twelve.Goals as goal

pub returns-in-Some-clause-words : goal.returns-in-Some-clause-words
returns-in-Some-clause-words c =
    rw (five_twelve_block c.args.plan.now.setup c.args.plan.now.regions c.args.b (sym c.in-Some.ensures.exact)) c.push_entry.ensures

pub returns-in-Some-clause-at : goal.returns-in-Some-clause-at
returns-in-Some-clause-at c =
    let s = c.args.plan.now.setup in
    ok_known c.push_entry.result (IsAt s c.args.plan.now.regions ((c.args.b + 1) * words_of s size.FiveTwelve) c.block_gpi.new.cursor)
    (at_later s c.args.plan.now.regions (c.args.b * words_of s size.FiveTwelve) ((c.args.b + 1) * words_of s size.FiveTwelve) c.block_gpi.new.cursor (omega arith) c.block_gpi.ensures.at)
