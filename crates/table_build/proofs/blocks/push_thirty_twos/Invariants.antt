use Rattle.std.proofs.Common.{◌≡◌, ◌++◌, ◌+◌, ◌*◌}
use Rattle.gpt_descriptors.specs.declared.size.Size.TheVariants as size
use Rattle.gpt_descriptors.specs.Sizes.{words_of}
use Rattle.table_build.specs.Built.{canonical_words}
use Rattle.table_build.specs.InnerReading.{IsAt}
use Rattle.table_build.proofs.blocks.push_thirty_twos.Given as goal

abbrev pub invariant-loop-k : goal.invariant-loop-k
invariant-loop-k l = record {
  words : l.out.items ≡ l.initial.out.items ++ canonical_words l.plan.setup l.plan.regions (16 * l.b * words_of l.plan.setup size.ThirtyTwo) (l.k * words_of l.plan.setup size.ThirtyTwo);
  at : IsAt l.plan.setup l.plan.regions ((16 * l.b + l.k) * words_of l.plan.setup size.ThirtyTwo) l.cursor;
}
