use Rattle.std.proofs.Common.{◌≡◌, take}
use Rattle.gpt_descriptors.specs.Entries.{l1_entry}
use Rattle.report_text.specs.InnerSizes.{size_in, sizes_of}
use Rattle.report_text.proofs.load.count_sizes.Given as goal

abbrev pub invariant-loop-k : goal.invariant-loop-k
invariant-loop-k l = record {
  counted : l.counts ≡ sizes_of (take l.k l.words);
  known : l.size ≡ size_in (l1_entry l.last);
}
