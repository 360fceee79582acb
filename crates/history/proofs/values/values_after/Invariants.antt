use Rattle.std.proofs.Common.{◌≡◌, ◌++◌, drop}
use Rattle.gpt_descriptors.specs.Sizes.{small_granule}
use Rattle.history.specs.Values.{values_after}
use Rattle.history.proofs.values.values_after.Given as goal

abbrev pub invariant-loop-entry : goal.invariant-loop-entry
invariant-loop-entry l =
    l.values.items ++ values_after small_granule l.size l.granule l.now (drop l.entry-index l.entries)
    ≡ values_after small_granule l.size l.granule l.fn.gpi l.entries
