use Rattle.std.proofs.Common.{◌<◌, ◌-◌, ℕ, length, drop}
use Rattle.gpi_values.specs.declared.gpi.Gpi.{Gpi}
use Rattle.table_build.specs.InnerReading.{HasBegun, Reads}
use Rattle.table_build.proofs.cursor.skip.Given as goal

abbrev pub invariant-loop-at : goal.invariant-loop-at
invariant-loop-at l = record {
  within : l.at < length l.rest;
  begun : HasBegun l.granule (drop l.at l.rest);
  reads : (m : ℕ → Gpi) (size : ℕ) → Reads m l.granule size l.rest → Reads m l.granule size (drop l.at l.rest);
}

abbrev pub decreases-loop-at : goal.decreases-loop-at
decreases-loop-at l = length l.rest - l.at
