use Rattle.std.proofs.Common.{◌≡◌, ◌*◌, ◌^◌, ◌≤◌}
use Rattle.report_text.proofs.LoadLemmas.{raises_upto}
use Rattle.report_text.proofs.load.sum_raises.Given as goal

abbrev pub invariant-loop-block : goal.invariant-loop-block
invariant-loop-block l = record {
  summed : l.total ≡ raises_upto l.geometry l.words l.block;
  small : l.total ≤ l.block * 2 ^ 64;
}
