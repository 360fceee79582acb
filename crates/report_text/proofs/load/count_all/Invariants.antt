use Rattle.std.proofs.Common.{◌≡◌, ◌*◌, ◌^◌, ◌≤◌, take}
use Rattle.report_text.specs.LoadText.{count_in}
use Rattle.report_text.proofs.load.count_all.Given as goal

abbrev pub invariant-loop-k : goal.invariant-loop-k
invariant-loop-k l = record {
  counted : l.total ≡ count_in l.counted (take l.k l.answers);
  small : l.total ≤ l.k * 2 ^ 64;
}
