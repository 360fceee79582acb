use Rattle.std.proofs.Common.{◌≡◌, ◌+◌, ◌*◌, ◌^◌, ◌≤◌, drop}
use Rattle.report_text.specs.LoadText.{left_in}
use Rattle.report_text.proofs.load.count_left.Given as goal

abbrev pub invariant-loop-k : goal.invariant-loop-k
invariant-loop-k l = record {
  counted : l.total + left_in (drop l.k l.scripts) (drop l.k l.answers) ≡ left_in l.scripts l.answers;
  small : l.total ≤ l.k * 2 ^ 64;
}
