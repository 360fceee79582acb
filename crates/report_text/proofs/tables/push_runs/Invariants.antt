use Rattle.std.proofs.Common.{◌≡◌, ◌≤◌, ◌-◌, ◌++◌, length, drop, string_bytes}
use Rattle.std.specs.List.{flat_map}
use Rattle.report_text.specs.Runs.{runs_from}
use Rattle.report_text.specs.TablesText.{run_line, runs_text}
use Rattle.report_text.proofs.tables.push_runs.Given as goal

abbrev pub invariant-loop-at : goal.invariant-loop-at
invariant-loop-at l = record {
  within : l.at ≤ length l.words;
  text : string_bytes l.out ++ flat_map (run_line l.level) (runs_from l.at (drop l.at l.words)) ≡ string_bytes l.initial.out ++ runs_text l.level l.words;
}

abbrev pub decreases-loop-at : goal.decreases-loop-at
decreases-loop-at l = length l.words - l.at
