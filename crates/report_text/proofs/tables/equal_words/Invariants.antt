use Rattle.std.proofs.Common.{◌≡◌, ◌≤◌, ◌-◌, ℕ, length, drop}
use Rattle.report_text.specs.Runs.{runs_after, runs_from}
use Rattle.report_text.proofs.tables.equal_words.Given as goal

abbrev pub invariant-loop-count : goal.invariant-loop-count
invariant-loop-count l = record {
  low : 1 ≤ l.count;
  high : l.count ≤ length l.words;
  run : (first : ℕ) → runs_from first l.words ≡ runs_after first l.count l.word (drop l.count l.words);
}

abbrev pub decreases-loop-count : goal.decreases-loop-count
decreases-loop-count l = length l.words - l.count
