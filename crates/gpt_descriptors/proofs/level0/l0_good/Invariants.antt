use Rattle.std.proofs.Common.{◌≡◌, ◌≤◌, drop}
use Rattle.gpt_descriptors.specs.Level0.{are_entries_good}
use Rattle.gpt_descriptors.proofs.level0.l0_good.Given as goal

abbrev pub invariant-loop-word : goal.invariant-loop-word
invariant-loop-word l = (l.tables ≤ l.word-index) × (are_entries_good l.setup l.tables (drop l.word-index l.l0) ≡ are_entries_good l.setup 0 l.l0)
