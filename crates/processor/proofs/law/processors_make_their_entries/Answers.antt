use Rattle.processor.proofs.EntryLemmas.{fresh_quiet, step_entries}
use Rattle.processor.proofs.law.processors_make_their_entries.Goals as goal

pub returns : goal.returns
returns c = record { start = fresh_quiet; step = step_entries }
