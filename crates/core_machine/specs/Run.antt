-- What the turns of a schedule leave is one legal history of a plain map from granule to GPI.
use Rattle.std.specs.Prelude.{◌≡◌, ℕ, ◌+◌, ◌<◌, List, map, count_by, slice_index}
use Rattle.gpt_descriptors.specs.Places.{Duty, place_of}
use Rattle.bit_locks.specs.Locks.{lock_bit}
use Rattle.scenario_text.specs.declared.scenario.Scenario.{Scenario}
use Rattle.history.specs.declared.outcome.Outcome.{Outcome}
use Rattle.core_machine.specs.Scenarios.{tasks_of, geometry_of, first_words, first_map, turns_in}
use Rattle.core_machine.specs.Trace.{TraceEvent, history_of, takes, releases, sets, clears, IsTrace}
use Rattle.core_machine.specs.Facts.{FitsHistory}

-- An outcome of a scenario is what a trace of its schedule leaves, and fits the trace's history.
-- Each lock bit is set where its lock was taken and not released, and each duty word is 1 where it
-- was set and not cleared.
pub record IsRun (s : Scenario) (o : Outcome) (trace : List TraceEvent) : Type 0 where
  pub geometry : o.geometry ≡ geometry_of s
  pub turns : IsTrace (geometry_of s) s.scripts (first_words s) (turns_in s) trace o.answers o.words
  pub fits : FitsHistory (geometry_of s) (first_map s) (map tasks_of s.scripts) o.answers o.words
      (history_of trace)
  pub locks : (n : ℕ) → n < 128
      → lock_bit o.words n + count_by (releases n) trace ≡ count_by (takes n) trace
  pub duty : (cpu : ℕ) → cpu < (geometry_of s).cpus
      → slice_index o.words (place_of (geometry_of s) (Duty cpu))
      + count_by (clears (geometry_of s) cpu) trace ≡ count_by (sets (geometry_of s) cpu) trace
