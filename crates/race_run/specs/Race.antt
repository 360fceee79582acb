-- What callers that ran beside each other leave is one legal history of a plain map from granule to GPI.
use Rattle.std.specs.Prelude.{◌≡◌, List, map}
use Rattle.scenario_text.specs.declared.scenario.Scenario.{Scenario}
use Rattle.scenario_text.specs.Calls.{AreAnswersOf}
use Rattle.history.specs.declared.entry.Entry.{Entry}
use Rattle.history.specs.declared.outcome.Outcome.{Outcome}
use Rattle.core_machine.specs.Scenarios.{tasks_of, geometry_of, first_map}
use Rattle.core_machine.specs.Facts.{AllAnswered, FitsHistory}

-- Each call of the scenario is answered, and answers and words fit this history.
pub record HasRaced (s : Scenario) (o : Outcome) (h : List Entry) : Type 0 where
  pub geometry : o.geometry ≡ geometry_of s
  pub fits : FitsHistory (geometry_of s) (first_map s) (map tasks_of s.scripts) o.answers o.words h
  pub answered : AllAnswered (map tasks_of s.scripts) o.answers
  -- and has one answer alone
  pub within : AreAnswersOf s.scripts o.answers
