-- What a command upholds of an accepted scenario, besides the text that it writes.
use Rattle.std.specs.Prelude.{ℕ}
use Rattle.region_plan.specs.Regions.{region_map, region_l0}
use Rattle.table_build.specs.Built.{region_l1}
use Rattle.table_meaning.specs.Meaning.{TablesMean}
use Rattle.scenario_text.specs.declared.scenario.Scenario.{Scenario}
use Rattle.core_machine.specs.Scenarios.{IsAccepted}
use Rattle.core_machine.specs.Run.{IsRun}
use Rattle.core_machine.specs.InnerPlay.{played, outcome_of, played_trace}
use Rattle.load_scenario.specs.Load.{load_of}
use Rattle.gpt_cli.specs.declared.command.Command.{Command}
use Rattle.gpt_cli.specs.declared.command.Command.TheVariants as command

-- Of `tables`, that the printed tables mean the region map; of `play`, that the printed outcome is
-- what a trace of the schedule leaves, and is that of one legal history.
abbrev pub Upholds : Command → Scenario → Type 0
Upholds command.Tables s = IsAccepted s
    → TablesMean s.setup (region_l0 s.setup s.regions) (region_l1 s.setup s.regions)
    (region_map s.setup s.regions)
Upholds command.Play s = IsAccepted s → IsRun s (outcome_of (played s)) (played_trace s)

-- Of a load the same as of `play`, of the scenario of its number, which no rule refuses.
abbrev pub UpholdsLoad : ℕ → Type 0
UpholdsLoad number =
    IsAccepted (load_of number)
    × IsRun (load_of number) (outcome_of (played (load_of number))) (played_trace (load_of number))
