-- What a scenario is for the core: its geometry, its first map, the tasks of its callers, and its
-- turns.
use Rattle.std.specs.Prelude.{◌≡◌, ℕ, ◌-◌, Bool, true, false, List, ◌++◌, length, map, take, get_or, replicate, count_by, None, if◌then◌else◌}
use Rattle.std.specs.List.{flat_map, range_with_len}
use Rattle.gpi_values.specs.declared.gpi.Gpi.{Gpi}
use Rattle.gpi_values.specs.declared.gpi.Gpi.TheVariants as gpi
use Rattle.gpi_values.specs.declared.security.Source.TheVariants as source
use Rattle.gpt_descriptors.specs.Sizes.{space_granules}
use Rattle.gpt_descriptors.specs.Level0.{table_count}
use Rattle.gpt_descriptors.specs.Places.{GeometryData}
use Rattle.region_plan.specs.Regions.{region_map, region_l0}
use Rattle.region_plan.specs.Refusals.{refusal}
use Rattle.table_build.specs.Built.{region_l1, is_bad_base}
use Rattle.shared_words.specs.Start.{start_words}
use Rattle.scenario_text.specs.declared.scenario.Scenario.{Scenario}
use Rattle.scenario_text.specs.declared.scenario.Script.{Script}
use Rattle.scenario_text.specs.declared.scenario.Script.TheVariants as script
use Rattle.scenario_text.specs.declared.scenario.Ask.{Ask}
use Rattle.scenario_text.specs.declared.scenario.Ask.TheVariants as ask
use Rattle.scenario_text.specs.declared.scenario.Look.{Look}
use Rattle.scenario_text.specs.declared.scenario.Slot.{Slot}
use Rattle.scenario_text.specs.declared.scenario.Slot.TheVariants as slot
use Rattle.history.specs.declared.call.Task.{Task}
use Rattle.history.specs.declared.call.Task.TheVariants as task
use Rattle.rmm_calls.specs.Codes.{is_admitted}

-- the regions and the base are accepted
pub record IsAccepted (s : Scenario) : Type 0 where
  pub planned : refusal s.setup s.regions ≡ None
  pub based : is_bad_base s.setup s.regions ≡ false

-- ---- tasks

-- the task of a call; a monitor call of a world that isn't admitted is unknown, an admitted one is
-- the Realm's
abbrev pub task_of_ask : Ask → Task
task_of_ask (ask.Delegate pa source) = task.Delegate pa source
task_of_ask (ask.Undelegate pa source) = task.Undelegate pa source
task_of_ask (ask.SmcDelegate pa world) =
    if is_admitted world then task.Delegate pa source.Realm else task.Unknown
task_of_ask (ask.SmcUndelegate pa world) =
    if is_admitted world then task.Undelegate pa source.Realm else task.Unknown

-- the task of an access
abbrev pub task_of_look : Look → Task
task_of_look look = task.Look look.pa look.space

-- the tasks of a script
abbrev pub tasks_of : Script → List Task
tasks_of (script.Agent asks) = map task_of_ask asks
tasks_of (script.Cpu looks) = map task_of_look looks

-- ---- words and map before the first act

abbrev pub is_cpu : Script → Bool
is_cpu (script.Agent asks) = false
is_cpu (script.Cpu looks) = true

-- the number of caller c, a processor: processors are numbered from 0, in the order of the scripts
abbrev pub cpu_number : List Script → ℕ → ℕ
cpu_number scripts c = count_by is_cpu (take c scripts)

abbrev pub geometry_of : Scenario → GeometryData
geometry_of s = record {
  setup = s.setup;
  cpus = count_by is_cpu s.scripts;
  l1_tables = table_count (region_l0 s.setup s.regions);
  l0 = region_l0 s.setup s.regions ++ replicate (64 - s.setup.gigabytes) 0;
}

-- the canonical tables of the regions among the shared words
abbrev pub first_words : Scenario → List ℕ
first_words s = start_words (geometry_of s) (region_l1 s.setup s.regions)

-- the region map, granule by granule
abbrev pub first_map : Scenario → List Gpi
first_map s = map (region_map s.setup s.regions) (range_with_len 0 (space_granules s.setup))

-- a map as a function: any access beyond it
abbrev pub map_at : List Gpi → ℕ → Gpi
map_at map granule = get_or map granule gpi.Any

-- ---- turns

-- each of n callers in order has this number of turns
abbrev pub round_turns : ℕ → ℕ → List ℕ
round_turns n turns = flat_map (replicate turns) (range_with_len 0 n)

-- so often one after the other
abbrev pub rounds_of : ℕ → ℕ → ℕ → List ℕ
rounds_of n turns times = flat_map (λ k. round_turns n turns) (range_with_len 0 times)

-- the turns of a line of the schedule, by callers
abbrev pub slot_turns : ℕ → Slot → List ℕ
slot_turns n (slot.Turn c turns) = replicate turns c
slot_turns n (slot.Round turns times) = rounds_of n turns times

abbrev pub turns_in : Scenario → List ℕ
turns_in s = flat_map (slot_turns (length s.scripts)) s.schedule
