-- A scenario as far as its lines have been read, for the reader's inner contracts: no public
-- contract names it, and nobody has to believe it.
use Rattle.std.specs.Prelude.{List, [], ◌∷◌, ◌++◌, Option, Some, None, Result, Ok, Err, ℕ, ◌==◌, if◌then◌else◌}
use Rattle.gpt_descriptors.specs.declared.size.MaxBlock.{MaxBlock}
use Rattle.gpt_descriptors.specs.declared.size.MaxBlock.TheVariants as most
use Rattle.gpt_descriptors.specs.Sizes.{SetupData}
use Rattle.region_plan.specs.declared.region.Region.{Region}
use Rattle.scenario_text.specs.declared.draft.Head.{Head}
use Rattle.scenario_text.specs.declared.draft.Open.{Open}
use Rattle.scenario_text.specs.declared.draft.Open.TheVariants as open_script
use Rattle.scenario_text.specs.declared.draft.Draft.{Draft}
use Rattle.scenario_text.specs.declared.line.Line.{Line}
use Rattle.scenario_text.specs.declared.line.Line.TheVariants as says
use Rattle.scenario_text.specs.declared.scenario.Ask.{Ask}
use Rattle.scenario_text.specs.declared.scenario.Fault.{Fault}
use Rattle.scenario_text.specs.declared.scenario.Look.{Look}
use Rattle.scenario_text.specs.declared.scenario.Scenario.{Scenario}
use Rattle.scenario_text.specs.declared.scenario.Script.{Script}
use Rattle.scenario_text.specs.declared.scenario.Script.TheVariants as script
use Rattle.scenario_text.specs.declared.scenario.Slot.{Slot}
use Rattle.scenario_text.specs.declared.word.Setting.{Setting}
use Rattle.scenario_text.specs.declared.word.Setting.TheVariants as setting

-- the setup, the regions, the finished scripts, the script that is being read and the schedule
pub record DraftData : Type 0 where
  pub setup : SetupData
  pub regions : List Region
  pub scripts : List Script
  pub opened : Option Script
  pub schedule : List Slot

-- before the first line; each field of the setup has some value that it may have
abbrev pub first_setup : SetupData
first_setup = record {
  gigabytes = 4;
  max = most.Zero;
  lock_blocks = 0;
  first = 0;
  ring = 1;
  tables = 0;
  base = 0;
}

abbrev pub nothing_read : DraftData
nothing_read =
    record { setup = first_setup; regions = []; scripts = []; opened = None; schedule = [] }

-- the finished scripts once the one that is being read is finished
abbrev pub closed : List Script → Option Script → List Script
closed scripts None = scripts
closed scripts (Some s) = scripts ++ s ∷ []

abbrev pub with_ask : Option Script → Ask → Option Script
with_ask (Some (script.Agent asks)) a = Some (script.Agent (asks ++ a ∷ []))
with_ask o a = o

abbrev pub with_look : Option Script → Look → Option Script
with_look (Some (script.Cpu looks)) l = Some (script.Cpu (looks ++ l ∷ []))
with_look o l = o

abbrev pub max_of : ℕ → MaxBlock
max_of n =
    if n == 2 then most.Two else
    if n == 32 then most.ThirtyTwo else
    if n == 512 then most.FiveTwelve else most.Zero

abbrev pub setup_with : SetupData → Setting → ℕ → SetupData
setup_with s setting.Gpt n = s
setup_with s setting.Space n = record s { gigabytes = n }
setup_with s setting.Max n = record s { max = max_of n }
setup_with s setting.Locks n = record s { lock_blocks = n }
setup_with s setting.First n = record s { first = n }
setup_with s setting.Ring n = record s { ring = n }
setup_with s setting.Tables n = record s { tables = n }
setup_with s setting.Base n = record s { base = n }

-- the draft with one more line
abbrev pub taken : DraftData → Line → DraftData
taken d (says.OneSetting s n) = record d { setup = setup_with d.setup s n }
taken d (says.OneRegion r) = record d { regions = d.regions ++ r ∷ [] }
taken d says.NewAgent =
    record d { scripts = closed d.scripts d.opened; opened = Some (script.Agent []) }
taken d says.NewCpu =
    record d { scripts = closed d.scripts d.opened; opened = Some (script.Cpu []) }
taken d (says.OneAsk a) = record d { opened = with_ask d.opened a }
taken d (says.OneLook l) = record d { opened = with_look d.opened l }
taken d (says.OneSlot s) = record d {
  scripts = closed d.scripts d.opened;
  opened = None;
  schedule = d.schedule ++ s ∷ [];
}
taken d says.End = record d { scripts = closed d.scripts d.opened; opened = None }

abbrev pub taken_all : DraftData → List Line → DraftData
taken_all d [] = d
taken_all d (l ∷ ls) = taken_all (taken d l) ls

-- the scenario that a finished draft has
abbrev pub scenario_of : DraftData → Scenario
scenario_of d =
    record { setup = d.setup; regions = d.regions; scripts = d.scripts; schedule = d.schedule }

-- the scenario of a draft and the lines that are read after it
abbrev pub scenario_with : DraftData → Result (List Line) (ℕ × Fault) → Result Scenario (ℕ × Fault)
scenario_with d (Ok ls) = Ok (scenario_of (taken_all d ls))
scenario_with d (Err bad) = Err bad

-- ---- drafts in memory

abbrev pub setup_of : Head → SetupData
setup_of h = record {
  gigabytes = h.gigabytes;
  max = h.max;
  lock_blocks = h.lock_blocks;
  first = h.first;
  ring = h.ring;
  tables = h.tables;
  base = h.base;
}

abbrev pub opened_of : Open → Option Script
opened_of open_script.Nothing = None
opened_of (open_script.Agent asks) = Some (script.Agent asks.items)
opened_of (open_script.Cpu looks) = Some (script.Cpu looks.items)

abbrev pub data_of : Draft → DraftData
data_of d = record {
  setup = setup_of d.head;
  regions = d.regions.items;
  scripts = d.scripts.items;
  opened = opened_of d.opened;
  schedule = d.schedule.items;
}
