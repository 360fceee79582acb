-- The one text of a scenario: a list of lines, each a list of fields.
use Rattle.std.specs.Prelude.{ℕ, ◌*◌, ◌^◌, ◌<◌, ◌≤◌, List, [], ◌∷◌, ◌++◌, length, map, sum_by, codes}
use Rattle.std.specs.List.{flat_map, AllByRecursion}
pub use Rattle.line_text.specs.Lines.{count, address}
use Rattle.line_text.specs.Lines.{line}
use Rattle.gpi_values.specs.Names.{name_of, space_name_of, source_name_of, world_name_of}
use Rattle.gpt_descriptors.specs.declared.size.MaxBlock.{MaxBlock}
use Rattle.gpt_descriptors.specs.declared.size.MaxBlock.TheVariants as most
use Rattle.gpt_descriptors.specs.Sizes.{SetupData, IsSetup, space_bytes}
use Rattle.region_plan.specs.declared.region.Kind.{Kind}
use Rattle.region_plan.specs.declared.region.Kind.TheVariants as kind
use Rattle.region_plan.specs.declared.region.Region.{Region}
pub use Rattle.scenario_text.specs.declared.line.Line.{Line}
pub use Rattle.scenario_text.specs.declared.line.Line.TheVariants.{OneSetting, OneRegion, NewAgent, NewCpu, OneAsk, OneLook, OneSlot, End}
use Rattle.scenario_text.specs.declared.scenario.Scenario.{Scenario}
use Rattle.scenario_text.specs.declared.scenario.Script.{Script}
use Rattle.scenario_text.specs.declared.scenario.Script.TheVariants as script
use Rattle.scenario_text.specs.declared.scenario.Ask.{Ask}
use Rattle.scenario_text.specs.declared.scenario.Ask.TheVariants as ask
use Rattle.scenario_text.specs.declared.scenario.Slot.{Slot}
use Rattle.scenario_text.specs.declared.scenario.Slot.TheVariants as slot
use Rattle.scenario_text.specs.declared.word.Setting.{Setting}
use Rattle.scenario_text.specs.declared.word.Setting.TheVariants as setting

-- ---- fields

abbrev pub setting_name : Setting → List ℕ
setting_name setting.Gpt = codes "gpt"
setting_name setting.Space = codes "space"
setting_name setting.Max = codes "max"
setting_name setting.Locks = codes "locks"
setting_name setting.First = codes "first"
setting_name setting.Ring = codes "ring"
setting_name setting.Tables = codes "tables"
setting_name setting.Base = codes "base"

-- the base is an address, each other setting a count
abbrev pub setting_value : Setting → ℕ → List ℕ
setting_value setting.Base n = address n
setting_value s n = count n

abbrev pub max_count : MaxBlock → ℕ
max_count most.Zero = 0
max_count most.Two = 2
max_count most.ThirtyTwo = 32
max_count most.FiveTwelve = 512

abbrev pub kind_name : Kind → List ℕ
kind_name kind.Block = codes "block"
kind_name kind.Granule = codes "granule"

-- ---- lines

abbrev pub fields_of : Line → List (List ℕ)
fields_of (OneSetting s n) = setting_name s ∷ setting_value s n ∷ []
fields_of (OneRegion r) =
    codes "region" ∷ address r.base ∷ address r.size ∷ kind_name r.kind ∷ name_of r.gpi ∷ []
fields_of NewAgent = codes "agent" ∷ []
fields_of NewCpu = codes "cpu" ∷ []
fields_of (OneAsk (ask.Delegate pa source)) =
    codes "delegate" ∷ address pa ∷ source_name_of source ∷ []
fields_of (OneAsk (ask.Undelegate pa source)) =
    codes "undelegate" ∷ address pa ∷ source_name_of source ∷ []
fields_of (OneAsk (ask.SmcDelegate pa world)) =
    codes "smc" ∷ codes "delegate" ∷ address pa ∷ world_name_of world ∷ []
fields_of (OneAsk (ask.SmcUndelegate pa world)) =
    codes "smc" ∷ codes "undelegate" ∷ address pa ∷ world_name_of world ∷ []
fields_of (OneLook look) = codes "look" ∷ address look.pa ∷ space_name_of look.space ∷ []
fields_of (OneSlot (slot.Turn caller turns)) = codes "turn" ∷ count caller ∷ count turns ∷ []
fields_of (OneSlot (slot.Round turns times)) = codes "round" ∷ count turns ∷ count times ∷ []
fields_of End = codes "end" ∷ []

abbrev pub line_text : Line → List ℕ
line_text l = line (fields_of l)

-- ---- scenarios

-- the version of the format is 1
abbrev pub head_lines : SetupData → List Line
head_lines s =
    OneSetting setting.Gpt 1 ∷ OneSetting setting.Space s.gigabytes
    ∷ OneSetting setting.Max (max_count s.max) ∷ OneSetting setting.Locks s.lock_blocks
    ∷ OneSetting setting.First s.first ∷ OneSetting setting.Ring s.ring
    ∷ OneSetting setting.Tables s.tables ∷ OneSetting setting.Base s.base ∷ []

abbrev pub script_lines : Script → List Line
script_lines (script.Agent asks) = NewAgent ∷ map OneAsk asks
script_lines (script.Cpu looks) = NewCpu ∷ map OneLook looks

-- the lines of a scenario, in their order
abbrev pub lines_of : Scenario → List Line
lines_of s =
    head_lines s.setup ++ map OneRegion s.regions ++ flat_map script_lines s.scripts
    ++ map OneSlot s.schedule ++ End ∷ []

-- the one text of a scenario
unfoldable pub text_of : Scenario → List ℕ
text_of s = flat_map line_text (lines_of s)

-- ---- which scenarios have a text

-- the most callers, and the most turns that a schedule has
abbrev pub caller_limit : ℕ
caller_limit = 32

abbrev pub turn_limit : ℕ
turn_limit = 20000000

abbrev pub IsRegion : Region → Type 0
IsRegion r = (r.base < 2 ^ 64) × (r.size < 2 ^ 64)

abbrev pub IsAsk : Ask → Type 0
IsAsk (ask.Delegate pa source) = pa < 2 ^ 64
IsAsk (ask.Undelegate pa source) = pa < 2 ^ 64
IsAsk (ask.SmcDelegate pa world) = pa < 2 ^ 64
IsAsk (ask.SmcUndelegate pa world) = pa < 2 ^ 64

abbrev pub IsScript : SetupData → Script → Type 0
IsScript s (script.Agent asks) = AllByRecursion IsAsk asks
IsScript s (script.Cpu looks) = AllByRecursion (λ look. look.pa < space_bytes s) looks

abbrev pub IsSlot : ℕ → Slot → Type 0
IsSlot callers (slot.Turn caller turns) = (caller < callers) × (1 ≤ turns) × (turns ≤ turn_limit)
IsSlot callers (slot.Round turns times) =
    (1 ≤ turns) × (turns ≤ turn_limit) × (1 ≤ times) × (times ≤ turn_limit)

-- the turns of a line of the schedule
abbrev pub turns_of : ℕ → Slot → ℕ
turns_of callers (slot.Turn caller turns) = turns
turns_of callers (slot.Round turns times) = turns * times * callers

pub record WellFormed (s : Scenario) : Type 0 where
  pub setup : IsSetup s.setup
  pub base : s.setup.base < 2 ^ 64
  pub regions : AllByRecursion IsRegion s.regions
  pub scripts : AllByRecursion (IsScript s.setup) s.scripts
  pub callers : length s.scripts ≤ caller_limit
  pub slots : AllByRecursion (IsSlot (length s.scripts)) s.schedule
  pub turns : sum_by (turns_of (length s.scripts)) s.schedule ≤ turn_limit
