-- The scenario of a number: two agents and four processors, whose calls are drawn from the number
-- by a linear congruential generator.
use Rattle.std.specs.Prelude.{ℕ, zero, suc, ◌+◌, ◌*◌, ◌/◌, ◌%◌, ◌^◌, List, [], ◌∷◌, map, ◌==◌, if◌then◌else◌}
use Rattle.std.specs.List.{range_with_len}
use Rattle.gpi_values.specs.declared.gpi.Gpi.TheVariants as gpi
use Rattle.gpi_values.specs.declared.gpi.Space.{Space}
use Rattle.gpi_values.specs.declared.gpi.Space.TheVariants as space
use Rattle.gpi_values.specs.declared.security.Source.{Source}
use Rattle.gpi_values.specs.declared.security.Source.TheVariants as source
use Rattle.gpt_descriptors.specs.declared.size.MaxBlock.TheVariants as most
use Rattle.gpt_descriptors.specs.Sizes.{SetupData}
use Rattle.region_plan.specs.declared.region.Kind.TheVariants as kind
use Rattle.region_plan.specs.declared.region.Region.{Region}
use Rattle.scenario_text.specs.declared.scenario.Scenario.{Scenario}
use Rattle.scenario_text.specs.declared.scenario.Script.{Script}
use Rattle.scenario_text.specs.declared.scenario.Script.TheVariants as script
use Rattle.scenario_text.specs.declared.scenario.Ask.{Ask}
use Rattle.scenario_text.specs.declared.scenario.Ask.TheVariants as ask
use Rattle.scenario_text.specs.declared.scenario.Look.{Look}
use Rattle.scenario_text.specs.declared.scenario.Slot.{Slot}
use Rattle.scenario_text.specs.declared.scenario.Slot.TheVariants as slot

-- ---- draws

-- the generator's next value
abbrev pub stepped : ℕ → ℕ
stepped x = (x * 6364136223846793005 + 1442695040888963407) % 2 ^ 64

-- its value after n steps from x
unfoldable pub stepped_by : ℕ → ℕ → ℕ
stepped_by zero x = x
stepped_by (suc n) x = stepped (stepped_by n x)

-- the draw of call j of the scenario, counted from 0, in the order of callers and then of calls:
-- one step each, and of the value its upper 31 bits
abbrev pub draw : ℕ → ℕ → ℕ
draw number j = stepped_by (j + 1) number / 2 ^ 33

-- ---- the call of a draw

-- one of four granules of one of four lots of 2 MB of one of eight lots of 512 MB
abbrev pub drawn_address : ℕ → ℕ
drawn_address d = d % 8 * 0x20000000 + d / 8 % 4 * 0x200000 + d / 32 % 4 * 0x1000

abbrev pub drawn_ask : Source → ℕ → Ask
drawn_ask s d =
    if d / 128 % 2 == 0
    then ask.Delegate (drawn_address d) s
    else ask.Undelegate (drawn_address d) s

-- the space of a number of at most 3
abbrev pub numbered_space : ℕ → Space
numbered_space k =
    if k == 0 then space.Secure
    else if k == 1 then space.NonSecure
    else if k == 2 then space.Root
    else space.Realm

abbrev pub drawn_look : ℕ → Look
drawn_look d = record { pa = drawn_address d; space = numbered_space (d / 128 % 4) }

-- ---- the scenario

-- an agent with 50 calls, and a processor with 400 accesses, the first of which is call `first`
abbrev pub drawn_agent : ℕ → ℕ → Source → Script
drawn_agent number first s =
    script.Agent (map (λ j. drawn_ask s (draw number j)) (range_with_len first 50))

abbrev pub drawn_cpu : ℕ → ℕ → Script
drawn_cpu number first =
    script.Cpu (map (λ j. drawn_look (draw number j)) (range_with_len first 400))

abbrev pub load_setup : SetupData
load_setup = record {
  gigabytes = 4;
  max = most.FiveTwelve;
  lock_blocks = 1;
  first = 0;
  ring = 8;
  tables = 4;
  base = 0x80000000;
}

-- all 4 GB Non-secure by granules
abbrev pub load_regions : List Region
load_regions =
    record { base = 0; size = 0x100000000; kind = kind.Granule; gpi = gpi.NonSecure } ∷ []

abbrev pub load_scripts : ℕ → List Script
load_scripts number =
    drawn_agent number 0 source.Realm ∷ drawn_agent number 50 source.Secure
    ∷ drawn_cpu number 100 ∷ drawn_cpu number 500 ∷ drawn_cpu number 900
    ∷ drawn_cpu number 1300 ∷ []

-- 32,000 rounds, of 64 turns of each caller in order
abbrev pub load_schedule : List Slot
load_schedule = slot.Round 64 32000 ∷ []

unfoldable pub load_of : ℕ → Scenario
load_of number = record {
  setup = load_setup;
  regions = load_regions;
  scripts = load_scripts number;
  schedule = load_schedule;
}
