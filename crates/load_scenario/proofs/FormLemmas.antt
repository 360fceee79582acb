-- The scenario of a number has a text, and its regions and its table base are accepted.
use Rattle.std.proofs.Common.{◌≡◌, ℕ, zero, suc, ◌+◌, ◌^◌, ◌<◌, Bool, true, false, List, map, if◌then◌else◌, None, refl, sym, subst, inl, inr, arith}
use Rattle.std.specs.List.{range_with_len, AllByRecursion}
use Rattle.gpi_values.specs.declared.security.Source.{Source}
use Rattle.gpi_values.specs.declared.security.Source.TheVariants as source
use Rattle.gpt_descriptors.specs.Sizes.{SetupData, IsSetup, granule_bytes, word_bytes, table_words, space_bytes}
use Rattle.region_plan.specs.declared.region.Region.{Region}
use Rattle.region_plan.specs.Regions.{tabled_below}
use Rattle.region_plan.specs.Refusals.{refusal}
use Rattle.table_build.specs.Built.{is_bad_base}
use Rattle.scenario_text.specs.declared.scenario.Scenario.{Scenario}
use Rattle.scenario_text.specs.declared.scenario.Script.{Script}
use Rattle.scenario_text.specs.declared.scenario.Slot.{Slot}
use Rattle.scenario_text.specs.declared.scenario.Ask.TheVariants as ask
use Rattle.scenario_text.specs.Spelling.{WellFormed, IsAsk}
use Rattle.load_scenario.specs.Load.{draw, drawn_address, drawn_ask, drawn_look, load_setup, load_regions, load_scripts, load_schedule, load_of}

load_planned : refusal load_setup load_regions ≡ None
unfolding refusal granule_bytes tabled_below
load_planned = refl

load_based : is_bad_base load_setup load_regions ≡ false
unfolding is_bad_base granule_bytes word_bytes table_words tabled_below
load_based = refl

address_low : (d : ℕ) → drawn_address d < 2 ^ 32
address_low d = omega arith

ask_formed : (s : Source) (b : Bool) (pa : ℕ) → pa < 2 ^ 32 → IsAsk (if b then ask.Delegate pa s else ask.Undelegate pa s)
ask_formed s true pa low = omega arith
ask_formed s false pa low = omega arith

asks_formed : (s : Source) (number a n : ℕ) → AllByRecursion IsAsk (map (λ j. drawn_ask s (draw number j)) (range_with_len a n))
asks_formed s number a zero = tt
asks_formed s number a (suc n) = (ask_formed s _ _ (address_low (draw number a)), asks_formed s number (a + 1) n)

looks_formed : (number a n : ℕ) → AllByRecursion (λ look. look.pa < space_bytes load_setup) (map (λ j. drawn_look (draw number j)) (range_with_len a n))
looks_formed number a zero = tt
looks_formed number a (suc n) = (address_low (draw number a), looks_formed number (a + 1) n)

setup_formed : IsSetup load_setup
setup_formed = record { gigabytes = inl refl; lock_blocks = inr (inl refl); first = omega arith; ring_low = omega arith; ring_high = omega arith; tables = omega arith }

load_formed : (number : ℕ) → WellFormed (load_of number)
unfolding load_of
load_formed number = record {
  setup = setup_formed;
  base = omega arith;
  regions = ((omega arith, omega arith), tt);
  scripts = (asks_formed source.Realm number 0 50, (asks_formed source.Secure number 50 50, (looks_formed number 100 400, (looks_formed number 500 400, (looks_formed number 900 400, (looks_formed number 1300 400, tt))))));
  callers = omega arith;
  slots = ((omega arith, omega arith, omega arith, omega arith), tt);
  turns = omega arith;
}

pub scenario_is : (number : ℕ) (setup : SetupData) (regions : List Region) (scripts : List Script) (schedule : List Slot) → setup ≡ load_setup → regions ≡ load_regions → scripts ≡ load_scripts number → schedule ≡ load_schedule → let made : Scenario = record { setup = setup; regions = regions; scripts = scripts; schedule = schedule } in made ≡ load_of number
unfolding load_of
scenario_is number setup regions scripts schedule a b c d = λ i. record { setup = a i; regions = b i; scripts = c i; schedule = d i }

pub formed : (number : ℕ) (made : Scenario) → made ≡ load_of number → WellFormed made
formed number made is = subst WellFormed (sym is) (load_formed number)

pub planned : (number : ℕ) (made : Scenario) → made ≡ load_of number → refusal made.setup made.regions ≡ None
unfolding load_of
planned number made is = subst (λ (s : Scenario). refusal s.setup s.regions ≡ None) (sym is) load_planned

pub based : (number : ℕ) (made : Scenario) → made ≡ load_of number → is_bad_base made.setup made.regions ≡ false
unfolding load_of
based number made is = subst (λ (s : Scenario). is_bad_base s.setup s.regions ≡ false) (sym is) load_based
