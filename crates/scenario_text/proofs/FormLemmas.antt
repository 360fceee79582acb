-- The parts of a well-formed scenario, each as a fact on every index of its list.
use Rattle.std.proofs.Common.{◌≡◌, ◌≤◌, ◌<◌, ◌^◌, ◌↔◌, Bool, true, length, sum_by}
use Rattle.std.specs.List.{All}
use Rattle.std.proofs.lemmas.List.Elements.{All-from_recursion, recursion_from_All}
use Rattle.gpt_descriptors.specs.Sizes.{IsSetup}
use Rattle.scenario_text.specs.declared.scenario.Scenario.{Scenario}
use Rattle.scenario_text.specs.Spelling.{WellFormed, IsRegion, IsScript, IsSlot, turns_of, caller_limit, turn_limit}

pub formed : (s : Scenario) → IsSetup s.setup → s.setup.base < 2 ^ 64 → length s.scripts ≤ caller_limit → All IsRegion s.regions → All (IsScript s.setup) s.scripts → (r : Bool) → (r ≡ true ↔ (All (IsSlot (length s.scripts)) s.schedule × (sum_by (turns_of (length s.scripts)) s.schedule ≤ turn_limit))) → r ≡ true ↔ WellFormed s
formed s setup base callers regions scripts r slots = (
  λ t. record {
    setup = setup;
    base = base;
    regions = recursion_from_All IsRegion s.regions regions;
    scripts = recursion_from_All (IsScript s.setup) s.scripts scripts;
    callers = callers;
    slots = recursion_from_All (IsSlot (length s.scripts)) s.schedule (slots.0 t).0;
    turns = (slots.0 t).1;
  },
  λ w. slots.1 (All-from_recursion (IsSlot (length s.scripts)) s.schedule w.slots, w.turns),
)
