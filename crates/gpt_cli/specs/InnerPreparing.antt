-- What an input is prepared to, or what refuses it, and the line that says so.
use Rattle.std.specs.Prelude.{◌≡◌, ℕ, ◌<◌, ◌≤◌, true, List, [], length, None, Some}
use Rattle.scenario_text.specs.declared.scenario.Scenario.{Scenario}
use Rattle.scenario_text.specs.declared.scenario.TextError.{TextError}
use Rattle.scenario_text.specs.declared.scenario.TextError.TheVariants as text_error
use Rattle.scenario_text.specs.Spelling.{WellFormed, text_of}
use Rattle.scenario_text.specs.Faults.{first_bad}
use Rattle.region_plan.specs.declared.refusing.PlanError.{PlanError}
use Rattle.region_plan.specs.declared.refusing.PlanError.TheVariants as plan_error
use Rattle.region_plan.specs.Refusals.{refusal}
use Rattle.table_build.specs.declared.building.BuildError.{BuildError}
use Rattle.table_build.specs.declared.building.BuildError.TheVariants as build_error
use Rattle.table_build.specs.Built.{tables_of, is_bad_base}
use Rattle.core_machine.specs.Scenarios.{IsAccepted}
use Rattle.gpt_stream.specs.declared.input.TheConstants.{INPUT_LIMIT}
use Rattle.gpt_cli.specs.declared.prepare.Prepared.{Prepared}
use Rattle.gpt_cli.specs.declared.refusal.Refusal.{Refusal}
use Rattle.gpt_cli.specs.declared.refusal.Refusal.TheVariants as cause
use Rattle.gpt_cli.specs.Texts.{too_long_text, line_text, plan_text, base_text}

-- ---- what was prepared

-- A well formed scenario whose regions and base are accepted, and its canonical tables.
pub record IsPrepared (p : Prepared) : Type 0 where
  pub formed : WellFormed p.scenario
  pub accepted : IsAccepted p.scenario
  pub built : p.tables ≡ tables_of p.scenario.setup p.scenario.regions

-- The scenario of an input that is within the limit and has no bad line.
pub record HasScenario (bytes : List ℕ) (s : Scenario) : Type 0 where
  pub within : length bytes ≤ INPUT_LIMIT
  pub good : first_bad bytes ≡ None
  pub formed : WellFormed s
  pub spelled : bytes ≡ text_of s

-- ---- what refuses an input

-- The first rule that refuses an input: the limit, then the lines, the regions and the base. Want
-- of memory is no rule, and comes only within the limit.
abbrev pub Refuses : List ℕ → Refusal → Type 0
Refuses bytes cause.TooLong = INPUT_LIMIT < length bytes
Refuses bytes (cause.Line n fault) =
    (length bytes ≤ INPUT_LIMIT) × (first_bad bytes ≡ Some (n, fault))
Refuses bytes (cause.Plan e) =
    (s : Scenario) × HasScenario bytes s × (refusal s.setup s.regions ≡ Some e)
Refuses bytes (cause.Base base) =
    (s : Scenario) × HasScenario bytes s × (refusal s.setup s.regions ≡ None)
    × (is_bad_base s.setup s.regions ≡ true) × (base ≡ s.setup.base)
Refuses bytes cause.Memory = length bytes ≤ INPUT_LIMIT

abbrev pub refusal_line : Refusal → List ℕ
refusal_line cause.TooLong = too_long_text
refusal_line (cause.Line n fault) = line_text n fault
refusal_line (cause.Plan e) = plan_text e
refusal_line (cause.Base base) = base_text base
refusal_line cause.Memory = []

-- ---- the refusal that an error of reading, planning or building is

abbrev pub of_text_error : TextError → Refusal
of_text_error (text_error.Line n fault) = cause.Line n fault
of_text_error text_error.Memory = cause.Memory

abbrev pub of_plan_error : PlanError → Refusal
of_plan_error plan_error.Memory = cause.Memory
of_plan_error e = cause.Plan e

abbrev pub of_build_error : BuildError → Refusal
of_build_error (build_error.BadBase base) = cause.Base base
of_build_error build_error.Memory = cause.Memory
