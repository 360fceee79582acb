-- The rule that refuses an input, from the error of planning or building.
use Rattle.std.proofs.Common.{◌≡◌, ℕ, ◌≤◌, List, length, None, sym, subst}
use Rattle.std.specs.Prelude.{Result, Ok, Err, IfErr, IsErrAnd}
use Rattle.scenario_text.specs.declared.scenario.Scenario.{Scenario}
use Rattle.scenario_text.specs.Spelling.{WellFormed, text_of}
use Rattle.scenario_text.specs.Faults.{first_bad}
use Rattle.region_plan.specs.declared.refusing.PlanError.{PlanError}
use Rattle.region_plan.specs.declared.refusing.PlanError.TheVariants as plan_error
use Rattle.region_plan.specs.Refusals.{refusal}
use Rattle.region_plan.specs.Outcome.{IsRefusal}
use Rattle.table_build.specs.declared.building.BuildError.{BuildError}
use Rattle.table_build.specs.declared.building.BuildError.TheVariants as build_error
use Rattle.table_build.specs.Built.{is_bad_base}
use Rattle.table_build.specs.Outcome.{IsBadBase}
use Rattle.gpt_stream.specs.declared.input.TheConstants.{INPUT_LIMIT}
use Rattle.gpt_cli.specs.declared.refusal.Refusal.{Refusal}
use Rattle.gpt_cli.specs.InnerPreparing.{HasScenario, Refuses, of_plan_error, of_build_error}

pub has_scenario : (bytes : List ℕ) (s : Scenario) → length bytes ≤ INPUT_LIMIT → first_bad bytes ≡ None → WellFormed s × (bytes ≡ text_of s) → HasScenario bytes s
has_scenario bytes s within good text = record { within = within; good = good; formed = text.0; spelled = text.1 }

pub plan_refuses : (bytes : List ℕ) (s : Scenario) (e : PlanError) → HasScenario bytes s → IsRefusal e (refusal s.setup s.regions) → Refuses bytes (of_plan_error e)
plan_refuses bytes s plan_error.Empty read bad = (s, read, bad)
plan_refuses bytes s plan_error.TooMany read bad = (s, read, bad)
plan_refuses bytes s (plan_error.Unaligned i) read bad = (s, read, bad)
plan_refuses bytes s (plan_error.Outside i) read bad = (s, read, bad)
plan_refuses bytes s (plan_error.NotBlock i) read bad = (s, read, bad)
plan_refuses bytes s (plan_error.Overlap i j) read bad = (s, read, bad)
plan_refuses bytes s (plan_error.NoTables need) read bad = (s, read, bad)
plan_refuses bytes s plan_error.Memory read bad = read.within

pub build_refuses : (bytes : List ℕ) (s : Scenario) (e : BuildError) → HasScenario bytes s → refusal s.setup s.regions ≡ None
    → IsBadBase e s.setup.base (is_bad_base s.setup s.regions) → Refuses bytes (of_build_error e)
build_refuses bytes s (build_error.BadBase base) read planned bad = (s, read, planned, bad.1, bad.0)
build_refuses bytes s build_error.Memory read planned good = read.within

-- a `?` answers the refusal that its error is
pub refused_by : {A : Type 0} (bytes : List ℕ) (why : Refusal) (r : Result A Refusal) → IsErrAnd r (λ refusal. refusal ≡ why) → Refuses bytes why
    → IfErr r (λ refusal. Refuses bytes refusal)
refused_by bytes why (Ok a) is refuses = tt
refused_by bytes why (Err refusal) is refuses = subst (λ (r : Refusal). Refuses bytes r) (sym is) refuses
