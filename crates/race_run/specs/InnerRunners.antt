-- Callers that run beside each other, each with its pass.
use Rattle.std.specs.Prelude.{◌≡◌, ℕ, List, slice_get, Some, None}
use Rattle.core_machine.specs.declared.caller.Caller.{Caller}
use Rattle.core_machine.specs.InnerCallers.{caller_next}
use Rattle.race_run.specs.declared.racing.Runner.{Runner}
use Rattle.race_run.specs.Passes.{FieldData, IsPassOf, PassData}

abbrev pub pass_in : Runner → PassData
pass_in r = r.pass

abbrev pub caller_in : Runner → Caller
caller_in r = r.caller

-- each pass is of this field, and of its caller, whose number is its place
abbrev pub AreRunners : FieldData → List Runner → Type 0
AreRunners f runners =
    (c : ℕ) (r : Runner) → slice_get runners c ≡ Some r → IsPassOf f r.pass c r.caller

-- no caller has an act left
abbrev pub HaveEnded : List Runner → Type 0
HaveEnded runners =
    (c : ℕ) (r : Runner) → slice_get runners c ≡ Some r → caller_next r.caller ≡ None
