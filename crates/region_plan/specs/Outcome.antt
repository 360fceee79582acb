-- What an error of planning says.
use Rattle.std.specs.Prelude.{◌≡◌, Option, Some}
use Rattle.region_plan.specs.declared.refusing.PlanError.{PlanError}
use Rattle.region_plan.specs.declared.refusing.PlanError.TheVariants as refused

-- an error names the first rule that fails; want of memory names none
abbrev pub IsRefusal : PlanError → Option PlanError → Type 0
IsRefusal refused.Memory first = Unit {0}
IsRefusal e first = first ≡ Some e
