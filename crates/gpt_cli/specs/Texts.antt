-- The lines that the program writes in place of a report.
use Rattle.std.specs.Prelude.{ℕ, List, [], ◌∷◌, ◌++◌, codes}
use Rattle.scenario_text.specs.declared.scenario.Fault.{Fault}
use Rattle.scenario_text.specs.declared.scenario.Fault.TheVariants as fault
use Rattle.line_text.specs.Lines.{count, address}
use Rattle.region_plan.specs.declared.refusing.PlanError.{PlanError}
use Rattle.region_plan.specs.declared.refusing.PlanError.TheVariants as refused

abbrev pub usage_text : List ℕ
usage_text = codes "usage: gpt_cli tables | play | race | load N" ++ 10 ∷ []

abbrev pub too_long_text : List ℕ
too_long_text = codes "too long" ++ 10 ∷ []

abbrev pub fault_name : Fault → List ℕ
fault_name fault.Word = codes "word"
fault_name fault.Fields = codes "fields"
fault_name fault.Number = codes "number"
fault_name fault.Value = codes "value"
fault_name fault.End = codes "end"
fault_name fault.After = codes "after"
fault_name fault.Limit = codes "limit"

-- the first bad line of the input, counted from 1, and its fault
abbrev pub line_text : ℕ → Fault → List ℕ
line_text n f = codes "line " ++ count n ++ codes ": " ++ fault_name f ++ 10 ∷ []

-- the rule that refuses the regions
abbrev pub plan_text : PlanError → List ℕ
plan_text refused.Empty = codes "plan: empty" ++ 10 ∷ []
plan_text refused.TooMany = codes "plan: too many" ++ 10 ∷ []
plan_text (refused.Unaligned i) = codes "plan: unaligned " ++ count i ++ 10 ∷ []
plan_text (refused.Outside i) = codes "plan: outside " ++ count i ++ 10 ∷ []
plan_text (refused.NotBlock i) = codes "plan: not block " ++ count i ++ 10 ∷ []
plan_text (refused.Overlap i j) =
    codes "plan: overlap " ++ (count i ++ (codes " " ++ (count j ++ 10 ∷ [])))
plan_text (refused.NoTables need) = codes "plan: tables " ++ count need ++ 10 ∷ []
plan_text refused.Memory = []

abbrev pub base_text : ℕ → List ℕ
base_text base = codes "base: " ++ address base ++ 10 ∷ []
