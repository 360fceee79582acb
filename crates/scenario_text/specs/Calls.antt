-- The calls of a scenario's scripts, and lists of what they are answered.
use Rattle.std.specs.Prelude.{ℕ, ◌≤◌, List, [], ◌∷◌, length}
use Rattle.scenario_text.specs.declared.scenario.Script.{Script}
use Rattle.scenario_text.specs.declared.scenario.Script.TheVariants as script

-- the number of calls of a script
abbrev pub calls_of : Script → ℕ
calls_of (script.Agent asks) = length asks
calls_of (script.Cpu looks) = length looks

-- a list of answers for each script, none longer than the script's calls
abbrev pub AreAnswersOf : {A : Type 0} → List Script → List (List A) → Type 0
AreAnswersOf [] [] = Unit {0}
AreAnswersOf (s ∷ scripts) (own ∷ answers) =
    (length own ≤ calls_of s) × AreAnswersOf scripts answers
AreAnswersOf scripts answers = ⊥
