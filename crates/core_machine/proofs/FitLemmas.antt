-- What is played fits its scenario: no caller has more answers than calls.
use Rattle.std.proofs.Common.{◌≡◌, ℕ, ◌≤◌, [], ◌∷◌, List, map, length, refl, sym, ap, ◌∙◌, subst, arith}
use Rattle.std.specs.Prelude.{Result, Ok, Err, IfOk}
use Rattle.std.specs.List.{All}
use Rattle.std.proofs.lemmas.List.{length-map}
use Rattle.std.proofs.lemmas.List.Elements.{All-head, All-tail}
use Rattle.core_machine.proofs.Names.{Gpi, GeometryData, Scenario, Script, Task, Entry, Caller, caller_took, caller_tasks, caller_answers, IsMade, InvariantFor, caller_of, callers_from, next_number, opening_of, played, geometry_of, task_of_ask, task_of_look, turns_in}
use Rattle.core_machine.proofs.Names.script
use Rattle.core_machine.proofs.Names.caller
use Rattle.scenario_text.specs.Calls.{calls_of as calls_in, AreAnswersOf}
use Rattle.history.specs.declared.outcome.Outcome.{Outcome}
use Rattle.core_machine.specs.InnerPlay.{outcome_of}
use Rattle.core_machine.proofs.NumberLemmas.{took_tasks}
use Rattle.core_machine.proofs.MachineLemmas.{turns_leave}

-- ---- the calls of a caller

abbrev calls_of : Caller → ℕ
calls_of x = length (caller_tasks x)

took_calls : (x : Caller) (old : ℕ) → calls_of (caller_took x old) ≡ calls_of x
took_calls x old = ap (λ (tasks : List Task). length tasks) (took_tasks x old)

-- ---- the calls of a scenario

script_calls_of : (g : GeometryData) (p : ℕ) (s : Script) → calls_of (caller_of g p s) ≡ calls_in s
script_calls_of g p (script.Agent asks) = length-map asks task_of_ask
script_calls_of g p (script.Cpu looks) = length-map looks task_of_look

opening_calls : (g : GeometryData) (p : ℕ) (scripts : List Script) → map calls_of (callers_from g p scripts) ≡ map calls_in scripts
opening_calls g p [] = refl
opening_calls g p (s ∷ scripts) =
    ap (λ (n : ℕ). n ∷ map calls_of (callers_from g (next_number p s) scripts)) (script_calls_of g p s) ∙ ap (λ (ns : List ℕ). calls_in s ∷ ns) (opening_calls g (next_number p s) scripts)

-- ---- answers

few_answers : (g : GeometryData) (x : Caller) → IsMade g x → length (caller_answers x) ≤ calls_of x
few_answers g (caller.Agent a) made = made.1.answered
few_answers g (caller.Cpu q) made = made.1.answered

answers_fit : (g : GeometryData) (scripts : List Script) (callers : List Caller) → All (IsMade g) callers → map calls_of callers ≡ map calls_in scripts → AreAnswersOf scripts (map caller_answers callers)
answers_fit g [] [] made calls = tt
answers_fit g [] (x ∷ callers) made calls = absurd cc
answers_fit g (s ∷ scripts) [] made calls = absurd cc
answers_fit g (s ∷ scripts) (x ∷ callers) made calls =
    let here : calls_of x ≡ calls_in s = cc in
    let rest : map calls_of callers ≡ map calls_in scripts = cc in
    (omega (arith, here, few_answers g x (All-head (IsMade g) x callers made)), answers_fit g scripts callers (All-tail (IsMade g) x callers made) rest)

-- ---- what is played

pub played_answers : (s : Scenario) (first : List Gpi) (h : List Entry) → InvariantFor first (played s) h → AreAnswersOf s.scripts (map caller_answers (played s).callers)
played_answers s first h stands =
    answers_fit (played s).geometry s.scripts (played s).callers stands.shape.made
    (turns_leave calls_of (opening_of s) (turns_in s) took_calls ∙ opening_calls (geometry_of s) 0 s.scripts)

-- what is left of what is played: answers of the scenario's calls
pub answers_of : {E : Type 0} (s : Scenario) (first : List Gpi) (h : List Entry) (r : Result Outcome E) → InvariantFor first (played s) h → IfOk r (λ outcome. outcome ≡ outcome_of (played s))
    → IfOk r (λ outcome. AreAnswersOf s.scripts outcome.answers)
answers_of s first h (Ok outcome) stands left =
    subst (λ (o : Outcome). AreAnswersOf s.scripts o.answers) (sym left) (played_answers s first h stands)
answers_of s first h (Err e) stands left = tt
