-- What callers that ran to their ends leave: each call is answered, and answers and words fit the history.
use Rattle.std.proofs.Common.{◌≡◌, ◌≤◌, ℕ, suc, List, [], ◌∷◌, length, map, Some, None, refl, sym, ap, ◌∙◌, subst, arith}
use Rattle.std.specs.Prelude.{slice_get}
use Rattle.std.specs.Option.{option_map}
use Rattle.std.proofs.lemmas.List.{length-map}
use Rattle.std.proofs.lemmas.Option.{slice_get-map}
use Rattle.gpt_descriptors.specs.Places.{GeometryData}
use Rattle.scenario_text.specs.declared.scenario.Scenario.{Scenario}
use Rattle.scenario_text.specs.declared.scenario.Script.{Script}
use Rattle.scenario_text.specs.declared.scenario.Script.TheVariants as script
use Rattle.scenario_text.specs.Calls.{AreAnswersOf, calls_of}
use Rattle.history.specs.declared.call.Task.{Task}
use Rattle.history.specs.declared.call.Answer.{Answer}
use Rattle.history.specs.declared.outcome.Outcome.{Outcome}
use Rattle.processor.proofs.CpuLemmas.{some_mapped}
use Rattle.core_machine.specs.declared.caller.Caller.{Caller}
use Rattle.core_machine.specs.Facts.{AllAnswered, FitsHistory}
use Rattle.core_machine.specs.InnerCallers.{caller_answers, caller_next, caller_tasks}
use Rattle.core_machine.specs.InnerOpening.{AreStarting}
use Rattle.core_machine.specs.InnerPlay.{callers_from, next_number}
use Rattle.core_machine.specs.Scenarios.{first_map, first_words, geometry_of, task_of_ask, task_of_look, tasks_of}
use Rattle.core_machine.proofs.NumberLemmas.{script_tasks}
use Rattle.race_run.specs.declared.racing.Runner.{Runner}
use Rattle.race_run.specs.declared.view.Opening.{Opening}
use Rattle.race_run.specs.Passes.{AreOn, FieldData, IsPassOf, PassData}
use Rattle.race_run.specs.Closing.{AreAll, HasClosed}
use Rattle.race_run.specs.Race.{HasRaced}
use Rattle.race_run.specs.InnerRunners.{AreRunners, HaveEnded, caller_in, pass_in}

-- ---- callers with their passes

mapped_at : {X Y : Type 0} (f : X → Y) (xs : List X) (c : ℕ) (x : X) → slice_get xs c ≡ Some x → slice_get (map f xs) c ≡ Some (f x)
mapped_at f xs c x at = slice_get-map f xs c ∙ ap (option_map f) at

pub runners_are : (f : FieldData) (passes : List PassData) (callers : List Caller) (runners : List Runner) → map pass_in runners ≡ passes → map caller_in runners ≡ callers → AreOn f passes callers → AreRunners f runners
runners_are f passes callers runners first second are c r at =
    are.each c r.pass r.caller (ap (λ (ps : List PassData). slice_get ps c) (sym first) ∙ mapped_at pass_in runners c r at) (ap (λ (xs : List Caller). slice_get xs c) (sym second) ∙ mapped_at caller_in runners c r at)

runner_there : {Y : Type 0} (f : Runner → Y) (runners : List Runner) (ys : List Y) (c : ℕ) (y : Y) → ys ≡ map f runners → slice_get ys c ≡ Some y → (r : Runner) × (slice_get runners c ≡ Some r) × (f r ≡ y)
runner_there f runners ys c y is at = some_mapped f (slice_get runners c) y (sym (slice_get-map f runners c) ∙ ap (λ l. slice_get l c) (sym is) ∙ at)

pub all_again : (f : FieldData) (passes : List PassData) (callers : List Caller) (runners : List Runner) → passes ≡ map pass_in runners → callers ≡ map caller_in runners → length runners ≡ length f.opening.callers → AreRunners f runners → AreAll f passes callers
all_again f passes callers runners first second many are =
    record {
      on = record {
        many = ap (λ (ps : List PassData). length ps) first ∙ length-map runners pass_in ∙ sym (ap (λ (xs : List Caller). length xs) second ∙ length-map runners caller_in);
        each = λ c p x at there.
            let one = runner_there pass_in runners passes c p first at in
            let two = runner_there caller_in runners callers c x second there in
            let same : one.0 ≡ two.0 = (let both : Some one.0 ≡ Some two.0 = sym one.1 ∙ two.1 in cc) in
            subst (λ (q : PassData). IsPassOf f q c x) one.2 (subst (IsPassOf f one.0.pass c) (ap (λ (r : Runner). r.caller) same ∙ two.2) (are c one.0 one.1));
      };
      all = ap (λ (xs : List Caller). length xs) second ∙ length-map runners caller_in ∙ many;
    }

pub none_next : (callers : List Caller) (runners : List Runner) → callers ≡ map caller_in runners → HaveEnded runners → (c : ℕ) (x : Caller) → slice_get callers c ≡ Some x → caller_next x ≡ None
none_next callers runners is ended c x at =
    let there = runner_there caller_in runners callers c x is at in
    subst (λ (y : Caller). caller_next y ≡ None) there.2 (ended c there.0 there.1)

-- ---- the scenario's calls

tasks_from : (g : GeometryData) (n : ℕ) (scripts : List Script) → map caller_tasks (callers_from g n scripts) ≡ map tasks_of scripts
tasks_from g n [] = refl
tasks_from g n (s ∷ scripts) = λ i. script_tasks g n s i ∷ tasks_from g (next_number n s) scripts i

script_calls : (s : Script) → length (tasks_of s) ≡ calls_of s
script_calls (script.Agent asks) = length-map asks task_of_ask
script_calls (script.Cpu looks) = length-map looks task_of_look

answers_within : (scripts : List Script) (callers : List Caller) → map caller_tasks callers ≡ map tasks_of scripts
    → ((c : ℕ) (x : Caller) → slice_get callers c ≡ Some x → length (caller_answers x) ≤ length (caller_tasks x)) → AreAnswersOf scripts (map caller_answers callers)
answers_within [] [] same within = tt
answers_within [] (x ∷ callers) same within = absurd cc
answers_within (s ∷ scripts) [] same within = absurd cc
answers_within (s ∷ scripts) (x ∷ callers) same within =
    let first : caller_tasks x ≡ tasks_of s = (let both : caller_tasks x ∷ map caller_tasks callers ≡ tasks_of s ∷ map tasks_of scripts = same in cc) in
    let rest : map caller_tasks callers ≡ map tasks_of scripts = (let both : caller_tasks x ∷ map caller_tasks callers ≡ tasks_of s ∷ map tasks_of scripts = same in cc) in (
      omega (arith, within 0 x refl, ap (λ (ts : List Task). length ts) first, script_calls s),
      answers_within scripts callers rest (λ c y at. within (suc c) y at),
    )

-- ---- the outcome

-- what the whole run leaves
pub record Raced (s : Scenario) (f : FieldData) (passes : List PassData) (callers : List Caller) (left : PassData) (o : Outcome) : Type 0 where
  pub opening : f.opening ≡ record { geometry = geometry_of s; words = first_words s; callers = callers_from (geometry_of s) 0 s.scripts }
  pub starting : AreStarting f.opening.geometry (first_map s) f.opening.words
  pub geometry : o.geometry ≡ geometry_of s
  pub answers : o.answers ≡ map caller_answers callers
  pub ended : (c : ℕ) (x : Caller) → slice_get callers c ≡ Some x → caller_next x ≡ None
  pub closed : HasClosed f passes callers o.words left

module _ (s : Scenario) (f : FieldData) (passes : List PassData) (callers : List Caller) (left : PassData) (o : Outcome) (raced : Raced s f passes callers left o) where
  given_tasks : map caller_tasks f.opening.callers ≡ map tasks_of s.scripts
  given_tasks = ap (λ (p : Opening). map caller_tasks p.callers) raced.opening ∙ tasks_from (geometry_of s) 0 s.scripts

  pub raced_answers : AreAnswersOf s.scripts o.answers
  raced_answers = subst (AreAnswersOf s.scripts) (sym raced.answers) (answers_within s.scripts callers (raced.closed.tasks ∙ given_tasks) raced.closed.within)

  pub has_raced : HasRaced s o left.view.seen
  has_raced = record {
    geometry = raced.geometry;
    fits =
        subst (λ (g : GeometryData). FitsHistory g (first_map s) (map tasks_of s.scripts) o.answers o.words left.view.seen) (ap (λ (p : Opening). p.geometry) raced.opening)
        (subst (λ (tasks : List (List Task)). FitsHistory f.opening.geometry (first_map s) tasks o.answers o.words left.view.seen) given_tasks
        (subst (λ (answers : List (List Answer)). FitsHistory f.opening.geometry (first_map s) (map caller_tasks f.opening.callers) answers o.words left.view.seen) (sym raced.answers)
        (raced.closed.fits (first_map s) raced.starting)));
    answered =
        subst (λ (tasks : List (List Task)). AllAnswered tasks o.answers) given_tasks
        (subst (AllAnswered (map caller_tasks f.opening.callers)) (sym raced.answers) (raced.closed.answered raced.ended));
    within = raced_answers;
  }
