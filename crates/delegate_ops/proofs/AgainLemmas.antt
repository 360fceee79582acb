-- A transition that begins again, for another call at the address of the one before.
use Rattle.std.proofs.Common.{◌≡◌, ℕ, ◌+◌, ◌≤◌, ◌<◌, ◌++◌, ◌∷◌, [], List, false, Option, None, Some, length, drop, refl, ap, ◌∙◌, sym, subst, arith, length-append, append-nil}
use Rattle.std.specs.Prelude.{slice_get, IsSome}
use Rattle.std.specs.Option.{option_map}
use Rattle.std.proofs.lemmas.Option.{slice_get_within}
use Rattle.gpt_descriptors.specs.declared.size.Size.TheVariants as size
use Rattle.gpt_descriptors.specs.Places.{GeometryData, l1_place_of, line_place_of, gen_place_of}
use Rattle.bit_locks.specs.Locks.{lock_number, bit_with}
use Rattle.history.specs.declared.call.Task.{Task}
use Rattle.history.specs.declared.call.Task.TheVariants as task
use Rattle.history.specs.declared.call.Answer.{Answer}
use Rattle.delegate_ops.specs.declared.places.Places.{Places}
use Rattle.delegate_ops.specs.InnerStages as stage
use Rattle.delegate_ops.specs.Deciding.{address_of, granule_place, is_unusable, idle_answer}
use Rattle.delegate_ops.specs.InnerAgents.{AgentData, IsAgent, HasActs, task_of, idle_answers, after_answer, number_of}
use Rattle.delegate_ops.specs.InnerTransition.{TransitionData, IsTransition, IsMove, places_of, begun}
use Rattle.delegate_ops.proofs.DecidingLemmas.{acts_usable}
use Rattle.delegate_ops.proofs.AgentLemmas.{get_drop, locking_fits}
use Rattle.delegate_ops.proofs.TransitionLemmas.{agent_of}

-- a task that moves the granule of a usable address has acts
moves_act : (g : GeometryData) (t : Task) → IsMove t → is_unusable g (address_of t) ≡ false → idle_answer g t ≡ None
moves_act g (task.Delegate pa source) moves usable = rw usable refl
moves_act g (task.Undelegate pa source) moves usable = rw usable refl
moves_act g task.Unknown moves usable = absurd moves
moves_act g (task.Look pa space) moves usable = absurd moves

pub again_acts : (g : GeometryData) (d : TransitionData) (t : Task) → IsTransition g d → IsMove t → address_of t ≡ address_of d.task → idle_answer g t ≡ None
again_acts g d t is moves same = moves_act g t moves (ap (is_unusable g) same ∙ acts_usable g d.task is.acts)

-- the places of a task are those of its address
abbrev places_at : GeometryData → ℕ → Places
places_at g pa = record {
  lock = bit_with (lock_number g.setup pa);
  word = number_of (l1_place_of g pa);
  field = granule_place g pa;
  line = number_of (line_place_of g pa);
  two = gen_place_of g size.Two pa;
  thirty_two = gen_place_of g size.ThirtyTwo pa;
  five_twelve = gen_place_of g size.FiveTwelve pa;
}

pub again_places : (g : GeometryData) (d : TransitionData) (t : Task) → IsTransition g d → address_of t ≡ address_of d.task → d.places ≡ places_of g t
again_places g d t is same = is.places ∙ ap (places_at g) (sym same)

-- so it is the transition of that call before its first act
pub again_begun : (g : GeometryData) (d e : TransitionData) (t : Task) → IsTransition g d → address_of t ≡ address_of d.task → e ≡ record { task = t; places = d.places; stage = stage.Locking; waited = false } → e ≡ begun g t
again_begun g d e t is same after = after ∙ ap (λ (p : Places). record { task = t; places = p; stage = stage.Locking; waited = false }) (again_places g d t is same)

pub begun_is : (g : GeometryData) (d e : TransitionData) (t : Task) → IsTransition g d → IsMove t → address_of t ≡ address_of d.task → e ≡ begun g t → IsTransition g e
begun_is g d e t is moves same after =
    subst (IsTransition g) (sym after) (record { geometry = is.geometry; places = refl; acts = again_acts g d t is moves same; moves = moves; stage = tt; kept = tt })

-- ---- an agent whose next call begins so

-- a list whose first task has acts begins with no answer
no_idle : (g : GeometryData) (tasks : List Task) → HasActs g (slice_get tasks 0) → idle_answers g tasks ≡ []
no_idle g [] acts = refl
no_idle g (t ∷ tasks) acts = rw acts refl

begun_at : (g : GeometryData) (tasks : List Task) (answers : List Answer) (o : Option Task)
    → agent_of g tasks answers (option_map (begun g) o) ≡ record { geometry = g; tasks = tasks; answers = answers; stage = stage.Locking; waited = false }
begun_at g tasks answers None = refl
begun_at g tasks answers (Some t) = refl

-- it is the agent after that answer
pub again_answered : (g : GeometryData) (tasks : List Task) (answers items : List Answer) (given : Answer) (u v : Option TransitionData) (a : AgentData) → agent_of g tasks answers v ≡ a
    → items ≡ answers ++ given ∷ [] → HasActs g (slice_get tasks (length items)) → u ≡ option_map (begun g) (slice_get tasks (length items))
    → agent_of g tasks items u ≡ after_answer a given
again_answered g tasks answers items given u v a view pushed acts begins =
    let rest = drop (length answers + 1) tasks in
    let count : length items ≡ length answers + 1 + 0 = let all = ap length pushed ∙ length-append answers (given ∷ []) in omega (arith, all) in
    let none : idle_answers g rest ≡ [] = no_idle g rest (subst (HasActs g) (ap (slice_get tasks) count ∙ sym (get_drop tasks (length answers + 1) 0)) acts) in
    let all : items ≡ (answers ++ given ∷ []) ++ idle_answers g rest =
    pushed ∙ sym (append-nil (answers ++ given ∷ [])) ∙ ap (λ (after : List Answer). (answers ++ given ∷ []) ++ after) (sym none) in
    ap (agent_of g tasks items) begins ∙ begun_at g tasks items (slice_get tasks (length items))
    ∙ ap (λ (xs : List Answer). record { geometry = g; tasks = tasks; answers = xs; stage = stage.Locking; waited = false }) all
    ∙ ap (λ (x : AgentData). after_answer x given) view

-- a list has a place where it has a task
task_within : (tasks : List Task) (n : ℕ) (o : Option Task) → slice_get tasks n ≡ o → IsSome o → n < length tasks
task_within tasks n None there some = absurd cc
task_within tasks n (Some t) there some = slice_get_within tasks n t there

pub answered_within : (g : GeometryData) (tasks : List Task) (answers items : List Answer) (given : Answer) (v : Option TransitionData) (a : AgentData) → agent_of g tasks answers v ≡ a
    → items ≡ answers ++ given ∷ [] → IsSome (task_of a) → length items ≤ length tasks
answered_within g tasks answers items given v a view pushed some =
    let within = task_within tasks (length answers) _ refl (subst (λ (x : AgentData). IsSome (task_of x)) (sym view) some) in
    let all = ap length pushed ∙ length-append answers (given ∷ []) in
    omega (arith, all, within)

pub again_is_agent : (g : GeometryData) (tasks : List Task) (answers items : List Answer) (given : Answer) (u v : Option TransitionData) (a : AgentData) → agent_of g tasks answers v ≡ a
    → items ≡ answers ++ given ∷ [] → HasActs g (slice_get tasks (length items)) → u ≡ option_map (begun g) (slice_get tasks (length items)) → IsSome (task_of a) → IsAgent (agent_of g tasks answers v)
    → IsAgent (agent_of g tasks items u)
again_is_agent g tasks answers items given u v a view pushed acts begins some is =
    subst IsAgent (sym (ap (agent_of g tasks items) begins ∙ begun_at g tasks items (slice_get tasks (length items)))) (record {
      geometry = is.geometry;
      no_looks = is.no_looks;
      answered = answered_within g tasks answers items given v a view pushed some;
      acts = acts;
      stage = locking_fits g (slice_get tasks (length items));
    })
