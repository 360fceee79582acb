-- A transition after an act is one, and an agent's transition makes the acts of the task under way.
use Rattle.std.proofs.Common.{◌≡◌, ℕ, List, Bool, true, false, ltb, Option, Some, None, cond, length, refl, sym, ap, ◌∙◌, subst, inl, inr}
use Rattle.std.specs.Prelude.{IsTrue, is_some, slice_get}
use Rattle.std.specs.Option.{option_map}
use Rattle.std.proofs.lemmas.Bool.{cases_Bool}
use Rattle.gpt_descriptors.specs.declared.size.Size.{Size}
use Rattle.gpt_descriptors.specs.declared.size.Size.TheVariants as size
use Rattle.gpt_descriptors.specs.declared.size.Generations.{Generations}
use Rattle.gpt_descriptors.specs.declared.entry.L1Entry.{L1Entry}
use Rattle.gpt_descriptors.specs.declared.entry.L1Entry.TheVariants as l1
use Rattle.gpt_descriptors.specs.Entries.{l1_entry}
use Rattle.gpt_descriptors.specs.Places.{GeometryData, IsGeometry}
use Rattle.shared_words.specs.declared.act.Act.{Act}
use Rattle.shatter.specs.Splitting.{SplittingData, advanced}
use Rattle.fuse.specs.Merging.{FuseData}
use Rattle.fuse.specs.Merging as fuse
use Rattle.invalidate.specs.Barrier.{BarrierData, one_passed}
use Rattle.invalidate.specs.Barrier as barrier
use Rattle.history.specs.declared.call.Task.{Task}
use Rattle.history.specs.declared.call.Task.TheVariants as task
use Rattle.history.specs.declared.call.Answer.{Answer}
use Rattle.delegate_ops.specs.declared.places.Places.{Places}
use Rattle.delegate_ops.specs.declared.stage.Change.{Change}
use Rattle.delegate_ops.specs.declared.stage.Change.TheVariants as change
use Rattle.delegate_ops.specs.declared.stage.Line.{Line}
use Rattle.delegate_ops.specs.declared.stage.Line.TheVariants as line
use Rattle.delegate_ops.specs.declared.stage.Kept.{Kept}
use Rattle.delegate_ops.specs.InnerStages.{Stage}
use Rattle.delegate_ops.specs.InnerStages as stage
use Rattle.delegate_ops.specs.Deciding.{idle_answer, looked_answer, worn_answer}
use Rattle.delegate_ops.specs.InnerAgents.{AgentData, IsReadable, is_look, task_of, act_at, next_of, is_held, stage_after, took_at, took_of, took_under_way, after_answer, waits_at, goes_to, looked_stage, loaded_stage, read_all, read_stage, split_stage, merging_stage, first_stage, passed_stage, passing_stage, cleaned_stage, raised_stage, kept_read, kept_raised}
use Rattle.delegate_ops.specs.InnerTransition.{TransitionData, IsTransition, KeepsDescriptor, IsUnderWay, places_of, begun, act_by, next_by, is_held_by, answer_by, unended, after_by, stage_in, waited_in}
use Rattle.delegate_ops.proofs.PlaceLemmas.{same_act, same_held}
use Rattle.delegate_ops.proofs.AgentLemmas.{stage_fits, acts_move, locking_fits}

-- ---- the word that it keeps

looked_keeps : (o : Option Answer) (word : ℕ) → IsTrue (is_some (l1_entry word)) → KeepsDescriptor (looked_stage o word)
looked_keeps None word readable = readable
looked_keeps (Some refused) word readable = tt

first_keeps : (t : Task) (k : Kept) → KeepsDescriptor (first_stage t k)
first_keeps (task.Delegate pa source) k = tt
first_keeps (task.Undelegate pa source) k = tt
first_keeps task.Unknown k = tt
first_keeps (task.Look pa space) k = tt

loaded_keeps : (g : GeometryData) (t : Task) (e : Option L1Entry) (k : Kept) → KeepsDescriptor (loaded_stage g t e k)
loaded_keeps g t (Some (l1.Contig z v)) k = tt
loaded_keeps g t (Some (l1.Granules word)) k = first_keeps t k
loaded_keeps g t None k = first_keeps t k

read_all_keeps : (g : GeometryData) (o : Option Answer) (t : Task) (k : Kept) → KeepsDescriptor (read_all g o t k)
read_all_keeps g None t k = loaded_keeps g t (l1_entry k.word) k
read_all_keeps g (Some worn) t k = tt

read_keeps : (g : GeometryData) (t : Task) (z : Size) (k : Kept) → IsTrue (is_some (l1_entry k.word)) → KeepsDescriptor (read_stage g t z k)
read_keeps g t size.Two k readable = readable
read_keeps g t size.ThirtyTwo k readable = readable
read_keeps g t size.FiveTwelve k readable = read_all_keeps g (worn_answer k.generations) t k

pub split_keeps : (t : Task) (z : Size) (d : SplittingData) (k : Generations) → KeepsDescriptor (split_stage t z d k)
split_keeps t z d k = elim (cases_Bool (ltb d.made d.words)) [ inl more ↦ rw more tt | inr over ↦ rw over (first_keeps t _) ]

pub merging_keeps : (o : Option Act) (f : FuseData) (k : Generations) → KeepsDescriptor (merging_stage o f k)
merging_keeps None f k = tt
merging_keeps (Some next) f k = tt

passed_keeps : (g : GeometryData) (t : Task) (c : Change) (k : Kept) → KeepsDescriptor (passed_stage g t c k)
passed_keeps g (task.Undelegate pa source) change.Last k = merging_keeps _ _ _
passed_keeps g (task.Undelegate pa source) change.First k = tt
passed_keeps g (task.Delegate pa source) c k = tt
passed_keeps g task.Unknown c k = tt
passed_keeps g (task.Look pa space) c k = tt

passing_keeps : (g : GeometryData) (t : Task) (c : Change) (d : BarrierData) (k : Kept) → KeepsDescriptor (passing_stage g t c d k)
passing_keeps g t c d k = elim (cases_Bool (ltb d.passed d.cpus)) [ inl more ↦ rw more tt | inr over ↦ rw over (passed_keeps g t c k) ]

cleaned_keeps : (g : GeometryData) (t : Task) (c : Change) (l : Line) (k : Kept) → KeepsDescriptor (cleaned_stage g t c l k)
cleaned_keeps g t change.First line.Former k = tt
cleaned_keeps g t change.First line.NonSecure k = tt
cleaned_keeps g t change.Last l k = merging_keeps _ _ _

raised_keeps : (g : GeometryData) (t : Task) (c : Change) (z : Size) (k : Kept) → KeepsDescriptor (raised_stage g t c z k)
raised_keeps g t c size.Two k = tt
raised_keeps g t c size.ThirtyTwo k = tt
raised_keeps g t c size.FiveTwelve k = passing_keeps g t c (barrier.begun g.cpus) k

stage_keeps : (g : GeometryData) (t : Task) (s : Stage) (old : ℕ) → KeepsDescriptor s → IsReadable s old → KeepsDescriptor (stage_after g t s old)
stage_keeps g t stage.Locking old kept readable = tt
stage_keeps g t stage.Looking old kept readable = looked_keeps (looked_answer g t old) old readable
stage_keeps g t (stage.Reading z k) old kept readable = read_keeps g t z (kept_read z old k) kept
stage_keeps g t (stage.Splitting z d k) old kept readable = split_keeps t z (advanced d) k
stage_keeps g t (stage.Preparing k) old kept readable = tt
stage_keeps g t (stage.Changing c k) old kept readable = tt
stage_keeps g t (stage.Passing c d k) old kept readable = passing_keeps g t c (one_passed d) k
stage_keeps g t (stage.Cleaning c l k) old kept readable = cleaned_keeps g t c l k
stage_keeps g t (stage.Raising c z k) old kept readable = raised_keeps g t c z (kept_raised z k)
stage_keeps g t (stage.Merging f k) old kept readable = merging_keeps _ (fuse.took_of f old) k
stage_keeps g t (stage.Releasing given) old kept readable = tt

-- a transition that goes to another stage, or waits
abbrev pub moved : TransitionData → Stage → Bool → TransitionData
moved d s w = record { task = d.task; places = d.places; stage = s; waited = w }

pub goes_on : (g : GeometryData) (d : TransitionData) (old : ℕ) (w : Bool) → IsTransition g d → IsReadable d.stage old → IsTransition g (moved d (stage_after g d.task d.stage old) w)
goes_on g d old w is readable = record {
  geometry = is.geometry;
  places = is.places;
  acts = is.acts;
  moves = is.moves;
  stage = stage_fits g d.task d.stage old is.acts is.moves is.stage;
  kept = stage_keeps g d.task d.stage old is.kept readable;
}

pub waits_on : (g : GeometryData) (d : TransitionData) (w : Bool) → IsTransition g d → IsTransition g (moved d d.stage w)
waits_on g d w is = record { geometry = is.geometry; places = is.places; acts = is.acts; moves = is.moves; stage = is.stage; kept = is.kept }

after_transition : (g : GeometryData) (d : TransitionData) (old : ℕ) (o : Option Answer) → IsTransition g d → IsReadable d.stage old → IsTransition g (unended g d old o)
after_transition g d old (Some given) is readable = is
after_transition g d old None is readable =
    elim (cases_Bool (is_held_by d.places d.stage old)) [ inl held ↦ rw held (waits_on g d true is) | inr free ↦ rw free (goes_on g d old false is readable) ]

-- after an act it is one
pub stays_transition : (g : GeometryData) (d : TransitionData) (old : ℕ) → IsTransition g d → IsReadable d.stage old → IsTransition g (after_by g d old)
stays_transition g d old is readable = after_transition g d old (answer_by d.stage) is readable

-- a stage other than the release has no answer
pub no_answer : (s : Stage) → ((given : Answer) → s ≡ stage.Releasing given → ⊥) → answer_by s ≡ None
no_answer stage.Locking other = refl
no_answer stage.Looking other = refl
no_answer (stage.Reading z k) other = refl
no_answer (stage.Splitting z d k) other = refl
no_answer (stage.Preparing k) other = refl
no_answer (stage.Changing c k) other = refl
no_answer (stage.Passing c d k) other = refl
no_answer (stage.Cleaning c l k) other = refl
no_answer (stage.Raising c z k) other = refl
no_answer (stage.Merging f k) other = refl
no_answer (stage.Releasing given) other = absurd (other given refl)

-- where it neither waits nor ends
pub took_on : (g : GeometryData) (d : TransitionData) (old : ℕ) (w : Bool) (s : Stage) → answer_by d.stage ≡ None → w ≡ is_held_by d.places d.stage old → w ≡ false
    → s ≡ stage_after g d.task d.stage old → moved d s w ≡ after_by g d old
took_on g d old w s none held free next =
    let still : is_held_by d.places d.stage old ≡ false = sym held ∙ free in
    let at_none : moved d s w ≡ unended g d old None = rw (next, free, still) refl in
    at_none ∙ ap (unended g d old) (sym none)

-- before its first act it is one
pub begun_transition : (g : GeometryData) (t : Task) → IsGeometry g → idle_answer g t ≡ None → is_look t ≡ false → IsTransition g (begun g t)
begun_transition g t geometry acts no_look =
    record { geometry = geometry; places = refl; acts = acts; moves = acts_move g t acts no_look; stage = locking_fits g (Some t); kept = tt }

-- ---- that of an agent

pub begun_stage : (g : GeometryData) (o : Option Task) → stage_in (option_map (begun g) o) ≡ stage.Locking
begun_stage g None = refl
begun_stage g (Some t) = refl

pub begun_waited : (g : GeometryData) (o : Option Task) → waited_in (option_map (begun g) o) ≡ false
begun_waited g None = refl
begun_waited g (Some t) = refl

-- the task under way is the transition's
pub under_way_at : (g : GeometryData) (o : Option Task) (d : TransitionData) → IsUnderWay g o (Some d) → (o ≡ Some d.task) × IsTransition g d
under_way_at g None d is = absurd is
under_way_at g (Some t) d is = (ap (λ (u : Task). Some u) (sym is.0), is.1)

pub is_under_way : (g : GeometryData) (o : Option Task) (u : Option TransitionData) (d : TransitionData) → IsUnderWay g o u → u ≡ Some d → IsTransition g d
is_under_way g o u d is there = (under_way_at g o d (subst (IsUnderWay g o) there is)).1

pub some_under_way : (g : GeometryData) (o : Option Task) (u : Option TransitionData) (d : TransitionData) → IsUnderWay g o u → u ≡ Some d → is_some o ≡ true
some_under_way g o u d is there = ap is_some (under_way_at g o d (subst (IsUnderWay g o) there is)).0

-- an agent by its parts
abbrev pub agent_of : GeometryData → List Task → List Answer → Option TransitionData → AgentData
agent_of g tasks answers u = record { geometry = g; tasks = tasks; answers = answers; stage = stage_in u; waited = waited_in u }

next_at : (a : AgentData) (d : TransitionData) → IsUnderWay a.geometry (task_of a) (Some d) → a.stage ≡ d.stage → next_by a.geometry d ≡ next_of a
next_at a d under_way at =
    let here = under_way_at a.geometry (task_of a) d under_way in
    ap (λ (p : Places). act_by a.geometry p d.stage d.task) here.1.places
    ∙ same_act a.geometry d.task d.stage here.1.acts
    ∙ ap (λ (s : Stage). act_at a.geometry s d.task) (sym at)
    ∙ sym (rw here.0 refl)

-- its next act is the agent's
pub next_is : (g : GeometryData) (tasks : List Task) (answers : List Answer) (u : Option TransitionData) (d : TransitionData)
    → IsUnderWay g (slice_get tasks (length answers)) u → u ≡ Some d → next_by g d ≡ next_of (agent_of g tasks answers u)
next_is g tasks answers u d under_way there =
    next_at (agent_of g tasks answers u) d (subst (IsUnderWay g (slice_get tasks (length answers))) there under_way) (ap stage_in there)

-- the agent after an act by which its call isn't answered
goes_at : (a : AgentData) (t : Task) (s : Stage) (old : ℕ) → answer_by s ≡ None
    → took_at a t s old ≡ cond (is_held a.geometry t s old) (waits_at a) (goes_to a (stage_after a.geometry t s old))
goes_at a t stage.Locking old none = refl
goes_at a t stage.Looking old none = refl
goes_at a t (stage.Reading z k) old none = refl
goes_at a t (stage.Splitting z d k) old none = refl
goes_at a t (stage.Preparing k) old none = refl
goes_at a t (stage.Changing c k) old none = refl
goes_at a t (stage.Passing c d k) old none = refl
goes_at a t (stage.Cleaning c l k) old none = refl
goes_at a t (stage.Raising c z k) old none = refl
goes_at a t (stage.Merging f k) old none = refl
goes_at a t (stage.Releasing given) old none = absurd cc

ends_at : (a : AgentData) (t : Task) (s : Stage) (given : Answer) (old : ℕ) → answer_by s ≡ Some given → took_at a t s old ≡ after_answer a given
ends_at a t stage.Locking given old some = absurd cc
ends_at a t stage.Looking given old some = absurd cc
ends_at a t (stage.Reading z k) given old some = absurd cc
ends_at a t (stage.Splitting z d k) given old some = absurd cc
ends_at a t (stage.Preparing k) given old some = absurd cc
ends_at a t (stage.Changing c k) given old some = absurd cc
ends_at a t (stage.Passing c d k) given old some = absurd cc
ends_at a t (stage.Cleaning c l k) given old some = absurd cc
ends_at a t (stage.Raising c z k) given old some = absurd cc
ends_at a t (stage.Merging f k) given old some = absurd cc
ends_at a t (stage.Releasing x) given old some = ap (after_answer a) (let same : x ≡ given = cc in same)

took_by : (a : AgentData) (t : Task) (old : ℕ) → task_of a ≡ Some t → took_of a old ≡ took_at a t a.stage old
took_by a t old under_way = ap (λ (o : Option Task). took_under_way a o old) under_way

-- an agent with this stage and this waiting
abbrev pub with_parts : AgentData → TransitionData → AgentData
with_parts a d = record { geometry = a.geometry; tasks = a.tasks; answers = a.answers; stage = d.stage; waited = d.waited }

unanswered : (a : AgentData) (d : TransitionData) (old : ℕ) → d.places ≡ places_of a.geometry d.task → a.stage ≡ d.stage
    → with_parts a (unended a.geometry d old None) ≡ cond (is_held a.geometry d.task a.stage old) (waits_at a) (goes_to a (stage_after a.geometry d.task a.stage old))
unanswered a d old places at =
    let held : is_held_by d.places d.stage old ≡ is_held a.geometry d.task a.stage old =
    ap (λ (p : Places). is_held_by p d.stage old) places ∙ same_held a.geometry d.task d.stage old ∙ ap (λ (s : Stage). is_held a.geometry d.task s old) (sym at) in
    elim (cases_Bool (is_held a.geometry d.task a.stage old)) [
      | inl locked ↦ rw (held, locked) (ap (λ (s : Stage). record { geometry = a.geometry; tasks = a.tasks; answers = a.answers; stage = s; waited = true }) (sym at))
      | inr free ↦ rw (held, free)
          (ap (λ (s : Stage). record { geometry = a.geometry; tasks = a.tasks; answers = a.answers; stage = stage_after a.geometry d.task s old; waited = false }) (sym at))
    ]

took_goes : (a : AgentData) (d : TransitionData) (old : ℕ) → IsUnderWay a.geometry (task_of a) (Some d) → a.stage ≡ d.stage → answer_by d.stage ≡ None
    → with_parts a (after_by a.geometry d old) ≡ took_of a old
took_goes a d old under_way at none =
    let here = under_way_at a.geometry (task_of a) d under_way in
    ap (λ (o : Option Answer). with_parts a (unended a.geometry d old o)) none ∙ unanswered a d old here.1.places at
    ∙ sym (took_by a d.task old here.0 ∙ goes_at a d.task a.stage old (ap answer_by at ∙ none))

-- after an act by which its call isn't answered
pub goes_is : (g : GeometryData) (tasks : List Task) (answers : List Answer) (u : Option TransitionData) (d e : TransitionData) (old : ℕ)
    → IsUnderWay g (slice_get tasks (length answers)) u → u ≡ Some d → e ≡ after_by g d old → answer_by d.stage ≡ None
    → agent_of g tasks answers (Some e) ≡ took_of (agent_of g tasks answers u) old
goes_is g tasks answers u d e old under_way there after none =
    ap (λ (x : TransitionData). agent_of g tasks answers (Some x)) after
    ∙ took_goes (agent_of g tasks answers u) d old (subst (IsUnderWay g (slice_get tasks (length answers))) there under_way) (ap stage_in there) none

-- after the act by which it is answered
pub ends_is : (g : GeometryData) (tasks : List Task) (answers : List Answer) (u : Option TransitionData) (d e : TransitionData) (given : Answer) (old : ℕ)
    → IsUnderWay g (slice_get tasks (length answers)) u → u ≡ Some d → answer_by d.stage ≡ Some given
    → after_answer (agent_of g tasks answers (Some e)) given ≡ took_of (agent_of g tasks answers u) old
ends_is g tasks answers u d e given old under_way there some =
    let a = agent_of g tasks answers u in
    let here = under_way_at g (slice_get tasks (length answers)) d (subst (IsUnderWay g (slice_get tasks (length answers))) there under_way) in
    sym (took_by a d.task old here.0 ∙ ends_at a d.task a.stage given old (ap answer_by (ap stage_in there) ∙ some))

-- its task stays
still_task : (g : GeometryData) (d : TransitionData) (old : ℕ) (o : Option Answer) → (unended g d old o).task ≡ d.task
still_task g d old (Some given) = refl
still_task g d old None = elim (cases_Bool (is_held_by d.places d.stage old)) [ inl held ↦ rw held refl | inr free ↦ rw free refl ]

pub still_at : (g : GeometryData) (o : Option Task) (d e : TransitionData) → e.task ≡ d.task → IsTransition g e → IsUnderWay g o (Some d) → IsUnderWay g o (Some e)
still_at g None d e task is under_way = absurd under_way
still_at g (Some t) d e task is under_way = (task ∙ under_way.0, is)

pub still_under_way : (g : GeometryData) (o : Option Task) (u : Option TransitionData) (d e : TransitionData) (old : ℕ)
    → IsUnderWay g o u → u ≡ Some d → e ≡ after_by g d old → IsTransition g e → IsUnderWay g o (Some e)
still_under_way g o u d e old under_way there after is =
    still_at g o d e (ap (λ (x : TransitionData). x.task) after ∙ still_task g d old (answer_by d.stage)) is (subst (IsUnderWay g o) there under_way)
