-- Runs of an agent's stores.
use Rattle.std.proofs.Common.{◌≡◌, ℕ, zero, suc, ◌<◌, ltb, true, List, length, Option, Some, refl, sym, ap, ◌∙◌, subst, arith, inl, inr}
use Rattle.std.specs.Prelude.{slice_get}
use Rattle.std.proofs.lemmas.Bool.{cases_Bool}
use Rattle.gpt_descriptors.specs.declared.size.Size.{Size}
use Rattle.gpt_descriptors.specs.declared.size.Generations.{Generations}
use Rattle.gpt_descriptors.specs.Places.{GeometryData}
use Rattle.shared_words.specs.declared.act.Act.{Act}
use Rattle.shared_words.specs.declared.act.StoreRun.{StoreRun}
use Rattle.shared_words.specs.Acts.{store_in}
use Rattle.shatter.specs.Splitting.{SplittingData}
use Rattle.shatter.specs.Splitting as splitting
use Rattle.fuse.specs.Merging.{FuseData}
use Rattle.fuse.specs.Merging as fuse
use Rattle.history.specs.declared.call.Task.{Task}
use Rattle.history.specs.declared.call.Answer.{Answer}
use Rattle.delegate_ops.specs.InnerStages.{Stage}
use Rattle.delegate_ops.specs.InnerStages as stage
use Rattle.delegate_ops.specs.InnerAgents.{AgentData, IsAgent, IsStage, task_of, act_at, next_of, took_at, took_of, took_under_way, goes_to, split_stage, merging_stage, merged_stage}
use Rattle.delegate_ops.specs.InnerTransition.{TransitionData, IsTransition, IsUnderWay, KeepsDescriptor, goes_by, stage_in}
use Rattle.delegate_ops.specs.InnerRuns.{stored_by, AreNext, MakesStores, MakesRun}
use Rattle.delegate_ops.proofs.AgentLemmas.{took_is_agent}
use Rattle.delegate_ops.proofs.TransitionLemmas.{agent_of, with_parts, under_way_at, still_at, split_keeps, merging_keeps}

pub split_none : (d : splitting.SplittingData) → splitting.advanced_by 0 d ≡ d
unfolding splitting.advanced_by
split_none d = refl

-- ---- a task's next act, and the agent after it, by the stage

next_at : (a : AgentData) (t : Task) (s : Stage) → task_of a ≡ Some t → a.stage ≡ s → next_of a ≡ act_at a.geometry s t
next_at a t s task here = rw (task, here) refl

took_by : (a : AgentData) (t : Task) (s : Stage) → task_of a ≡ Some t → a.stage ≡ s → took_of a 0 ≡ took_at a t s 0
took_by a t s task here = ap (λ (o : Option Task). took_under_way a o 0) task ∙ ap (λ (x : Stage). took_at a t x 0) here

-- ---- stages one after another

-- an agent goes through these stages by stores
record GoesThrough (a : AgentData) (stages : ℕ → Stage) (run : StoreRun) : Type 0 where
  first : a.stage ≡ stages 0
  next : (b : AgentData) (k : ℕ) → task_of b ≡ task_of a → b.geometry ≡ a.geometry → b.stage ≡ stages k → k < run.count → next_of b ≡ Some (store_in run k)
  goes : (b : AgentData) (k : ℕ) → task_of b ≡ task_of a → b.stage ≡ stages k → k < run.count → took_of b 0 ≡ goes_to b (stages (suc k))

gone : (a : AgentData) (stages : ℕ → Stage) (run : StoreRun) (n : ℕ) → GoesThrough a stages run → n < run.count → stored_by (suc n) a ≡ goes_to a (stages (suc n))
unfolding stored_by
gone a stages run zero through low = through.goes a 0 refl through.first low
gone a stages run (suc n) through low =
    ap (λ (b : AgentData). took_of b 0) (gone a stages run n through (omega (arith, low))) ∙ through.goes (goes_to a (stages (suc n))) (suc n) refl refl low

run_next : (a : AgentData) (stages : ℕ → Stage) (run : StoreRun) (k : ℕ) → GoesThrough a stages run → k < run.count → next_of (stored_by k a) ≡ Some (store_in run k)
unfolding stored_by
run_next a stages run zero through low = through.next a 0 refl refl through.first low
run_next a stages run (suc n) through low =
    ap next_of (gone a stages run n through (omega (arith, low))) ∙ through.next (goes_to a (stages (suc n))) (suc n) refl refl refl low

-- ---- a splitting

has_store : (d : SplittingData) (x : Act) → splitting.next_store d ≡ Some x → ltb d.made d.words ≡ true
has_store d x there = elim (cases_Bool (ltb d.made d.words)) [ inl more ↦ more | inr over ↦ absurd (let none = rw over at there in cc) ]

split_on : (t : Task) (z : Size) (d : SplittingData) (k : Generations) (x : Act) → splitting.next_store d ≡ Some x → split_stage t z d k ≡ stage.Splitting z d k
split_on t z d k x there = rw (has_store d x there) refl

splits : (a : AgentData) (t : Task) (z : Size) (d : SplittingData) (g : Generations) (run : StoreRun) → task_of a ≡ Some t → a.stage ≡ stage.Splitting z d g → 0 < run.count → splitting.AreNext run d
    → GoesThrough a (λ k. split_stage t z (splitting.advanced_by k d) g) run
unfolding splitting.advanced_by
splits a t z d g run task here some next = record {
  first = here ∙ sym (split_on t z d g (store_in run 0) (next 0 some));
  next = λ b k same geometry at low. next_at b t _ (same ∙ task) (at ∙ split_on t z (splitting.advanced_by k d) g (store_in run k) (next k low)) ∙ next k low;
  goes = λ b k same at low. took_by b t _ (same ∙ task) (at ∙ split_on t z (splitting.advanced_by k d) g (store_in run k) (next k low));
}

-- ---- merging

merge_on : (f : FuseData) (k : Generations) (x : Act) → fuse.next_of f ≡ Some x → merged_stage f k ≡ stage.Merging f k
merge_on f k x there = ap (λ (o : Option Act). merging_stage o f k) there

merges : (a : AgentData) (t : Task) (f : FuseData) (g : Generations) (run : StoreRun) → task_of a ≡ Some t → a.stage ≡ stage.Merging f g → 0 < run.count → fuse.AreNext run f
    → GoesThrough a (λ k. merged_stage (fuse.stored_by k f) g) run
unfolding fuse.stored_by
merges a t f g run task here some next = record {
  first = here ∙ sym (merge_on f g (store_in run 0) (next 0 some));
  next = λ b k same geometry at low. next_at b t _ (same ∙ task) (at ∙ merge_on (fuse.stored_by k f) g (store_in run k) (next k low)) ∙ next k low;
  goes = λ b k same at low. took_by b t _ (same ∙ task) (at ∙ merge_on (fuse.stored_by k f) g (store_in run k) (next k low));
}

-- ---- an agent's transition that makes a run

some_more : (n : ℕ) → 0 < n → (m : ℕ) × (n ≡ suc m) × (m < n)
some_more zero some = absurd (omega (arith, some))
some_more (suc m) some = (m, refl, omega arith)

went : (a : AgentData) (stages : ℕ → Stage) (run : StoreRun) → GoesThrough a stages run → 0 < run.count → goes_to a (stages run.count) ≡ stored_by run.count a
went a stages run through some =
    let more = some_more run.count some in
    ap (λ (n : ℕ). goes_to a (stages n)) more.1 ∙ sym (gone a stages run more.0 through more.2) ∙ ap (λ (n : ℕ). stored_by n a) (sym more.1)

stores_made : (a : AgentData) (s : Stage) (d e : TransitionData) (run : StoreRun) → task_of a ≡ Some d.task → a.stage ≡ s → 0 < run.count → MakesStores s d run e
    → AreNext run a × (with_parts a e ≡ stored_by run.count a)
stores_made a (stage.Splitting z x k) d e run task here some made =
    let through = splits a d.task z x k run task here some made.0 in
    (λ j low. run_next a _ run j through low, ap (with_parts a) made.1 ∙ went a _ run through some)
stores_made a (stage.Merging f k) d e run task here some made =
    let through = merges a d.task f k run task here some made.0 in
    (λ j low. run_next a _ run j through low, ap (with_parts a) made.1 ∙ went a _ run through some)
stores_made a s d e run task here some made = absurd made

pub none_made : (a : AgentData) (run : StoreRun) → run.count ≡ 0 → AreNext run a × (a ≡ stored_by run.count a)
unfolding stored_by
none_made a run none = ((λ k low. absurd (omega (arith, none, low))), ap (λ (n : ℕ). stored_by n a) (sym none))

made_at : (a : AgentData) (d e : TransitionData) (run : StoreRun) → task_of a ≡ Some d.task → a.stage ≡ d.stage → a ≡ with_parts a d → MakesRun d run e
    → AreNext run a × (with_parts a e ≡ stored_by run.count a)
made_at a d e run task here whole (inl none) =
    let nothing = none_made a run none.0 in (nothing.0, ap (with_parts a) none.1 ∙ sym whole ∙ nothing.1)
made_at a d e run task here whole (inr some) = stores_made a d.stage d e run task here some.0 some.1

-- the agent's run is its transition's
pub run_is : (g : GeometryData) (tasks : List Task) (answers : List Answer) (u : Option TransitionData) (d e : TransitionData) (run : StoreRun)
    → IsUnderWay g (slice_get tasks (length answers)) u → u ≡ Some d → MakesRun d run e
    → AreNext run (agent_of g tasks answers u) × (agent_of g tasks answers (Some e) ≡ stored_by run.count (agent_of g tasks answers u))
run_is g tasks answers u d e run under_way there made =
    let here = under_way_at g (slice_get tasks (length answers)) d (subst (IsUnderWay g (slice_get tasks (length answers))) there under_way) in
    made_at (agent_of g tasks answers u) d e run here.0 (ap stage_in there) (ap (agent_of g tasks answers) there) made

-- ---- it is one after the run

pub stored_is_agent : (n : ℕ) (a : AgentData) → IsAgent a → IsAgent (stored_by n a)
unfolding stored_by
stored_is_agent zero a is = is
stored_is_agent (suc n) a is = took_is_agent (stored_by n a) 0 (stored_is_agent n a is)

stores_keep : (s : Stage) (d e : TransitionData) (run : StoreRun) → MakesStores s d run e → (x : Stage) × (e ≡ goes_by d x) × KeepsDescriptor x
stores_keep (stage.Splitting z x k) d e run made = (split_stage d.task z (splitting.advanced_by run.count x) k, made.1, split_keeps d.task z (splitting.advanced_by run.count x) k)
stores_keep (stage.Merging f k) d e run made = (merged_stage (fuse.stored_by run.count f) k, made.1, merging_keeps _ (fuse.stored_by run.count f) k)
stores_keep s d e run made = absurd made

went_transition : (g : GeometryData) (d e : TransitionData) (x : Stage) → e ≡ goes_by d x → KeepsDescriptor x → IsTransition g d → IsStage g e.stage (Some d.task) → IsTransition g e
went_transition g d e x goes keeps is fits = subst (IsTransition g) (sym goes) (record {
  geometry = is.geometry;
  places = is.places;
  acts = is.acts;
  moves = is.moves;
  stage = subst (λ (y : TransitionData). IsStage g y.stage (Some d.task)) goes fits;
  kept = keeps;
})

run_under_way : (g : GeometryData) (o : Option Task) (d e : TransitionData) (run : StoreRun) → MakesRun d run e → IsStage g e.stage o → IsUnderWay g o (Some d) → IsUnderWay g o (Some e)
run_under_way g o d e run (inl none) fits under_way = subst (λ (x : TransitionData). IsUnderWay g o (Some x)) (sym none.1) under_way
run_under_way g o d e run (inr some) fits under_way =
    let kept = stores_keep d.stage d e run some.1 in
    let here = under_way_at g o d under_way in
    still_at g o d e (ap (λ (x : TransitionData). x.task) kept.1) (went_transition g d e kept.0 kept.1 kept.2 here.1 (subst (IsStage g e.stage) here.0 fits)) under_way

-- the invariant of the agent after it
pub run_invariant : (g : GeometryData) (tasks : List Task) (answers : List Answer) (u : Option TransitionData) (d e : TransitionData) (run : StoreRun)
    → IsAgent (agent_of g tasks answers u) → IsUnderWay g (slice_get tasks (length answers)) u → u ≡ Some d → MakesRun d run e
    → IsAgent (agent_of g tasks answers (Some e)) × IsUnderWay g (slice_get tasks (length answers)) (Some e)
run_invariant g tasks answers u d e run is under_way there made =
    let after = subst IsAgent (sym (run_is g tasks answers u d e run under_way there made).1) (stored_is_agent run.count (agent_of g tasks answers u) is) in
    (after, run_under_way g (slice_get tasks (length answers)) d e run made after.stage (subst (IsUnderWay g (slice_get tasks (length answers))) there under_way))
