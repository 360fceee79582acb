-- Processors after an act are processors, one with an access left has a next act, and acts keep to the words of the geometry.
use Rattle.std.proofs.Common.{◌≡◌, ◌≢◌, ℕ, zero, suc, ◌+◌, ◌/◌, ◌≤◌, ◌<◌, ◌⊎◌, ◌++◌, ◌∷◌, [], List, Bool, true, false, not, Some, None, Option, length, drop, refl, sym, ap, ◌∙◌, subst, arith, inl, inr, length-append, length-drop, if◌then◌else◌}
use Rattle.std.specs.Prelude.{slice_get, is_some, ◌==◌}
use Rattle.std.specs.List.{All}
use Rattle.std.specs.Option.{option_map}
use Rattle.std.proofs.lemmas.Option.{slice_get_within, get_or_from_slice_get}
use Rattle.gpi_values.specs.declared.gpi.Space.{Space}
use Rattle.gpt_descriptors.specs.Sizes.{size_bytes, space_bytes, tag_size_of}
use Rattle.gpt_descriptors.specs.Places.{GeometryData, IsGeometry, WordName, IsWordName, Generation, Duty, Level1, Line, place_of, word_count, l1_index_of, l1_place_of, line_place_of, gen_place_of, block_gpi_of}
use Rattle.gpt_descriptors.proofs.PlaceLemmas.{generation_named, index_within, place_below, unblocked_index}
use Rattle.shared_words.specs.declared.act.Act.{Act}
use Rattle.shared_words.specs.declared.act.Act.TheVariants as act
use Rattle.shared_words.specs.Acts.{place_in, written}
use Rattle.history.specs.declared.call.Task.{Task}
use Rattle.history.specs.declared.call.Task.TheVariants as task
use Rattle.history.specs.declared.call.Answer.{Answer}
use Rattle.processor.specs.InnerProgress.{Stage}
use Rattle.processor.specs.InnerProgress as stage
use Rattle.processor.specs.Accesses.{IsAccess, block_answer}
use Rattle.gpt_descriptors.specs.declared.size.Size.{Size}
use Rattle.gpt_descriptors.specs.declared.size.Size.TheVariants as size
use Rattle.gpt_descriptors.specs.declared.size.Generations.{Generations}
use Rattle.gpt_descriptors.specs.Sizes.{with_generation}
use Rattle.invalidate.specs.Duty.{on_act, off_act}
use Rattle.invalidate.specs.Generations.{gen_load_of}
use Rattle.alias_clean.specs.Lines.{line_mask, touch_of}
use Rattle.std.proofs.lemmas.List.Elements.{All-nil}
use Rattle.gpi_values.specs.declared.gpi.Gpi.{Gpi}
use Rattle.walk_cache.specs.declared.walk.Walk.{Walk}
use Rattle.walk_cache.specs.Rings.{RingData, IsRing, newest_of}
use Rattle.history.specs.declared.call.Access.{Access}
use Rattle.history.specs.declared.call.OldWalk.{OldWalk}
use Rattle.history.specs.declared.call.Via.{Via}
use Rattle.history.specs.declared.call.Via.TheVariants as via
use Rattle.processor.specs.Accesses.{walk_of, walk_gpi, table_access}
use Rattle.processor.specs.InnerProgress.{act_at, no_generations, old_walk, after_search, decided_stage, after_decision, after_load, after_word, after_at, ring_after, answer_at}
use Rattle.processor.specs.InnerCpus.{CpuData, IsCpu, IsAt, IsAccessAt, IsWalk, HasActs, task_of, idle_answer, answered_first, idle_answers, fresh, has_ended, next_at, next_of, after_answer, goes_to, ends_or_goes, took_at, took_of, duty_at}
use Rattle.processor.proofs.WalkLemmas.{ring_is, ring_walks, ring_keeps, after_is}

-- ---- the answers of accesses without acts

first_few : (o : Option Answer) (answers : List Answer) (n : ℕ) → length answers ≤ n → length (answered_first o answers) ≤ suc n
first_few None answers n few = omega arith
first_few (Some a) answers n few = omega (arith, few)

idle_few : (g : GeometryData) (tasks : List Task) → length (idle_answers g tasks) ≤ length tasks
idle_few g [] = omega arith
idle_few g (t ∷ tasks) = first_few (idle_answer g t) (idle_answers g tasks) (length tasks) (idle_few g tasks)

first_acts : (g : GeometryData) (t : Task) (tasks : List Task) (o : Option Answer) → idle_answer g t ≡ o → HasActs g (slice_get tasks (length (idle_answers g tasks)))
    → HasActs g (slice_get (t ∷ tasks) (length (answered_first o (idle_answers g tasks))))
first_acts g t tasks None e acts = e
first_acts g t tasks (Some a) e acts = acts

-- the task after them has acts
idle_then_acts : (g : GeometryData) (tasks : List Task) → HasActs g (slice_get tasks (length (idle_answers g tasks)))
idle_then_acts g [] = tt
idle_then_acts g (t ∷ tasks) = first_acts g t tasks (idle_answer g t) refl (idle_then_acts g tasks)

get_drop : (tasks : List Task) (n i : ℕ) → slice_get (drop n tasks) i ≡ slice_get tasks (n + i)
get_drop tasks zero i = ap (slice_get tasks) (let e : i ≡ 0 + i = omega arith in e)
get_drop [] (suc n) i = refl
get_drop (t ∷ tasks) (suc n) i = get_drop tasks n i ∙ ap (slice_get (t ∷ tasks)) (let e : suc (n + i) ≡ suc n + i = omega arith in e)

-- ---- steps

starts_at : (g : GeometryData) (o : Option Task) → IsAt g o stage.Starting
starts_at g None = refl
starts_at g (Some (task.Look pa space)) = tt
starts_at g (Some (task.Delegate pa source)) = refl
starts_at g (Some (task.Undelegate pa source)) = refl
starts_at g (Some task.Unknown) = refl

-- before its first act
pub fresh_is_cpu : (g : GeometryData) (p : ℕ) (tasks : List Task) → IsGeometry g → p < g.cpus → All (IsAccess g) tasks → IsCpu (fresh g p tasks)
fresh_is_cpu g p tasks geometry number accesses = record {
  geometry = geometry;
  number = number;
  accesses = accesses;
  answered = idle_few g tasks;
  acts = idle_then_acts g tasks;
  ring = record { low = geometry.setup.ring_low; high = geometry.setup.ring_high; within = omega arith };
  keeps = refl;
  walks = All-nil (IsWalk g);
  stage = starts_at g (task_of (fresh g p tasks));
}

answer_is_cpu : (q : CpuData) (t : Task) (answer : Answer) → IsCpu q → task_of q ≡ Some t → IsCpu (after_answer q answer)
answer_is_cpu q t answer is under_way =
    let within : length q.answers < length q.tasks = slice_get_within q.tasks (length q.answers) t under_way in
    let rest = drop (length q.answers + 1) q.tasks in
    let count : length ((q.answers ++ answer ∷ []) ++ idle_answers q.geometry rest) ≡ length q.answers + 1 + length (idle_answers q.geometry rest) =
    length-append (q.answers ++ answer ∷ []) (idle_answers q.geometry rest) ∙ ap (λ (n : ℕ). n + length (idle_answers q.geometry rest)) (length-append q.answers (answer ∷ [])) in
    record {
      geometry = is.geometry;
      number = is.number;
      accesses = is.accesses;
      answered = omega (arith, count, within, idle_few q.geometry rest, length-drop (length q.answers + 1) q.tasks);
      acts = subst (HasActs q.geometry) (get_drop q.tasks (length q.answers + 1) (length (idle_answers q.geometry rest)) ∙ ap (slice_get q.tasks) (sym count)) (idle_then_acts q.geometry rest);
      ring = is.ring;
      keeps = is.keeps;
      walks = is.walks;
      stage = starts_at q.geometry (task_of (after_answer q answer));
    }

-- each task is an access inside the space
pub access_at : (q : CpuData) (t : Task) → IsCpu q → task_of q ≡ Some t → IsAccess q.geometry t
access_at q t is under_way =
    subst (IsAccess q.geometry) (get_or_from_slice_get q.tasks (length q.answers) t t under_way)
    (is.accesses (length q.answers) t (slice_get_within q.tasks (length q.answers) t under_way))

ends_is_cpu : (q : CpuData) (pa : ℕ) (space : Space) (o : Option Answer) (r : RingData) (s : Stage) → IsCpu q → task_of q ≡ Some (task.Look pa space) → IsCpu (goes_to q r s) → IsCpu (ends_or_goes q o r s)
ends_is_cpu q pa space (Some answer) r s is under_way goes = answer_is_cpu q (task.Look pa space) answer is under_way
ends_is_cpu q pa space None r s is under_way goes = goes

-- the walk that an access under way has found or made
pub look_at : (q : CpuData) (pa : ℕ) (space : Space) → IsCpu q → task_of q ≡ Some (task.Look pa space) → IsAccessAt q.geometry pa q.stage
look_at q pa space is under_way = subst (λ (o : Option Task). IsAt q.geometry o q.stage) under_way is.stage

pub goes_is_cpu : (q : CpuData) (pa : ℕ) (space : Space) (old : ℕ) (r : RingData) (s : Stage) → IsCpu q → task_of q ≡ Some (task.Look pa space)
    → r ≡ ring_after q.stage q.cache → s ≡ after_at q.geometry q.cache.walks pa space q.stage old → IsCpu (goes_to q r s)
goes_is_cpu q pa space old r s is under_way ring goes =
    let at = look_at q pa space is under_way in
    record {
      geometry = is.geometry;
      number = is.number;
      accesses = is.accesses;
      answered = is.answered;
      acts = is.acts;
      ring = subst IsRing (sym ring) (ring_is q.stage q.cache is.ring);
      keeps = ap (λ (x : RingData). x.ring) ring ∙ ring_keeps q.stage q.cache ∙ is.keeps;
      walks = subst (λ (x : RingData). All (IsWalk q.geometry) x.walks) (sym ring) (ring_walks q.geometry pa q.stage q.cache is.walks at);
      stage = subst (λ (o : Option Task). IsAt q.geometry o s) (sym under_way)
          (subst (IsAccessAt q.geometry pa) (sym goes)
          (after_is q.geometry q.cache.walks pa space q.stage old (access_at q (task.Look pa space) is under_way) is.walks at));
    }

took_at_is_cpu : (q : CpuData) (o : Option Task) (old : ℕ) → task_of q ≡ o → IsCpu q → IsCpu (took_at q o old)
took_at_is_cpu q None old under_way is = is
took_at_is_cpu q (Some (task.Look pa space)) old under_way is = ends_is_cpu q pa space (answer_at q.stage) _ _ is under_way (goes_is_cpu q pa space old _ _ is under_way refl refl)
took_at_is_cpu q (Some (task.Delegate pa source)) old under_way is = is
took_at_is_cpu q (Some (task.Undelegate pa source)) old under_way is = is
took_at_is_cpu q (Some task.Unknown) old under_way is = is

-- an act leaves a processor one, with its geometry, its number and its tasks
pub took_is_cpu : (q : CpuData) (old : ℕ) → IsCpu q → IsCpu (took_of q old)
took_is_cpu q old is = took_at_is_cpu q (task_of q) old refl is

ends_keeps : (q : CpuData) (o : Option Answer) (r : RingData) (s : Stage)
    → ((ends_or_goes q o r s).geometry ≡ q.geometry) × ((ends_or_goes q o r s).number ≡ q.number) × ((ends_or_goes q o r s).tasks ≡ q.tasks)
ends_keeps q None r s = (refl, refl, refl)
ends_keeps q (Some answer) r s = (refl, refl, refl)

took_at_keeps : (q : CpuData) (o : Option Task) (old : ℕ)
    → ((took_at q o old).geometry ≡ q.geometry) × ((took_at q o old).number ≡ q.number) × ((took_at q o old).tasks ≡ q.tasks)
took_at_keeps q None old = (refl, refl, refl)
took_at_keeps q (Some (task.Look pa space)) old = ends_keeps q (answer_at q.stage) (ring_after q.stage q.cache) (after_at q.geometry q.cache.walks pa space q.stage old)
took_at_keeps q (Some (task.Delegate pa source)) old = (refl, refl, refl)
took_at_keeps q (Some (task.Undelegate pa source)) old = (refl, refl, refl)
took_at_keeps q (Some task.Unknown) old = (refl, refl, refl)

pub took_keeps : (q : CpuData) (old : ℕ) → ((took_of q old).geometry ≡ q.geometry) × ((took_of q old).number ≡ q.number) × ((took_of q old).tasks ≡ q.tasks)
took_keeps q old = took_at_keeps q (task_of q) old

-- ---- the access under way

mapped_none : {X Y : Type 0} (f : X → Y) (o : Option X) → option_map f o ≡ None → o ≡ None
mapped_none f None e = refl
mapped_none f (Some x) e = absurd cc

pub acts_at : (q : CpuData) (t : Task) → IsCpu q → task_of q ≡ Some t → idle_answer q.geometry t ≡ None
acts_at q t is under_way = subst (HasActs q.geometry) under_way is.acts

-- an access with acts is in no L0 block, so it has an L1 word
pub look_unblocked : (g : GeometryData) (pa : ℕ) (space : Space) → idle_answer g (task.Look pa space) ≡ None → block_gpi_of g pa ≡ None
look_unblocked g pa space acts = mapped_none (block_answer space) (block_gpi_of g pa) acts

pub look_place : (g : GeometryData) (pa : ℕ) (space : Space) → IsGeometry g → IsAccess g (task.Look pa space) → idle_answer g (task.Look pa space) ≡ None
    → (place : ℕ) × (l1_place_of g pa ≡ Some place)
look_place g pa space is inside acts =
    let there = unblocked_index g pa is inside (look_unblocked g pa space acts) in (place_of g (Level1 there.0), rw there.1 refl)

-- ---- a next act is there

pub some_mapped : {X Y : Type 0} (f : X → Y) (o : Option X) (y : Y) → option_map f o ≡ Some y → (x : X) × (o ≡ Some x) × (f x ≡ y)
some_mapped f None y e = absurd cc
some_mapped f (Some x) y e = (x, refl, cc)

-- an address with an L1 word has a line
pub touch_there : (g : GeometryData) (pa place : ℕ) (space : Space) → l1_place_of g pa ≡ Some place → (touch : Act) × (touch_of g pa space ≡ Some touch)
touch_there g pa place space there =
    let index = some_mapped (λ (i : ℕ). place_of g (Level1 i)) (l1_index_of g pa) place there in (
      act.Or (place_of g (Line index.0)) (line_mask g pa space),
      ap (λ (o : Option ℕ). option_map (λ (at : ℕ). act.Or at (line_mask g pa space)) (option_map (λ (i : ℕ). place_of g (Line i)) o)) index.1,
    )

act_there : (g : GeometryData) (p pa place : ℕ) (space : Space) (s : Stage) → l1_place_of g pa ≡ Some place → is_some (act_at g p pa space s) ≡ true
act_there g p pa place space stage.Starting there = refl
act_there g p pa place space (stage.Trying w) there = refl
act_there g p pa place space (stage.Loading z k m) there = refl
act_there g p pa place space (stage.Walking k m) there = rw there refl
act_there g p pa place space (stage.Closing w m) there = refl
act_there g p pa place space (stage.Touching a) there = ap (λ (o : Option Act). is_some o) (touch_there g pa place space there).1
act_there g p pa place space (stage.Leaving a) there = refl

next_at_there : (q : CpuData) (o : Option Task) → IsCpu q → task_of q ≡ o → is_some (next_at q o) ≡ is_some o
next_at_there q None is under_way = refl
next_at_there q (Some (task.Look pa space)) is under_way =
    let there = look_place q.geometry pa space is.geometry (access_at q (task.Look pa space) is under_way) (acts_at q (task.Look pa space) is under_way) in
    act_there q.geometry q.number pa there.0 space q.stage there.1
next_at_there q (Some (task.Delegate pa source)) is under_way = absurd (access_at q (task.Delegate pa source) is under_way)
next_at_there q (Some (task.Undelegate pa source)) is under_way = absurd (access_at q (task.Undelegate pa source) is under_way)
next_at_there q (Some task.Unknown) is under_way = absurd (access_at q task.Unknown is under_way)

-- an access under way has a next act
pub look_acts : (q : CpuData) (pa : ℕ) (space : Space) → IsCpu q → task_of q ≡ Some (task.Look pa space) → is_some (act_at q.geometry q.number pa space q.stage) ≡ true
look_acts q pa space is under_way = next_at_there q (Some (task.Look pa space)) is under_way

pub look_made : (q : CpuData) (pa : ℕ) (space : Space) → IsCpu q → task_of q ≡ Some (task.Look pa space) → is_some (next_of q) ≡ true
look_made q pa space is under_way = ap (λ (o : Option Task). is_some (next_at q o)) under_way ∙ look_acts q pa space is under_way

not_not : {X : Type 0} (o : Option X) → is_some o ≡ not (not (is_some o))
not_not None = refl
not_not (Some x) = refl

-- exactly where an access is left
pub next_there : (q : CpuData) → IsCpu q → is_some (next_of q) ≡ not (has_ended q)
next_there q is = next_at_there q (task_of q) is refl ∙ not_not (task_of q)

-- it is that of the access under way
pub look_next : (q : CpuData) (pa : ℕ) (space : Space) → task_of q ≡ Some (task.Look pa space) → next_of q ≡ act_at q.geometry q.number pa space q.stage
look_next q pa space under_way = rw under_way refl

-- ---- places

-- the act is made on this word
abbrev IsOn : GeometryData → Act → WordName → Type 0
IsOn g next n = IsWordName g n × (place_in next ≡ place_of g n)

generation_word : (g : GeometryData) (z : Size) (pa : ℕ) (next : Act) → pa < space_bytes g.setup → Some (gen_load_of g z pa) ≡ Some next → (n : WordName) × IsOn g next n
generation_word g z pa next inside e =
    let same : act.Load (place_of g (Generation z (pa / size_bytes z))) ≡ next = cc in (Generation z (pa / size_bytes z), (generation_named g z pa inside, ap place_in (sym same)))

-- a touch is on a line word
touch_line : (g : GeometryData) (pa : ℕ) (space : Space) (next : Act) → touch_of g pa space ≡ Some next → (i : ℕ) × (l1_index_of g pa ≡ Some i) × (place_in next ≡ place_of g (Line i))
touch_line g pa space next e =
    let touch = some_mapped (λ (at : ℕ). act.Or at (line_mask g pa space)) (line_place_of g pa) next e in
    let index = some_mapped (λ (i : ℕ). place_of g (Line i)) (l1_index_of g pa) touch.0 touch.1 in
    (index.0, index.1, ap place_in (sym touch.2) ∙ sym index.2)

act_word : (g : GeometryData) (p pa : ℕ) (space : Space) (s : Stage) (next : Act) → IsGeometry g → p < g.cpus → pa < space_bytes g.setup → act_at g p pa space s ≡ Some next
    → (n : WordName) × IsOn g next n
act_word g p pa space stage.Starting next is cpu inside e = (Duty p, (cpu, let same : place_of g (Duty p) ≡ place_in next = cc in sym same))
act_word g p pa space (stage.Trying w) next is cpu inside e = generation_word g (tag_size_of w.reach) pa next inside e
act_word g p pa space (stage.Loading z k m) next is cpu inside e = generation_word g z pa next inside e
act_word g p pa space (stage.Walking k m) next is cpu inside e =
    let load = some_mapped act.Load (l1_place_of g pa) next e in
    let index = some_mapped (λ (i : ℕ). place_of g (Level1 i)) (l1_index_of g pa) load.0 load.1 in
    (Level1 index.0, (index_within g pa index.0 is index.1, ap place_in (sym load.2) ∙ sym index.2))
act_word g p pa space (stage.Closing w m) next is cpu inside e = generation_word g (tag_size_of w.reach) pa next inside e
act_word g p pa space (stage.Touching a) next is cpu inside e = let line = touch_line g pa space next e in (Line line.0, (index_within g pa line.0 is line.1, line.2))
act_word g p pa space (stage.Leaving a) next is cpu inside e = (Duty p, (cpu, let same : place_of g (Duty p) ≡ place_in next = cc in sym same))

generation_load : (g : GeometryData) (pa : ℕ) (z : Size) (next : Act) → Some (gen_load_of g z pa) ≡ Some next → next ≡ act.Load (place_in next)
generation_load g pa z next e = let same : act.Load (gen_place_of g z pa) ≡ next = cc in rw (← same) refl

-- the act only loads, or is on the own duty word, or is a touch
abbrev ActWrites : GeometryData → ℕ → ℕ → Space → Act → Type 0
ActWrites g p pa space next = (next ≡ act.Load (place_in next)) ⊎ ((place_in next ≡ place_of g (Duty p)) ⊎ (touch_of g pa space ≡ Some next))

act_writes : (g : GeometryData) (p pa : ℕ) (space : Space) (s : Stage) (next : Act) → act_at g p pa space s ≡ Some next → ActWrites g p pa space next
act_writes g p pa space stage.Starting next e = let same : place_of g (Duty p) ≡ place_in next = cc in inr (inl (sym same))
act_writes g p pa space (stage.Trying w) next e = inl (generation_load g pa (tag_size_of w.reach) next e)
act_writes g p pa space (stage.Loading z k m) next e = inl (generation_load g pa z next e)
act_writes g p pa space (stage.Walking k m) next e = let load = some_mapped act.Load (l1_place_of g pa) next e in inl (rw (← load.2) refl)
act_writes g p pa space (stage.Closing w m) next e = inl (generation_load g pa (tag_size_of w.reach) next e)
act_writes g p pa space (stage.Touching a) next e = inr (inr e)
act_writes g p pa space (stage.Leaving a) next e = let same : place_of g (Duty p) ≡ place_in next = cc in inr (inl (sym same))

next_at_word : (q : CpuData) (o : Option Task) (next : Act) → IsCpu q → task_of q ≡ o → next_at q o ≡ Some next → (n : WordName) × IsOn q.geometry next n
next_at_word q None next is under_way e = absurd cc
next_at_word q (Some (task.Look pa space)) next is under_way e =
    act_word q.geometry q.number pa space q.stage next is.geometry is.number (access_at q (task.Look pa space) is under_way) e
next_at_word q (Some (task.Delegate pa source)) next is under_way e = absurd cc
next_at_word q (Some (task.Undelegate pa source)) next is under_way e = absurd cc
next_at_word q (Some task.Unknown) next is under_way e = absurd cc

-- a next act is made on one of the shared words
pub next_word : (q : CpuData) (next : Act) → IsCpu q → next_of q ≡ Some next → (n : WordName) × IsWordName q.geometry n × (place_in next ≡ place_of q.geometry n)
next_word q next is e = let on = next_at_word q (task_of q) next is refl e in (on.0, on.1.0, on.1.1)

pub next_below : (q : CpuData) (next : Act) → IsCpu q → next_of q ≡ Some next → place_in next < word_count q.geometry
next_below q next is e =
    let on = next_at_word q (task_of q) next is refl e in subst (λ (n : ℕ). n < word_count q.geometry) (sym on.1.1) (place_below q.geometry on.0 on.1.0)

-- a touch of the access under way
abbrev TouchesOf : CpuData → Act → Type 0
TouchesOf q next = (pa : ℕ) × (space : Space) × (task_of q ≡ Some (task.Look pa space)) × (touch_of q.geometry pa space ≡ Some next)

abbrev NextWrites : CpuData → Act → Type 0
NextWrites q next = (next ≡ act.Load (place_in next)) ⊎ ((place_in next ≡ place_of q.geometry (Duty q.number)) ⊎ TouchesOf q next)

look_writes : (q : CpuData) (pa : ℕ) (space : Space) (next : Act) → task_of q ≡ Some (task.Look pa space) → ActWrites q.geometry q.number pa space next → NextWrites q next
look_writes q pa space next under_way (inl load) = inl load
look_writes q pa space next under_way (inr (inl duty)) = inr (inl duty)
look_writes q pa space next under_way (inr (inr touch)) = inr (inr (pa, space, under_way, touch))

next_at_writes : (q : CpuData) (o : Option Task) (next : Act) → task_of q ≡ o → next_at q o ≡ Some next → NextWrites q next
next_at_writes q None next under_way e = absurd cc
next_at_writes q (Some (task.Look pa space)) next under_way e = look_writes q pa space next under_way (act_writes q.geometry q.number pa space q.stage next e)
next_at_writes q (Some (task.Delegate pa source)) next under_way e = absurd cc
next_at_writes q (Some (task.Undelegate pa source)) next under_way e = absurd cc
next_at_writes q (Some task.Unknown) next under_way e = absurd cc

-- and is a load, or on the own duty word, or a touch
pub next_writes : (q : CpuData) (next : Act) → IsCpu q → next_of q ≡ Some next
    → (next ≡ act.Load (place_in next))
    ⊎ ((place_in next ≡ place_of q.geometry (Duty q.number)) ⊎ ((pa : ℕ) × (space : Space) × (task_of q ≡ Some (task.Look pa space)) × (touch_of q.geometry pa space ≡ Some next)))
next_writes q next is e = next_at_writes q (task_of q) next refl e

-- ---- the duty word

search_duty : (o : Option Walk) → duty_at (after_search o) ≡ 1
search_duty None = refl
search_duty (Some w) = refl

choice_duty : (b : Bool) (s t : Stage) → duty_at s ≡ 1 → duty_at t ≡ 1 → duty_at (if b then s else t) ≡ 1
choice_duty true s t on_s on_t = on_s
choice_duty false s t on_s on_t = on_t

decided_duty : (a : Access) → duty_at (decided_stage a) ≡ 1
decided_duty a = choice_duty a.allowed (stage.Touching a) (stage.Leaving a) refl refl

decision_duty : (s : Stage) (o : Option Gpi) (space : Space) (v : Via) → duty_at s ≡ 1 → duty_at (after_decision s o space v) ≡ 1
decision_duty s None space v on = on
decision_duty s (Some gpi) space v on = decided_duty (table_access space gpi v)

loaded_duty : (z : Size) (k : Generations) (m : Option OldWalk) → duty_at (after_load z k m) ≡ 1
loaded_duty size.Two k m = refl
loaded_duty size.ThirtyTwo k m = refl
loaded_duty size.FiveTwelve k m = refl

word_duty : (k : Generations) (m : Option OldWalk) (o : Option Walk) → duty_at (after_word k m o) ≡ 1
word_duty k m None = refl
word_duty k m (Some w) = refl

-- the stage after an act
abbrev stage_after : CpuData → ℕ → Space → Stage → ℕ → Stage
stage_after q pa space s old = (ends_or_goes q (answer_at s) (ring_after s q.cache) (after_at q.geometry q.cache.walks pa space s old)).stage

-- loads and touches are made between its setting and its clearing
search_stays : (q : CpuData) (pa : ℕ) (space : Space) (w : Walk) (old : ℕ) → duty_at (stage_after q pa space (stage.Trying w) old) ≡ 1
search_stays q pa space w old =
    choice_duty (old == w.tag) _ (stage.Loading size.Two no_generations (Some (old_walk w old))) (decision_duty (stage.Trying w) (walk_gpi q.geometry pa w) space (via.Hit w.reach w.tag) refl) refl

close_stays : (q : CpuData) (pa : ℕ) (space : Space) (w : Walk) (m : Option OldWalk) (old : ℕ) → duty_at (stage_after q pa space (stage.Closing w m) old) ≡ 1
close_stays q pa space w m old = decision_duty (stage.Closing w m) (walk_gpi q.geometry pa w) space _ refl

-- a line word is no duty word
line_elsewhere : (g : GeometryData) (p pa : ℕ) (space : Space) (next : Act) → p < g.cpus → touch_of g pa space ≡ Some next → place_in next ≢ place_of g (Duty p)
line_elsewhere g p pa space next cpu e here =
    let line = touch_line g pa space next e in
    let same : place_of g (Line line.0) ≡ place_of g (Duty p) = sym line.2 ∙ here in
    omega (arith, same, cpu)

look_duty : (q : CpuData) (p pa : ℕ) (space : Space) (s : Stage) (next : Act) (old : ℕ) → p < q.geometry.cpus → act_at q.geometry p pa space s ≡ Some next
    → place_in next ≡ place_of q.geometry (Duty p) → written next (duty_at s) ≡ duty_at (stage_after q pa space s old)
look_duty q p pa space stage.Starting next old cpu e here = let same : on_act q.geometry p ≡ next = cc in rw (← same) (sym (search_duty (newest_of q.cache.walks pa)))
look_duty q p pa space (stage.Trying w) next old cpu e here =
    let same : gen_load_of q.geometry (tag_size_of w.reach) pa ≡ next = cc in rw (← same) (sym (search_stays q pa space w old))
look_duty q p pa space (stage.Loading z k m) next old cpu e here = let same : gen_load_of q.geometry z pa ≡ next = cc in rw (← same) (sym (loaded_duty z (with_generation z old k) m))
look_duty q p pa space (stage.Walking k m) next old cpu e here =
    let load = some_mapped act.Load (l1_place_of q.geometry pa) next e in rw (← load.2) (sym (word_duty k m (walk_of pa k old)))
look_duty q p pa space (stage.Closing w m) next old cpu e here =
    let same : gen_load_of q.geometry (tag_size_of w.reach) pa ≡ next = cc in rw (← same) (sym (close_stays q pa space w m old))
look_duty q p pa space (stage.Touching a) next old cpu e here = absurd (line_elsewhere q.geometry p pa space next cpu e here)
look_duty q p pa space (stage.Leaving a) next old cpu e here = let same : off_act q.geometry p ≡ next = cc in rw (← same) refl

next_at_duty : (q : CpuData) (o : Option Task) (next : Act) (old : ℕ) → q.number < q.geometry.cpus → next_at q o ≡ Some next → place_in next ≡ place_of q.geometry (Duty q.number)
    → written next (duty_at q.stage) ≡ duty_at (took_at q o old).stage
next_at_duty q None next old cpu e here = absurd cc
next_at_duty q (Some (task.Look pa space)) next old cpu e here = look_duty q q.number pa space q.stage next old cpu e here
next_at_duty q (Some (task.Delegate pa source)) next old cpu e here = absurd cc
next_at_duty q (Some (task.Undelegate pa source)) next old cpu e here = absurd cc
next_at_duty q (Some task.Unknown) next old cpu e here = absurd cc

-- an act on it leaves it as it is after the act
pub next_duty : (q : CpuData) (next : Act) (old : ℕ) → IsCpu q → next_of q ≡ Some next → place_in next ≡ place_of q.geometry (Duty q.number)
    → written next (duty_at q.stage) ≡ duty_at (took_of q old).stage
next_duty q next old is e here = next_at_duty q (task_of q) next old is.number e here

look_other : (q : CpuData) (p pa : ℕ) (space : Space) (s : Stage) (next : Act) (old : ℕ) → act_at q.geometry p pa space s ≡ Some next → place_in next ≢ place_of q.geometry (Duty p)
    → duty_at (stage_after q pa space s old) ≡ duty_at s
look_other q p pa space stage.Starting next old e elsewhere = let same : place_of q.geometry (Duty p) ≡ place_in next = cc in absurd (elsewhere (sym same))
look_other q p pa space (stage.Trying w) next old e elsewhere = search_stays q pa space w old
look_other q p pa space (stage.Loading z k m) next old e elsewhere = loaded_duty z (with_generation z old k) m
look_other q p pa space (stage.Walking k m) next old e elsewhere = word_duty k m (walk_of pa k old)
look_other q p pa space (stage.Closing w m) next old e elsewhere = close_stays q pa space w m old
look_other q p pa space (stage.Touching a) next old e elsewhere = refl
look_other q p pa space (stage.Leaving a) next old e elsewhere = let same : place_of q.geometry (Duty p) ≡ place_in next = cc in absurd (elsewhere (sym same))

next_at_other : (q : CpuData) (o : Option Task) (next : Act) (old : ℕ) → next_at q o ≡ Some next → place_in next ≢ place_of q.geometry (Duty q.number)
    → duty_at (took_at q o old).stage ≡ duty_at q.stage
next_at_other q None next old e elsewhere = absurd cc
next_at_other q (Some (task.Look pa space)) next old e elsewhere = look_other q q.number pa space q.stage next old e elsewhere
next_at_other q (Some (task.Delegate pa source)) next old e elsewhere = absurd cc
next_at_other q (Some (task.Undelegate pa source)) next old e elsewhere = absurd cc
next_at_other q (Some task.Unknown) next old e elsewhere = absurd cc

-- an act on another word goes on with it as it is
pub next_other : (q : CpuData) (next : Act) (old : ℕ) → next_of q ≡ Some next → place_in next ≢ place_of q.geometry (Duty q.number) → duty_at (took_of q old).stage ≡ duty_at q.stage
next_other q next old e elsewhere = next_at_other q (task_of q) next old e elsewhere
