-- The law of one act: by cases on the caller, its task under way and its stage.
use Rattle.std.proofs.Common.{◌≡◌, ℕ, ◌+◌, ◌*◌, ◌%◌, ◌<◌, ◌++◌, ◌∷◌, [], Option, Some, None, length, refl, ap, ◌∙◌, subst, inl, inr, sym, arith, false, ◌/◌, ◌⊎◌}
use Rattle.std.specs.Prelude.{slice_get, option_and_then}
use Rattle.std.proofs.lemmas.Bool.{cases_Bool, ltb-true}
use Rattle.core_machine.proofs.Names.{GeometryData, l0_words, l1_words, l1_place_of, Level1, Line, Duty, WordName, Generation, IsGeometry, Lock, word_count, gen_place_of, IsWordName, place_of, Act, place_in, answer_of, take_act, release_act, lock_number, Task, Stage, address_of, generation_in, idle_answer, AgentData, IsStage, HasActs, task_of, next_of, took_at, Caller, caller_next, IsMade, HoldsIn, Scene, lock_bit_of, granule_of_task, made_at, Gpi, Generations, l1_index, size_bytes, words_of, Fusing, Testing, Storing, Ended, Size, Answer}
use Rattle.core_machine.proofs.Names.act
use Rattle.core_machine.proofs.Names.stage
use Rattle.core_machine.proofs.Names.caller
use Rattle.core_machine.proofs.Names.size
use Rattle.core_machine.proofs.Names.l1
use Rattle.core_machine.proofs.Names.fuse
use Rattle.invalidate.specs.Generations.{gen_load_of, gen_raise_of}
use Rattle.delegate_ops.specs.Changing.{changed_word, target_space, space_of_line}
use Rattle.alias_clean.specs.Lines.{line_mask}
use Rattle.invalidate.specs.Duty.{barrier_load}
use Rattle.gpt_descriptors.specs.Places.{line_place_of}
use Rattle.std.specs.Int.{bit_not, w64}
use Rattle.delegate_ops.specs.InnerAgents.{IsSplittingOf, IsMergingOf, act_at, is_held, took_under_way, took_of}
use Rattle.delegate_ops.proofs.AgentLemmas.{took_is_agent}
use Rattle.delegate_ops.proofs.ScriptLemmas.{some_mapped, step_walks}
use Rattle.core_machine.specs.InnerCallers.{IsCallerOf, MayTake}
use Rattle.core_machine.specs.InnerLaw.{OneActKeeps, scene_acted}
use Rattle.core_machine.specs.InnerCallerLaws.{ActsHavePlaces}
use Rattle.core_machine.proofs.ActLemmas.{Acting}
use Rattle.core_machine.proofs.LockActs.{ActKeeps, take_keeps, release_keeps}
use Rattle.core_machine.proofs.LoadActs.{look_keeps, read_keeps}
use Rattle.core_machine.proofs.ChangeActs.{change_keeps}
use Rattle.core_machine.proofs.RaiseActs.{raise_keeps}
use Rattle.core_machine.proofs.BlockActs.{split_place, split_keeps, merge_keeps}
use Rattle.core_machine.proofs.CleanActs.{prepare_keeps, pass_keeps, clean_keeps}
use Rattle.core_machine.proofs.CpuActs.{access_keeps, cpu_accessing}
use Rattle.core_machine.proofs.WordLemmas.{is_duty, is_lock}
use Rattle.processor.proofs.CpuLemmas.{next_below}
use Rattle.gpt_descriptors.proofs.PlaceLemmas.{generation_named, index_within, place_below}
use Rattle.delegate_ops.proofs.DecidingLemmas.{acts_inside}
use Rattle.gpt_descriptors.specs.declared.size.MaxBlock.{MaxBlock}
use Rattle.gpt_descriptors.specs.Entries.{l1_word}
use Rattle.table_meaning.specs.Fusing.{block_words, loads_of, load_at, store_at}
use Rattle.table_meaning.proofs.PlaceLemmas.{block_index, load_index, store_index}
use Rattle.table_meaning.proofs.FusingLemmas.{block_words_is}
use Rattle.shatter.specs.Splitting.{store_of}
use Rattle.core_machine.proofs.CallerLemmas.{made_at_place}
use Rattle.core_machine.proofs.AddressLemmas.{lock_low, index_below, word_by_granule, index_at, line_at}

-- ---- an agent after an act was made as before

-- a step leaves the geometry and the tasks
pub step_leaves : (a : AgentData) (t : Task) (s : Stage) (old : ℕ) → ((took_at a t s old).geometry ≡ a.geometry) × ((took_at a t s old).tasks ≡ a.tasks)
step_leaves a t (stage.Releasing answer) old = (refl, refl)
step_leaves a t stage.Locking old = elim (cases_Bool (is_held a.geometry t stage.Locking old)) [ inl held ↦ rw held (refl, refl) | inr free ↦ rw free (refl, refl) ]
step_leaves a t (stage.Passing ch d k) old = elim (cases_Bool (is_held a.geometry t (stage.Passing ch d k) old)) [ inl busy ↦ rw busy (refl, refl) | inr passed ↦ rw passed (refl, refl) ]
step_leaves a t s old = (refl, refl)

pub took_leaves : (a : AgentData) (o : Option Task) (old : ℕ) → ((took_under_way a o old).geometry ≡ a.geometry) × ((took_under_way a o old).tasks ≡ a.tasks)
took_leaves a None old = (refl, refl)
took_leaves a (Some t) old = step_leaves a t a.stage old

pub took_made : (g : GeometryData) (a : AgentData) (next : Act) (old : ℕ) → IsMade g (caller.Agent a) → next_of a ≡ Some next → IsMade g (caller.Agent (took_of a old))
took_made g a next old made e = (
  (took_leaves a (task_of a) old).0 ∙ made.0,
  took_is_agent a old made.1,
  made.2,
  made.3 ++ record { act = next; old = old; made = made_at a.geometry made.2 (length a.answers) a.stage (task_of a) old } ∷ [],
  step_walks made.2 a made.3 next old made.1 made.4 e,
)

-- ---- the word of an act

-- the act takes or releases its lock, or it is one on a word that is no lock, and it only loads a duty word
pub record IsOn (g : GeometryData) (t : Task) (st : Stage) (next : Act) : Type 0 where
  pub name : WordName
  pub named : IsWordName g name
  pub place : place_in next ≡ place_of g name
  pub duty : (is_duty (Some name) ≡ false) ⊎ (next ≡ act.Load (place_of g name))
  pub how : ((st ≡ stage.Locking) × (next ≡ take_act (lock_bit_of g t))) ⊎ (((given : Answer) × (st ≡ stage.Releasing given) × (next ≡ release_act (lock_bit_of g t))) ⊎ (is_lock (Some name) ≡ false))

lock_row : (g : GeometryData) (t : Task) → IsGeometry g → idle_answer g t ≡ None → lock_number g.setup (address_of t) / 64 < 2
lock_row g t geometry acts = omega (arith, lock_low g.setup (address_of t) geometry.setup (acts_inside g t acts))

on_level1 : (g : GeometryData) (t : Task) (st : Stage) (place : ℕ) (next : Act) → IsGeometry g → l1_place_of g (address_of t) ≡ Some place → place_in next ≡ place → IsOn g t st next
on_level1 g t st place next geometry there here =
    let at = index_at g (address_of t) place there in
    record { name = Level1 at.0; named = index_within g (address_of t) at.0 geometry at.1; place = here ∙ at.2; duty = inl refl; how = inr (inr refl) }

on_generation : (g : GeometryData) (t : Task) (st : Stage) (z : Size) (next : Act) → idle_answer g t ≡ None → place_in next ≡ gen_place_of g z (address_of t) → IsOn g t st next
on_generation g t st z next acts here =
    record { name = Generation z (address_of t / size_bytes z); named = generation_named g z (address_of t) (acts_inside g t acts); place = here; duty = inl refl; how = inr (inr refl) }

on_line : (g : GeometryData) (t : Task) (st : Stage) (place : ℕ) (next : Act) → IsGeometry g → line_place_of g (address_of t) ≡ Some place → place_in next ≡ place → IsOn g t st next
on_line g t st place next geometry there here =
    let at = line_at g (address_of t) place there in
    record { name = Line at.0; named = index_within g (address_of t) at.0 geometry at.1; place = here ∙ at.2; duty = inl refl; how = inr (inr refl) }

on_index : (g : GeometryData) (t : Task) (st : Stage) (i : ℕ) (next : Act) → i < l1_words g → place_in next ≡ place_of g (Level1 i) → IsOn g t st next
on_index g t st i next within here = record { name = Level1 i; named = within; place = here; duty = inl refl; how = inr (inr refl) }

merging_word : (g : GeometryData) (t : Task) (first own two : ℕ) (max : MaxBlock) (v : Gpi) (step : Fusing) (k : Generations) (next : Act) → IsGeometry g → IsMergingOf g (address_of t) (record { first = first; own = own; two = two; max = max; gpi = v; step = step })
    → fuse.act_at first own two v step ≡ Some next → IsOn g t (stage.Merging (record { first = first; own = own; two = two; max = max; gpi = v; step = step }) k) next
merging_word g t first own two max v (Testing z j) k next geometry is e =
    let w : ℕ = granule_of_task g t / 16 in
    let low : j < loads_of (words_of g.setup size.Two) z = subst (λ (n : ℕ). j < loads_of n z) is.two is.counted in
    let at = ap (l1_index g.setup (l0_words g)) (sym (word_by_granule g.setup (address_of t))) ∙ is.there in
    let load : act.Load (first + load_at two own z j) ≡ next = cc in
    let place : first + load_at two own z j ≡ place_of g (Level1 (load_at (words_of g.setup size.Two) is.index z j)) = rw (is.first, is.two, is.own) (omega arith) in
    on_index g t _ (load_at (words_of g.setup size.Two) is.index z j) next (index_below g _ _ geometry (load_index g.setup (l0_words g) z w is.index j at low)) (ap place_in (sym load) ∙ place)
merging_word g t first own two max v (Storing z j) k next geometry is e =
    let w : ℕ = granule_of_task g t / 16 in
    let low : j < words_of g.setup z = subst (λ (n : ℕ). j < n) (sym (block_words_is g.setup z)) (subst (λ (n : ℕ). j < block_words n z) is.two is.counted) in
    let at = ap (l1_index g.setup (l0_words g)) (sym (word_by_granule g.setup (address_of t))) ∙ is.there in
    let store : act.Store (first + store_at two own z j) (l1_word (l1.Contig z v)) ≡ next = cc in
    let place : first + store_at two own z j ≡ place_of g (Level1 (store_at (words_of g.setup size.Two) is.index z j)) = rw (is.first, is.two, is.own) (omega arith) in
    on_index g t _ (store_at (words_of g.setup size.Two) is.index z j) next (index_below g _ _ geometry (store_index g.setup (l0_words g) z w is.index j at low)) (ap place_in (sym store) ∙ place)
merging_word g t first own two max v (Ended o) k next geometry is e = absurd cc

pub act_word : (g : GeometryData) (t : Task) (st : Stage) (next : Act) → IsGeometry g → idle_answer g t ≡ None → IsStage g st (Some t) → act_at g st t ≡ Some next → IsOn g t st next
act_word g t stage.Locking next geometry acts fits e =
    let same : next ≡ take_act (lock_bit_of g t) = cc in
    record { name = Lock (lock_number g.setup (address_of t) / 64); named = lock_row g t geometry acts; place = ap place_in same; duty = inl refl; how = inl (refl, same) }
act_word g t (stage.Releasing o) next geometry acts fits e =
    let same : next ≡ release_act (lock_bit_of g t) = cc in
    record { name = Lock (lock_number g.setup (address_of t) / 64); named = lock_row g t geometry acts; place = ap place_in same; duty = inl refl; how = inr (inl (o, refl, same)) }
act_word g t stage.Looking next geometry acts fits e =
    let load = some_mapped act.Load (l1_place_of g (address_of t)) next e in
    on_level1 g t stage.Looking load.0 next geometry load.1 (ap place_in (sym load.2))
act_word g t (stage.Reading z k) next geometry acts fits e =
    let same : next ≡ gen_load_of g z (address_of t) = cc in
    on_generation g t (stage.Reading z k) z next acts (ap place_in same)
act_word g t (stage.Preparing k) next geometry acts fits e =
    let clean = some_mapped (λ place. act.And place (bit_not w64 (line_mask g (address_of t) (target_space t)))) (line_place_of g (address_of t)) next e in
    on_line g t (stage.Preparing k) clean.0 next geometry clean.1 (ap place_in (sym clean.2))
act_word g t (stage.Cleaning ch l k) next geometry acts fits e =
    let clean = some_mapped (λ place. act.And place (bit_not w64 (line_mask g (address_of t) (space_of_line t ch l)))) (line_place_of g (address_of t)) next e in
    on_line g t (stage.Cleaning ch l k) clean.0 next geometry clean.1 (ap place_in (sym clean.2))
act_word g t (stage.Passing ch d k) next geometry acts fits e =
    let load : barrier_load g d.passed ≡ next = let both : Some (barrier_load g d.passed) ≡ Some next = rw fits.1.low at e in cc in
    let low : d.passed < g.cpus = subst (λ (n : ℕ). d.passed < n) fits.1.cpus (ltb-true _ _ fits.1.low) in
    record { name = Duty d.passed; named = low; place = ap place_in (sym load); duty = inr (sym load); how = inr (inr refl) }
act_word g t (stage.Changing ch k) next geometry acts fits e =
    let store = some_mapped (λ place. act.Store place (changed_word g t ch k.word)) (l1_place_of g (address_of t)) next e in
    on_level1 g t (stage.Changing ch k) store.0 next geometry store.1 (ap place_in (sym store.2))
act_word g t (stage.Raising ch z k) next geometry acts fits e =
    let same : next ≡ gen_raise_of g z (address_of t) (generation_in z k.generations) = cc in
    on_generation g t (stage.Raising ch z k) z next acts (ap place_in same)
act_word g t (stage.Splitting z d k) next geometry acts fits e =
    let is : IsSplittingOf g (address_of t) z d = fits.0 in
    let n : ℕ = words_of g.setup z in
    let w : ℕ = granule_of_task g t / 16 in
    let at = index_at g (address_of t) is.place is.there in
    let low : d.made < n = subst (λ (m : ℕ). d.made < m) is.words (ltb-true _ _ is.low) in
    let own = ap (l1_index g.setup (l0_words g)) (sym (word_by_granule g.setup (address_of t))) ∙ at.1 in
    let place = split_place g (address_of t) z d is at.0 w at.2 own (ap (λ (x : ℕ). x % n) (sym (word_by_granule g.setup (address_of t)))) in
    let store : store_of d d.made ≡ next = let both : Some (store_of d d.made) ≡ Some next = rw is.low at e in cc in
    on_index g t (stage.Splitting z d k) (at.0 / n * n + d.made) next (index_below g _ _ geometry (block_index g.setup (l0_words g) z w at.0 d.made own low)) (ap place_in (sym store) ∙ place)
act_word g t (stage.Merging f k) next geometry acts fits e = merging_word g t f.first f.own f.two f.max f.gpi f.step k next geometry fits e

-- ---- any act of an agent

by_act : {s : Scene} {c : ℕ} {a : AgentData} {t : Task} {st : Stage} {is next : Act} → Acting s c a t st → ActKeeps s c a t st is → Some is ≡ Some next → ActKeeps s c a t st next
by_act {s = s} {c = c} {a = a} {t = t} {st = st} {is = is} {next = next} acting keeps e = subst (ActKeeps s c a t st) (let same : is ≡ next = cc in same) keeps

-- by its stage: for each kind of act one row
agent_keeps : {s : Scene} {c : ℕ} {a : AgentData} {t : Task} (st : Stage) (next : Act) → Acting s c a t st → act_at a.geometry st t ≡ Some next → ActKeeps s c a t st next
agent_keeps stage.Locking next acting e = by_act acting (take_keeps acting) e
agent_keeps {s = s} {c = c} {a = a} {t = t} stage.Looking next acting e =
    let load = some_mapped act.Load (l1_place_of a.geometry (address_of t)) next e in
    subst (ActKeeps s c a t stage.Looking) load.2 (look_keeps acting load.0 load.1)
agent_keeps (stage.Reading z k) next acting e = by_act acting (read_keeps z k acting) e
agent_keeps {s = s} {c = c} {a = a} {t = t} (stage.Changing ch k) next acting e =
    let store = some_mapped (λ place. act.Store place (changed_word a.geometry t ch k.word)) (l1_place_of a.geometry (address_of t)) next e in
    subst (ActKeeps s c a t (stage.Changing ch k)) store.2 (change_keeps ch k store.0 acting store.1)
agent_keeps (stage.Preparing k) next acting e = prepare_keeps k next acting e
agent_keeps (stage.Passing ch d k) next acting e = pass_keeps ch d k next acting e
agent_keeps (stage.Cleaning ch l k) next acting e = clean_keeps ch l k next acting e
agent_keeps (stage.Raising ch z k) next acting e = by_act acting (raise_keeps ch z k acting) e
agent_keeps (stage.Releasing given) next acting e = by_act acting (release_keeps given acting) e
agent_keeps (stage.Splitting z d k) next acting e = split_keeps z d k next acting e
agent_keeps (stage.Merging f k) next acting e = merge_keeps f k next acting e

then_some : {X Y : Type 0} (f : X → Option Y) (o : Option X) (y : Y) → option_and_then f o ≡ Some y → (x : X) × (o ≡ Some x) × (f x ≡ Some y)
then_some f None y e = absurd cc
then_some f (Some x) y e = (x, refl, e)

-- an agent with a next act is at a stage of a task, which has it
pub agent_acting : (g : GeometryData) (s : Scene) (c : ℕ) (a : AgentData) (next : Act) → HoldsIn g s → slice_get s.callers c ≡ Some (caller.Agent a) → next_of a ≡ Some next
    → (a.geometry ≡ g) × (t : Task) × Acting s c a t a.stage × (act_at a.geometry a.stage t ≡ Some next)
agent_acting g s c a next stands at e =
    let made = made_at_place g s c (caller.Agent a) stands at in
    let way = then_some (act_at a.geometry a.stage) (task_of a) next e in
    let acting : Acting s c a way.0 a.stage = record {
      stands = subst (λ (k : GeometryData). HoldsIn k s) (sym made.0) stands;
      at = at;
      is = made.1;
      under_way = way.1;
      acts = subst (HasActs a.geometry) way.1 made.1.acts;
      made = λ old. subst (λ (o : Option Task). IsMade a.geometry (caller.Agent (took_under_way a o old))) way.1 (took_made a.geometry a next old (refl, made.1, made.2, made.3, made.4) e);
    } in
    (made.0, way.0, acting, way.2)

-- ---- any act of a caller

-- its place is among the words, by how the caller was made alone
pub acts_have_places : ActsHavePlaces
acts_have_places g (caller.Agent a) next made e =
    let way = then_some (act_at a.geometry a.stage) (task_of a) next e in
    subst (λ (k : GeometryData). place_in next < word_count k) made.0
    (let on = act_word a.geometry way.0 a.stage next made.1.geometry (subst (HasActs a.geometry) way.1 made.1.acts) (subst (IsStage a.geometry a.stage) way.1 made.1.stage) way.2 in
    subst (λ (p : ℕ). p < word_count a.geometry) (sym on.place) (place_below a.geometry on.name on.named))
acts_have_places g (caller.Cpu q) next made e = subst (λ (k : GeometryData). place_in next < word_count k) made.0 (next_below q next made.1 e)

-- what it keeps
abbrev Keeps : GeometryData → Scene → ℕ → Caller → Act → Type 0
Keeps g s c x t = MayTake x (answer_of t s.words) × HoldsIn g (scene_acted s c x t)

caller_keeps : (g : GeometryData) (s : Scene) (c : ℕ) (x : Caller) (t : Act) → HoldsIn g s → slice_get s.callers c ≡ Some x → caller_next x ≡ Some t → Keeps g s c x t
caller_keeps g s c (caller.Agent a) t stands at next =
    let way = agent_acting g s c a t stands at next in
    subst (λ (k : GeometryData). Keeps k s c (caller.Agent a) t) way.0 (rw way.2.under_way (agent_keeps a.stage t way.2 way.3))
caller_keeps g s c (caller.Cpu q) t stands at next =
    let way = cpu_accessing g s c q t stands at next in
    subst (λ (k : GeometryData). Keeps k s c (caller.Cpu q) t) way.geometry (rw way.under_way (access_keeps q.stage t way.acting way.acts))

made_of : (g : GeometryData) (x : Caller) → IsMade g x → IsCallerOf g x
made_of g (caller.Agent a) made = (made.0, made.1)
made_of g (caller.Cpu q) made = (made.0, made.1)

pub one_act : OneActKeeps
one_act g s c x t stands at next =
    let kept = caller_keeps g s c x t stands at next in
    (subst (λ (n : ℕ). place_in t < n) (sym stands.shape.size) (acts_have_places g x t (made_of g x (made_at_place g s c x stands at)) next), kept.0, kept.1)
