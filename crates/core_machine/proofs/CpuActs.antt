-- The acts of a processor: the stores of its duty word, the loads of generations, and the load of the L1 word.
use Rattle.std.proofs.Common.{◌≡◌, ◌≢◌, ℕ, zero, suc, ◌+◌, ◌*◌, ◌/◌, ◌<◌, ◌≤◌, ◌⊎◌, ◌++◌, ◌∷◌, [], List, map, true, false, eqb, Option, Some, None, length, drop, set, refl, sym, ap, ◌∙◌, subst, arith, inl, inr, append-nil, ◌||◌, Bool}
use Rattle.std.specs.Prelude.{slice_get, slice_index, is_some, MatchOption}
use Rattle.std.specs.List.{count_by}
use Rattle.std.proofs.lemmas.List.{set-get_or, get_or-set_same}
use Rattle.alias_clean.specs.Lines.{line_mask, touch_of, has_line}
use Rattle.delegate_ops.specs.InnerAgents as agents
use Rattle.gpi_values.specs.Values.{permits_of}
use Rattle.shared_words.specs.Acts.{written}
use Rattle.core_machine.specs.Lines.{is_allowed_look, seen_in}
use Rattle.core_machine.specs.InnerCpuCaller.{Decision, cpu_decided, cpu_touching, decided_at, decided_under, decision_of, touch_by, touching_at, touching_under}
use Rattle.core_machine.specs.InnerCallers.{unpassed_by, uncleaned_by}
use Rattle.core_machine.specs.InnerLines.{DecisionHolds, LineHolds}
use Rattle.core_machine.specs.InnerWalks.{SomeHas}
use Rattle.core_machine.proofs.LineLemmas.{is_this, this_is, this_line, touch_line, touch_lines}
use Rattle.core_machine.proofs.MarkLemmas.{seen_before, seen_look, seen_stays}
use Rattle.core_machine.proofs.DecidedLemmas.{IsPermitted, decided_list, decided_loads, decided_on, decided_stamps, decided_touching, decided_walks, look_is, look_touches, one_decision, one_touch, prefix_permits}
use Rattle.core_machine.proofs.ListsLemmas.{unpassed_in_uncleaned, unraised_in_unpassed}
use Rattle.core_machine.proofs.StepLemmas.{number_low}
use Rattle.core_machine.proofs.AddressLemmas.{index_below}
use Rattle.core_machine.proofs.WalkLemmas.{some_moves}
use Rattle.core_machine.proofs.WordLemmas.{generations_left}
use Rattle.processor.specs.InnerProgress.{decided_stage}
use Rattle.core_machine.proofs.Names.{Gpi, granule_bytes, canonical_word, word_gpi, GeometryData, WordName, Duty, place_of, l0_words, l1_index, l1_place_of, apart_by, Task, Answer, Entry, Act, place_in, after_act, answer_of, Generations, HoldsIn, Scene, map_in, scene_after, CpuData, IsCpu, IsMade, Size, holder_by, holds, is_due, IsCounted, blocks_in_region, count_of, gen_place_of, lock_number, generation_word, open_by, state_in, Caller, is_due_at, Line}
use Rattle.core_machine.proofs.Names.size
use Rattle.core_machine.proofs.Names.task
use Rattle.core_machine.proofs.Names.answer
use Rattle.core_machine.proofs.Names.caller
use Rattle.core_machine.proofs.Names.act
use Rattle.gpi_values.specs.declared.gpi.Space.{Space}
use Rattle.gpt_descriptors.specs.declared.size.Reach.{Reach}
use Rattle.gpt_descriptors.specs.Sizes.{granule_number, place_in_word, size_bytes, space_bytes, tag_size_of, generation_in, with_generation}
use Rattle.gpt_descriptors.specs.Entries.{l1_entry, word_reach}
use Rattle.gpt_descriptors.proofs.PlaceLemmas.{place_below}
use Rattle.invalidate.specs.Duty.{on_act, off_act}
use Rattle.invalidate.specs.Generations.{gen_load_of}
use Rattle.history.specs.Legality.{is_seen}
use Rattle.history.specs.Events.{CallEvent}
use Rattle.walk_cache.specs.declared.walk.Walk.{Walk}
use Rattle.walk_cache.specs.Rings.{RingData, first_around, covers, covers_from, newest_of}
use Rattle.walk_cache.proofs.RingLemmas.{if_found}
use Rattle.processor.specs.Accesses.{walk_with, walk_of, walk_gpi, table_access, looked_entry}
use Rattle.processor.specs.InnerProgress.{Stage, act_at, after_search, old_walk, ring_after, no_generations}
use Rattle.processor.specs.InnerProgress as stage
use Rattle.processor.specs.InnerCpus.{IsAt, IsAccessAt, IsReadable, after_answer, idle_answers, task_of, goes_to, next_at, next_of, took_at, took_of}
use Rattle.processor.specs.InnerEntries.{made_at, own_entries}
use Rattle.processor.specs.Script.{IsCall, IsLook, AreCallEvents}
use Rattle.processor.proofs.CpuLemmas.{access_at, some_mapped, took_is_cpu, took_keeps}
use Rattle.processor.proofs.EntryLemmas.{step_entries}
use Rattle.processor.proofs.ScriptLemmas.{step_walks}
use Rattle.processor.proofs.WalkLemmas.{walk_is, descriptor_walk}
use Rattle.gpt_descriptors.proofs.PlaceLemmas.{generation_named}
use Rattle.history.specs.Counts.{count_around}
use Rattle.history.specs.Stamps.{AreStamped, IsStampedCall, Gave, SawBetween, WasOld, walked}
use Rattle.history.specs.Legality.{StateAllows}
use Rattle.history.specs.declared.call.Access.{Access}
use Rattle.history.specs.declared.call.OldWalk.{OldWalk}
use Rattle.history.specs.declared.call.Via.TheVariants as via
use Rattle.core_machine.specs.InnerAgentCaller.{comes_before}
use Rattle.core_machine.specs.InnerCpuCaller.{DecidedBy, IsLoaded, IsOld, cpu_loads, cpu_stamps, cpu_walks, duty_at, loads_at, loads_by, stamps_at, stamps_by, walk_at}
use Rattle.core_machine.specs.InnerCallers.{unraised_by}
use Rattle.core_machine.specs.InnerWalks.{In, GivesNow, WalkHolds, generation_around, walk_generation, walk_size}
use Rattle.history.proofs.StampLemmas.{decided_now, hit_stamped, saw_now, walk_stamped}
use Rattle.core_machine.proofs.CoverLemmas.{home_at, walk_gives}
use Rattle.core_machine.proofs.ListLemmas.{get_append, one, some_or_none}
use Rattle.std.proofs.lemmas.Bool.{cases_Bool, eqb-true, eq-eqb}
use Rattle.core_machine.proofs.StampLemmas.{idle_unstamped, own_stamps_grow, region_around, starting_loads, starting_stamps}
use Rattle.core_machine.proofs.AddressLemmas.{index_at, word_by_granule, word_readable}
use Rattle.core_machine.proofs.CallerLemmas.{due_alone, made_at_place, placed_at}
use Rattle.core_machine.proofs.ActLemmas.{canonical_gives, map_gives}
use Rattle.core_machine.proofs.WalkLemmas.{in_back, in_front, in_if, in_parts, open_held, tracks_same}
use Rattle.core_machine.proofs.StepLemmas.{aside_keeps, rises_left, step_keeps, tables_whole}
use Rattle.core_machine.proofs.WordLemmas.{Writes, is_generation, is_level1, is_line, is_lock, locks_left, writes_none, writes_one}

-- ---- answers

look_seen : (g : GeometryData) (p c n pa : ℕ) (space : Space) (o : Option Gpi) (kept : List Walk) (given : Answer) (later : List Walk) (events : List CallEvent) → IsLook g p c n pa space o kept given later events → is_seen given ≡ true
look_seen g p c n pa space (Some gpi) kept given later events look = subst (λ (x : Answer). is_seen x ≡ true) (sym look.0) refl
look_seen g p c n pa space None kept given later events look = subst (λ (x : Answer). is_seen x ≡ true) (sym look.is) refl

call_seen : (g : GeometryData) (p c n : ℕ) (t : Task) (kept : List Walk) (given : Answer) (later : List Walk) (events : List CallEvent) → IsCall g p c n t kept given later events → is_seen given ≡ true
call_seen g p c n (task.Look pa space) kept given later events call = look_seen g p c n pa space _ kept given later events call
call_seen g p c n t kept given later events call = absurd call

-- each answer of a processor is what an access has seen
pub answers_seen : (g : GeometryData) (p c n k : ℕ) (tasks : List Task) (kept : List Walk) (answers : List Answer) (later : List Walk) (events : List CallEvent) (given : Answer) → AreCallEvents g p c n tasks kept answers later events
    → slice_get answers k ≡ Some given → is_seen given ≡ true
answers_seen g p c n k tasks kept [] later events given are there = absurd cc
answers_seen g p c n k [] kept (a ∷ answers) later events given are there = absurd are
answers_seen g p c n zero (t ∷ tasks) kept (a ∷ answers) later events given are there =
    let same : a ≡ given = cc in subst (λ (x : Answer). is_seen x ≡ true) same (call_seen g p c n t kept a are.2 are.0 are.4)
answers_seen g p c n (suc k) (t ∷ tasks) kept (a ∷ answers) later events given are there = answers_seen g p c (n + 1) k tasks are.2 answers later are.1 given are.5 there

-- such an answer counts nothing
seen_counted : (g : GeometryData) (c k : ℕ) (t : Task) (given : Answer) (h : List Entry) → is_seen given ≡ true → IsCounted g c k t given h
seen_counted g c k t (answer.Done given) h seen = absurd cc
seen_counted g c k t (answer.Worn z value) h seen = absurd cc
seen_counted g c k t given h seen = tt

pub cpu_counted : (g : GeometryData) (c k : ℕ) (t : Task) (q : CpuData) (given : Answer) (h : List Entry) → IsMade g (caller.Cpu q) → slice_get q.answers k ≡ Some given → IsCounted g c k t given h
cpu_counted g c k t q given h made there = seen_counted g c k t given h (answers_seen q.geometry q.number made.2 0 k q.tasks [] q.answers made.4.kept made.4.calls given made.4.answered there)

-- ---- changes that aren't complete

-- of each region at most one isn't raised yet
single : (g : GeometryData) (s : Scene) (y : Size) (region : ℕ) → HoldsIn g s → count_by (is_due y region) s.callers ≤ 1
single g s y region stands =
    elim (some_or_none (is_due y region) s.callers) [
      | inl none ↦ omega (arith, none)
      | inr some ↦
          (let n = lock_number g.setup (region * size_bytes y) in
          let has : holds n some.1 ≡ true =
          elim ((placed_at g s some.0 some.1 stands some.2).due y region) [ inl none ↦ absurd (let both : true ≡ false = sym some.3 ∙ none in cc) | inr has ↦ has ] in
          let due = due_alone (record { stands = stands; at = some.2; has = has }) y region refl ∙ ap one some.3 in
          omega (arith, due))
    ]

-- ---- the processor that acts

-- a processor whose access has come so far
abbrev pub cpu_at : CpuData → Stage → CpuData
cpu_at q st = goes_to q q.cache st

-- caller c is a processor at a stage of an access, and all facts hold
pub record Accessing (s : Scene) (c : ℕ) (q : CpuData) (pa : ℕ) (space : Space) (st : Stage) : Type 0 where
  pub stands : HoldsIn q.geometry s
  pub at : slice_get s.callers c ≡ Some (caller.Cpu (cpu_at q st))
  pub is : IsCpu q
  pub staged : IsAccessAt q.geometry pa st
  pub permitted : IsPermitted space st
  pub under_way : task_of q ≡ Some (task.Look pa space)
  pub inside : pa < space_bytes q.geometry.setup
  pub made : (old : ℕ) → IsReadable st old → IsMade q.geometry (caller.Cpu (took_at (cpu_at q st) (Some (task.Look pa space)) old))
  pub own : (old : ℕ) → own_entries c (took_at (cpu_at q st) (Some (task.Look pa space)) old) ≡ own_entries c (cpu_at q st) ++ made_at q.geometry c (length q.answers) st (Some (task.Look pa space)) old

-- what an act keeps that is made at a stage
abbrev pub AccessKeeps : Scene → ℕ → CpuData → ℕ → Space → Stage → Act → Type 0
AccessKeeps s c q pa space st next =
    IsReadable st (answer_of next s.words)
    × HoldsIn q.geometry (scene_after s c (caller.Cpu (took_at (cpu_at q st) (Some (task.Look pa space)) (answer_of next s.words))) (after_act next s.words)
    (made_at q.geometry c (length q.answers) st (Some (task.Look pa space)) (answer_of next s.words)))

module _ {s : Scene} {c : ℕ} {q : CpuData} {pa : ℕ} {space : Space} {st : Stage} (acting : Accessing s c q pa space st) where
  -- its duty word
  pub duty_below : place_of q.geometry (Duty q.number) < length s.words
  duty_below = subst (λ (n : ℕ). place_of q.geometry (Duty q.number) < n) (sym acting.stands.shape.size) (place_below q.geometry (Duty q.number) acting.is.number)

  pub duty_is : slice_index s.words (place_of q.geometry (Duty q.number)) ≡ duty_at st
  duty_is = acting.stands.duties c q.number (caller.Cpu (cpu_at q st)) acting.at refl

  -- what it has loaded, its stamps, and its walks
  loads_are : loads_at q.geometry s.words pa st
  loads_are = subst (loads_by q.geometry s.words st) acting.under_way (acting.stands.loads c (caller.Cpu (cpu_at q st)) acting.at)

  stamps_are : AreStamped s.first q.geometry.setup.first (granule_bytes q.geometry.setup) c q.tasks q.answers s.history
  stamps_are = (acting.stands.stamps c (caller.Cpu (cpu_at q st)) acting.at).0

  decided_is : stamps_at q.geometry s.first c (length q.answers) pa space st s.history
  decided_is = subst (λ (o : Option Task). stamps_by q.geometry s.first c (length q.answers) st o s.history) acting.under_way (acting.stands.stamps c (caller.Cpu (cpu_at q st)) acting.at).1

  loads_of : (r : RingData) (next : Stage) (after : List ℕ) → loads_at q.geometry after pa next → cpu_loads after (goes_to q r next)
  loads_of r next after loads = subst (loads_by q.geometry after next) (sym acting.under_way) loads

  stamps_of : (r : RingData) (next : Stage) (h : List Entry) → AreStamped s.first q.geometry.setup.first (granule_bytes q.geometry.setup) c q.tasks q.answers h
      → stamps_at q.geometry s.first c (length q.answers) pa space next h → cpu_stamps s.first h c (goes_to q r next)
  stamps_of r next h answered stamps = (answered, subst (λ (o : Option Task). stamps_by q.geometry s.first c (length q.answers) next o h) (sym acting.under_way) stamps)

  walks_are : (w : Walk) → In w (q.cache.walks ++ walk_at st) → WalkHolds q.geometry s.words (map_in s) s.callers w
  walks_are = acting.stands.walks c (caller.Cpu (cpu_at q st)) acting.at

  -- what it has decided, and what it is about to touch
  decided_now_is : cpu_decided (cpu_at q st) ≡ decided_at q.geometry pa space st
  decided_now_is = ap (λ (o : Option Task). decided_under q.geometry o st) acting.under_way

  touching_now_is : cpu_touching (cpu_at q st) ≡ touching_at q.geometry pa space st
  touching_now_is = ap (λ (o : Option Task). touching_under q.geometry o st) acting.under_way

  -- and at a stage that it goes to
  decided_next : (r : RingData) (next : Stage) → cpu_decided (goes_to q r next) ≡ decided_at q.geometry pa space next
  decided_next r next = ap (λ (o : Option Task). decided_under q.geometry o next) acting.under_way

  touching_next : (r : RingData) (next : Stage) → cpu_touching (goes_to q r next) ≡ touching_at q.geometry pa space next
  touching_next r next = ap (λ (o : Option Task). touching_under q.geometry o next) acting.under_way

  -- a generation around it: as loaded now, and against the count of the history
  region_within : (y : Size) → pa / size_bytes y < blocks_in_region y * q.geometry.setup.gigabytes
  region_within y = generation_named q.geometry y pa acting.inside

  loaded_now : (y : Size) → IsLoaded q.geometry s.words pa y (slice_index s.words (gen_place_of q.geometry y pa))
  loaded_now y = (acting.stands.least y (pa / size_bytes y) (region_within y), omega arith)

  counted_now : (y : Size) → (slice_index s.words (gen_place_of q.geometry y pa) ≤ count_around q.geometry.setup.first (granule_bytes q.geometry.setup) (granule_number q.geometry.setup pa) s.history y)
      × (count_around q.geometry.setup.first (granule_bytes q.geometry.setup) (granule_number q.geometry.setup pa) s.history y ≤ slice_index s.words (gen_place_of q.geometry y pa) + 1)
  counted_now y =
      let g = q.geometry in
      let sum = acting.stands.generations y (pa / size_bytes y) (region_within y) in
      let region = ap (λ (r : ℕ). count_of g.setup.first (granule_bytes g.setup) y r s.history) (region_around g.setup y pa) in
      let few = single g s y (pa / size_bytes y) acting.stands in
      (omega (arith, sum, region), omega (arith, sum, region, few))

  -- the map's GPI of its granule
  map_here : slice_get (state_in s).map (granule_number q.geometry.setup pa) ≡ Some (map_in s (granule_number q.geometry.setup pa))
  map_here = map_gives q.geometry s pa acting.stands acting.inside

  -- it becomes x without an entry
  quiet_keeps : (x : CpuData) (n : Option WordName) (after : List ℕ) → IsMade q.geometry (caller.Cpu x) → Writes q.geometry s.words n after → is_level1 n ≡ false → is_generation n ≡ false → is_lock n ≡ false → is_line n ≡ false
      → ((p : ℕ) → n ≡ Some (Duty p) → q.number ≡ p) → x.number ≡ q.number → slice_index after (place_of q.geometry (Duty q.number)) ≡ duty_at x.stage → own_entries c x ≡ own_entries c (cpu_at q st)
      → cpu_loads after x → cpu_stamps s.first s.history c x → ((w : Walk) → In w (cpu_walks x) → In w (q.cache.walks ++ walk_at st))
      → ((d : Decision) → In d (cpu_decided x) → In d (decided_at q.geometry pa space st)) → cpu_touching x ≡ touching_at q.geometry pa space st → HoldsIn q.geometry (scene_after s c (caller.Cpu x) after [])
  quiet_keeps x n after made writes no_level1 no_generation no_lock no_line mine number on own loads stamps walks decided touching =
      aside_keeps {n = n} (record {
        stands = acting.stands;
        at = acting.at;
        made = made;
        writes = writes;
        no_level1 = no_level1;
        no_generation = no_generation;
        duty = record {
          number = ap Some number;
          own = λ p same. ap Some (mine p same);
          word = λ p is. subst (λ (r : ℕ). slice_index after (place_of q.geometry (Duty r)) ≡ duty_at x.stage) (let same : x.number ≡ p = cc in sym number ∙ same) on;
        };
        loads = loads;
        stamps = stamps;
        no_line = no_line;
        unraised = λ y. refl;
        unpassed = λ p. refl;
        uncleaned = refl;
        decided = λ d has. subst (In d) (sym decided_now_is) (decided d has);
        touching = touching ∙ sym touching_now_is;
        walks = walks;
        before = refl;
        whole = refl;
        opened = refl;
        due = λ y region. refl;
        locks = λ m low. ap (λ (bit : ℕ). bit + 0) (locks_left writes no_lock m low);
        seen = tt;
        alone = λ m has. absurd cc;
        counted = λ k u given asked answered. cpu_counted q.geometry c k u x given s.history made answered;
        own = own;
      })

  -- it loads a word
  load_quiet : (r : RingData) (next : Stage) → IsMade q.geometry (caller.Cpu (goes_to q r next)) → duty_at st ≡ duty_at next → own_entries c (goes_to q r next) ≡ own_entries c (cpu_at q st)
      → loads_at q.geometry s.words pa next → stamps_at q.geometry s.first c (length q.answers) pa space next s.history → ((w : Walk) → In w (r.walks ++ walk_at next) → In w (q.cache.walks ++ walk_at st))
      → decided_at q.geometry pa space next ≡ decided_at q.geometry pa space st → touching_at q.geometry pa space next ≡ touching_at q.geometry pa space st
      → HoldsIn q.geometry (scene_after s c (caller.Cpu (goes_to q r next)) s.words [])
  load_quiet r next made on own loads stamps walks decided touching =
      quiet_keeps (goes_to q r next) None s.words made (writes_none q.geometry s.words) refl refl refl refl (λ p same. absurd cc) refl (duty_is ∙ on) own (loads_of r next s.words loads) (stamps_of r next s.history stamps_are stamps) walks
      (λ d has. subst (In d) (decided_next r next ∙ decided) has) (touching_next r next ∙ touching)

  -- it stores its duty word
  store_quiet : (x : CpuData) (v : ℕ) → IsMade q.geometry (caller.Cpu x) → x.number ≡ q.number → v ≡ duty_at x.stage → own_entries c x ≡ own_entries c (cpu_at q st)
      → cpu_loads (set s.words (place_of q.geometry (Duty q.number)) v) x → cpu_stamps s.first s.history c x → ((w : Walk) → In w (cpu_walks x) → In w (q.cache.walks ++ walk_at st)) → ((d : Decision) → In d (cpu_decided x) → In d (decided_at q.geometry pa space st)) → cpu_touching x ≡ touching_at q.geometry pa space st
      → HoldsIn q.geometry (scene_after s c (caller.Cpu x) (set s.words (place_of q.geometry (Duty q.number)) v) [])
  store_quiet x v made number on own loads stamps walks decided touching =
      quiet_keeps x (Some (Duty q.number)) (set s.words (place_of q.geometry (Duty q.number)) v) made (writes_one q.geometry s.words (Duty q.number) v acting.is.number) refl refl refl refl (λ p same. cc) number
      (get_or-set_same s.words (place_of q.geometry (Duty q.number)) v 0 duty_below ∙ on) own loads stamps walks decided touching

  -- a load decides the access by this GPI
  decides : (next : Stage) (gpi : Gpi) → IsMade q.geometry (caller.Cpu (cpu_at q next)) → duty_at st ≡ duty_at next
      → own_entries c (cpu_at q next) ≡ own_entries c (cpu_at q st) ++ looked_entry q.geometry c (length q.answers) pa space gpi ∷ []
      → StateAllows (state_in s) (looked_entry q.geometry c (length q.answers) pa space gpi) → loads_at q.geometry s.words pa next
      → stamps_at q.geometry s.first c (length q.answers) pa space next (s.history ++ looked_entry q.geometry c (length q.answers) pa space gpi ∷ [])
      → ((w : Walk) → In w (q.cache.walks ++ walk_at next) → In w (q.cache.walks ++ walk_at st) ⊎ WalkHolds q.geometry s.words (map_in s) (set s.callers c (caller.Cpu (cpu_at q next))) w)
      → touching_at q.geometry pa space st ≡ [] → decided_at q.geometry pa space next ≡ decision_of q.geometry pa space (Some gpi) → touching_at q.geometry pa space next ≡ touch_by q.geometry pa space (Some gpi)
      → (map_in s (granule_number q.geometry.setup pa) ≡ gpi) ⊎ SomeHas (set s.callers c (caller.Cpu (cpu_at q next))) (unpassed_by q.number) (granule_number q.geometry.setup pa, gpi)
      → HoldsIn q.geometry (scene_after s c (caller.Cpu (cpu_at q next)) s.words (looked_entry q.geometry c (length q.answers) pa space gpi ∷ []))
  decides next gpi made on own allowed loads stamps walks untouched decided touching known =
      let g = q.geometry in
      let e : Entry = looked_entry g c (length q.answers) pa space gpi in
      let writes = writes_none g s.words in
      let answered = (own_stamps_grow s.first s.history (e ∷ []) c (caller.Cpu (cpu_at q st)) (acting.stands.stamps c (caller.Cpu (cpu_at q st)) acting.at)).0 in
      step_keeps {n = None} {o = Some e} (record {
        stands = acting.stands;
        at = acting.at;
        made = made;
        writes = writes;
        apart = λ m free. tt;
        duty = record { number = refl; own = λ p same. absurd cc; word = λ p same. acting.stands.duties c p (caller.Cpu (cpu_at q st)) acting.at same ∙ on };
        rises = rises_left writes refl;
        loads = loads_of q.cache next s.words loads;
        stamps = stamps_of q.cache next (s.history ++ e ∷ []) answered stamps;
        tracks = tracks_same g s _ _ _ _ _ (λ n. refl) (λ y. refl) (λ y n v has. absurd has);
        walks = walks;
        marks = record {
          changed = λ k. inl (refl, λ sp before. seen_stays k sp s.history e refl before);
          passes = λ p k v has. absurd has;
          decides = λ p d number has.
              (let is = one_decision g pa space gpi d (subst (In d) (decided_next q.cache next ∙ decided) has) in
              let same : q.number ≡ p = cc in
              let looked : permits_of gpi space ≡ true → seen_in (granule_number g.setup pa) space (s.history ++ e ∷ []) ≡ true =
              λ permits. seen_look (granule_number g.setup pa) space s.history e refl (look_is g c (length q.answers) pa space gpi permits) in
              inr (subst (λ (n : ℕ). DecisionHolds (map_in s) (s.history ++ e ∷ []) (set s.callers c (caller.Cpu (cpu_at q next))) n d) same
              (subst (DecisionHolds (map_in s) (s.history ++ e ∷ []) (set s.callers c (caller.Cpu (cpu_at q next))) q.number) is
              (elim known [ inl by_map ↦ inl (by_map, looked) | inr some ↦ inr some ]))));
          cleans = λ k v has. absurd has;
          comes = λ k sp resident. inl resident;
          stays = λ k sp resident permits. resident;
          looks = λ k sp permits seen. elim (cases_Bool (is_allowed_look k sp e)) [
            | inl is ↦ inr (subst (In {A = ℕ × Space} (k, sp)) (sym (touching_next q.cache next ∙ touching)) (look_touches g c (length q.answers) pa k space sp gpi is))
            | inr other ↦ inl (permits, seen_before k sp s.history e other seen)
          ];
          touches = λ k sp has. absurd (subst (In {A = ℕ × Space} (k, sp)) (touching_now_is ∙ untouched) has);
        };
        entry = record { caller = refl; call = refl; goes_on = refl; block = λ m on. absurd cc; allowed = allowed };
        tables = tables_whole c (caller.Cpu (cpu_at q next)) acting.stands acting.at writes refl refl refl;
        opened = refl;
        locks = λ m low. refl;
        seen = tt;
        raised = λ y region within. omega arith;
        alone = λ m has. absurd cc;
        counted = λ j u given asked answered. cpu_counted g c j u (cpu_at q next) given (s.history ++ e ∷ []) made answered;
        own = own;
      })

-- before the first load nothing is loaded
none_before : (y : Size) → comes_before y size.Two ≡ true → ⊥
none_before size.Two before = absurd cc
none_before size.ThirtyTwo before = absurd cc
none_before size.FiveTwelve before = absurd cc

or_true : (b : Bool) → (b || true) ≡ true
or_true true = refl
or_true false = refl

lt_of : (m n : ℕ) → m ≤ n → m ≢ n → m < n
lt_of m n low apart = omega (arith, low, apart)

in_drop : {A : Type 0} (x : A) (n : ℕ) (xs : List A) → In x (drop n xs) → In x xs
in_drop x zero xs has = has
in_drop x (suc n) [] has = absurd has
in_drop x (suc n) (y ∷ xs) has = inr (in_drop x n xs has)

-- the parts of a walk that is made
walk_parts : (pa : ℕ) (k : Generations) (word : ℕ) (o : Option Reach) (w : Walk) → word_reach word ≡ o → walk_with o pa k word ≡ Some w
    → (word_reach word ≡ Some w.reach) × (w.first ≡ first_around w.reach pa) × (w.word ≡ word) × (w.tag ≡ generation_in (tag_size_of w.reach) k)
walk_parts pa k word None w reaches made = absurd cc
walk_parts pa k word (Some r) w reaches made =
    let same : record { reach = r; first = first_around r pa; word = word; tag = generation_in (tag_size_of r) k } ≡ w = cc in
    subst (λ (u : Walk). (word_reach word ≡ Some u.reach) × (u.first ≡ first_around u.reach pa) × (u.word ≡ word) × (u.tag ≡ generation_in (tag_size_of u.reach) k)) same (reaches, refl, refl, refl)

-- ---- the first act: the duty word is set, and the ring is searched

-- the walk that is found is one of the ring
search_walks : (kept : List Walk) (pa : ℕ) (o : Option Walk) (w : Walk) → newest_of kept pa ≡ o → In w (kept ++ walk_at (after_search o)) → In w (kept ++ [])
search_walks kept pa None w newest has = has
search_walks kept pa (Some found) w newest has =
    elim (in_parts w kept (found ∷ []) has) [
      | inl old ↦ in_front w kept [] old
      | inr new ↦
          (let last = if_found kept pa (Some found) (sym newest) in
          in_front w kept [] (subst (In w) (sym last.parts) (in_back w last.earlier (found ∷ last.later) (elim new [ inl is ↦ inl is | inr none ↦ absurd none ]))))
    ]

search_loads : (g : GeometryData) (words : List ℕ) (pa : ℕ) (o : Option Walk) → loads_at g words pa (after_search o)
search_loads g words pa None = (tt, λ y before. absurd (none_before y before))
search_loads g words pa (Some w) = tt

search_stamps : (g : GeometryData) (map : List Gpi) (c k pa : ℕ) (space : Space) (o : Option Walk) (h : List Entry) → stamps_at g map c k pa space (after_search o) h
search_stamps g map c k pa space None h = tt
search_stamps g map c k pa space (Some w) h = tt

search_decided : (g : GeometryData) (pa : ℕ) (space : Space) (o : Option Walk) → decided_at g pa space (after_search o) ≡ []
search_decided g pa space None = refl
search_decided g pa space (Some w) = refl

search_touching : (g : GeometryData) (pa : ℕ) (space : Space) (o : Option Walk) → touching_at g pa space (after_search o) ≡ []
search_touching g pa space None = refl
search_touching g pa space (Some w) = refl

search_on : (o : Option Walk) → 1 ≡ duty_at (after_search o)
search_on None = refl
search_on (Some w) = refl

start_keeps : {s : Scene} {c : ℕ} {q : CpuData} {pa : ℕ} {space : Space} → Accessing s c q pa space stage.Starting → AccessKeeps s c q pa space stage.Starting (on_act q.geometry q.number)
start_keeps {s = s} {c = c} {q = q} {pa = pa} {space = space} acting =
    let o : Option Walk = newest_of q.cache.walks pa in
    let next : Stage = after_search o in (
      tt,
      store_quiet acting (cpu_at q next) 1 (acting.made 0 tt) refl (search_on o) (acting.own 0 ∙ append-nil _)
          (loads_of acting q.cache next (set s.words (place_of q.geometry (Duty q.number)) 1) (search_loads q.geometry _ pa o)) (stamps_of acting q.cache next s.history (stamps_are acting) (search_stamps q.geometry s.first c (length q.answers) pa space o s.history))
          (λ w has. search_walks q.cache.walks pa o w refl has)
          (λ d has. absurd (subst (In d) (decided_next acting q.cache next ∙ search_decided q.geometry pa space o) has)) (touching_next acting q.cache next ∙ search_touching q.geometry pa space o),
    )

-- ---- the load of the generation of a kept walk

-- what is unraised is open
unraised_open : (y : Size) (x : Caller) (pair : ℕ × Gpi) → In pair (unraised_by y x) → In pair (open_by x)
unraised_open y (caller.Agent a) pair has = (in_if pair (is_due_at a.stage y) _ has).1
unraised_open y (caller.Cpu q) pair has = absurd has

-- and not passed by any processor
unraised_unpassed : (y : Size) (p : ℕ) (x : Caller) (k : ℕ) (v : Gpi) → In {A = ℕ × Gpi} (k, v) (unraised_by y x) → In {A = ℕ × Gpi} (k, v) (unpassed_by p x)
unraised_unpassed y p (caller.Agent a) k v has = unraised_in_unpassed a.geometry y p a.stage (agents.task_of a) k v has
unraised_unpassed y p (caller.Cpu q) k v has = absurd has

-- the GPI of a walk that is hit is allowed, and seen between its tag and the next change
module _ {s : Scene} {c : ℕ} {q : CpuData} {pa : ℕ} {space : Space} {w : Walk} (acting : Accessing s c q pa space (stage.Trying w)) where
  tried : WalkHolds q.geometry s.words (map_in s) s.callers w
  tried = walks_are acting w (in_back w q.cache.walks (w ∷ []) (inl refl))

  covered_here : covers w pa ≡ true
  covered_here = acting.staged.1

  -- the loaded generation is that of the walk
  loaded_is : slice_index s.words (gen_place_of q.geometry (walk_size w) pa) ≡ walk_generation q.geometry s.words w
  loaded_is = ap (generation_word q.geometry s.words (walk_size w)) (tried.home pa covered_here)

  hit_allowed : (now : GivesNow q.geometry (map_in s) s.callers w pa) → StateAllows (state_in s) (looked_entry q.geometry c (length q.answers) pa space now.gpi)
  hit_allowed now =
      elim now.known [
        | inl map ↦ inl (map_here acting ∙ ap Some map)
        | inr some ↦ inr (open_held (state_in s).opened s.callers some.number (granule_number q.geometry.setup pa) now.gpi some.caller acting.stands.opened some.at (unraised_open (walk_size w) some.caller _ some.has))
      ]

  hit_saw : (now : GivesNow q.geometry (map_in s) s.callers w pa) → w.tag ≡ walk_generation q.geometry s.words w
      → SawBetween s.first q.geometry.setup.first (granule_bytes q.geometry.setup) (granule_number q.geometry.setup pa) (walk_size w) w.tag w.tag now.gpi s.history
  hit_saw now same =
      let g = q.geometry in
      let z = walk_size w in
      let granule : ℕ = granule_number g.setup pa in
      let count = counted_now acting z in
      let loaded = loaded_is in
      elim now.known [
        | inl map ↦ saw_now s.first g.setup.first (granule_bytes g.setup) granule z w.tag w.tag now.gpi s.history (map_here acting ∙ ap Some map) (omega (arith, same, count.0, loaded)) (omega (arith, same, count.1, loaded))
        | inr some ↦
            (let around : generation_around g s.words z granule ≡ w.tag = ap (generation_word g s.words z) (region_around g.setup z pa ∙ tried.home pa covered_here) ∙ sym same in
            record {
              number = w.tag;
              low = omega arith;
              high = omega arith;
              gave = subst (λ (n : ℕ). Gave s.first g.setup.first (granule_bytes g.setup) granule z n now.gpi s.history) around (acting.stands.pairs z granule now.gpi some);
            })
      ]

  -- the processor decides by it
  hit_known : (now : GivesNow q.geometry (map_in s) s.callers w pa) (x : CpuData)
      → (map_in s (granule_number q.geometry.setup pa) ≡ now.gpi) ⊎ SomeHas (set s.callers c (caller.Cpu x)) (unpassed_by q.number) (granule_number q.geometry.setup pa, now.gpi)
  hit_known now x =
      let k : ℕ = granule_number q.geometry.setup pa in
      elim now.known [
        | inl map ↦ inl map
        | inr some ↦ elim (some_moves s.callers c (caller.Cpu (cpu_at q (stage.Trying w))) (caller.Cpu x) (unraised_by (walk_size w)) (k, now.gpi) acting.at some) [
          | inl still ↦ inr (record { number = still.number; caller = still.caller; at = still.at; has = unraised_unpassed (walk_size w) q.number still.caller k now.gpi still.has })
          | inr own ↦ absurd own
        ]
      ]

  -- the walk decides
  hit_keeps : (now : GivesNow q.geometry (map_in s) s.callers w pa) → w.tag ≡ walk_generation q.geometry s.words w
      → IsMade q.geometry (caller.Cpu (cpu_at q (decided_stage (table_access space now.gpi (via.Hit w.reach w.tag)))))
      → own_entries c (cpu_at q (decided_stage (table_access space now.gpi (via.Hit w.reach w.tag)))) ≡ own_entries c (cpu_at q (stage.Trying w)) ++ looked_entry q.geometry c (length q.answers) pa space now.gpi ∷ []
      → HoldsIn q.geometry (scene_after s c (caller.Cpu (cpu_at q (decided_stage (table_access space now.gpi (via.Hit w.reach w.tag))))) s.words (looked_entry q.geometry c (length q.answers) pa space now.gpi ∷ []))
  hit_keeps now same made own =
      let g = q.geometry in
      let z = walk_size w in
      let count = counted_now acting z in
      let least = (loaded_now acting z).0 in
      let loaded = loaded_is in
      let access : Access = table_access space now.gpi (via.Hit w.reach w.tag) in
      let next : Stage = decided_stage access in
      decides acting next now.gpi made (sym (decided_on access)) own (hit_allowed now) (decided_loads g s.words pa access)
      (decided_stamps g s.first c (length q.answers) pa space access _
      (hit_stamped s.first g.setup.first (granule_bytes g.setup) c (length q.answers) (granule_number g.setup pa) space access w.reach w.tag s.history _ refl refl
      (omega (arith, same, least, loaded)) (omega (arith, same, count.0, loaded)) (omega (arith, same, count.1, loaded)) (hit_saw now same)))
      (λ u has. elim (in_parts u q.cache.walks [] (subst (λ (ws : List Walk). In u (q.cache.walks ++ ws)) (decided_walks access) has)) [ inl old ↦ inl (in_front u q.cache.walks (w ∷ []) old) | inr none ↦ absurd none ])
      refl (decided_list g pa space access) (decided_touching g pa space now.gpi (via.Hit w.reach w.tag)) (hit_known now (cpu_at q next))

  -- the walk is old
  missed_keeps : (n : ℕ) → n ≡ slice_index s.words (gen_place_of q.geometry (walk_size w) pa) → w.tag ≢ n
      → IsMade q.geometry (caller.Cpu (cpu_at q (stage.Loading size.Two no_generations (Some (old_walk w n)))))
      → own_entries c (cpu_at q (stage.Loading size.Two no_generations (Some (old_walk w n)))) ≡ own_entries c (cpu_at q (stage.Trying w))
      → HoldsIn q.geometry (scene_after s c (caller.Cpu (cpu_at q (stage.Loading size.Two no_generations (Some (old_walk w n))))) s.words [])
  missed_keeps n is apart made own =
      let low = tried.low in
      let loaded = loaded_is in
      load_quiet acting q.cache (stage.Loading size.Two no_generations (Some (old_walk w n))) made refl own
      ((lt_of w.tag n (omega (arith, low, is, loaded)) apart, subst (IsLoaded q.geometry s.words pa (walk_size w)) (sym is) (loaded_now acting (walk_size w))), λ y before. absurd (none_before y before))
      tt
      (λ u has. elim (in_parts u q.cache.walks [] has) [ inl old ↦ in_front u q.cache.walks (w ∷ []) old | inr none ↦ absurd none ]) refl refl

pub try_keeps : {s : Scene} {c : ℕ} {q : CpuData} {pa : ℕ} {space : Space} (w : Walk) → Accessing s c q pa space (stage.Trying w) → AccessKeeps s c q pa space (stage.Trying w) (gen_load_of q.geometry (tag_size_of w.reach) pa)
try_keeps {s = s} {c = c} {q = q} {pa = pa} {space = space} w acting =
    let g = q.geometry in
    let n : ℕ = slice_index s.words (gen_place_of g (walk_size w) pa) in
    let made = acting.made n tt in
    let own = acting.own n in (
      tt,
      rw (set-get_or s.words (gen_place_of g (walk_size w) pa) 0)
          (elim (cases_Bool (eqb n w.tag)) [
            | inl hits ↦
                (let same : w.tag ≡ walk_generation g s.words w = sym (eqb-true n w.tag hits) ∙ loaded_is acting in
                let now = (tried acting).says same pa (covered_here acting) in
                rw (hits, now.gives) (hit_keeps acting now same (rw (hits, now.gives) at made) (rw (hits, now.gives) at own)))
            | inr misses ↦
                rw misses (missed_keeps acting n refl (λ same. absurd (let both = eq-eqb n w.tag (sym same) in let clash : true ≡ false = sym both ∙ misses in cc)) (rw misses at made) ((rw misses at own) ∙ append-nil _))
          ]),
    )

-- ---- the load of the L1 word

-- a kept walk that was old before the load was old there
old_was : {s : Scene} {c : ℕ} {q : CpuData} {pa : ℕ} {space : Space} {st : Stage} (acting : Accessing s c q pa space st) (o : Option OldWalk) → IsOld q.geometry s.words pa o
    → MatchOption o (Unit {0}) (λ old. WasOld q.geometry.setup.first (granule_bytes q.geometry.setup) (granule_number q.geometry.setup pa) old.reach old.tag old.at s.history)
old_was acting None old = tt
old_was acting (Some walk) old = record { newer = old.0; most = omega (arith, old.1.1, (counted_now acting (tag_size_of walk.reach)).0) }

-- a walk that is made of a canonical word holds
new_walk : {s : Scene} {c : ℕ} {q : CpuData} {pa : ℕ} {space : Space} {st : Stage} (acting : Accessing s c q pa space st) (k : Generations) (word : ℕ) (apart : Option ℕ) (w : Walk) (callers : List Caller) → walk_of pa k word ≡ Some w
    → word ≡ canonical_word q.geometry.setup (map_in s) apart (granule_number q.geometry.setup pa / 16) → IsLoaded q.geometry s.words pa (walk_size w) w.tag → WalkHolds q.geometry s.words (map_in s) callers w
new_walk {s = s} {q = q} {pa = pa} acting k word apart w callers made is loaded =
    let g = q.geometry in
    let around = walk_is g pa k word w acting.inside made in
    let parts = walk_parts pa k word (word_reach word) w refl made in
    let home : (a : ℕ) → covers w a ≡ true → a / size_bytes (walk_size w) ≡ w.first / size_bytes (walk_size w) = λ a covered. home_at w.reach w.first a around.0.aligned covered in
    let same : slice_index s.words (gen_place_of g (walk_size w) pa) ≡ walk_generation g s.words w = ap (generation_word g s.words (walk_size w)) (home pa around.1) in
    record {
      inside = around.0.inside;
      home = home;
      low = omega (arith, loaded.1, same);
      says = λ now a covered. record {
        gpi = map_in s (granule_number g.setup a);
        gives = subst (λ (n : ℕ). word_gpi n (place_in_word g.setup a) ≡ Some (map_in s (granule_number g.setup a))) (sym parts.2)
            (walk_gives g.setup (map_in s) apart pa a word w.reach parts.0 is (subst (λ (n : ℕ). covers_from w.reach n a ≡ true) parts.1 covered));
        known = inl refl;
      };
    }

-- it decides the access: by the map's GPI of its granule
pub walk_keeps : {s : Scene} {c : ℕ} {q : CpuData} {pa : ℕ} {space : Space} (k : Generations) (m : Option OldWalk) (place : ℕ) → Accessing s c q pa space (stage.Walking k m) → l1_place_of q.geometry pa ≡ Some place
    → AccessKeeps s c q pa space (stage.Walking k m) (act.Load place)
walk_keeps {s = s} {c = c} {q = q} {pa = pa} {space = space} k m place acting there =
    let g = q.geometry in
    let granule : ℕ = granule_number g.setup pa in
    let word : ℕ = slice_index s.words place in
    let at = index_at g pa place there in
    let index : l1_index g.setup (l0_words g) (granule / 16) ≡ Some at.0 = ap (l1_index g.setup (l0_words g)) (sym (word_by_granule g.setup pa)) ∙ at.1 in
    let apart : Option ℕ = apart_by g.setup (map holder_by s.callers) (granule / 16) in
    let is : word ≡ canonical_word g.setup (map_in s) apart (granule / 16) = ap (slice_index s.words) at.2 ∙ acting.stands.tables.level1 (granule / 16) at.0 index in
    let means = canonical_gives g.setup (map_in s) apart granule word is in
    let readable : is_some (l1_entry word) ≡ true = word_readable word (place_in_word g.setup pa) (map_in s granule) means in
    let found = descriptor_walk pa k word readable in
    let w : Walk = found.0 in
    let gpi : Gpi = map_in s granule in
    let gives : walk_gpi g pa w ≡ Some gpi = ap (λ (n : ℕ). word_gpi n (place_in_word g.setup pa)) (walk_parts pa k word (word_reach word) w refl found.1).2 ∙ means in
    let next : Stage = stage.Closing w m in
    let y : Size = tag_size_of w.reach in
    let loaded : IsLoaded g s.words pa y w.tag = subst (IsLoaded g s.words pa y) (sym ((walk_parts pa k word (word_reach word) w refl found.1).3)) ((loads_are acting).1 y) in
    let missed = old_was acting m (loads_are acting).0 in
    let decided : DecidedBy g s.first c (length q.answers) pa space w m (s.history ++ looked_entry g c (length q.answers) pa space gpi ∷ []) = record {
      gpi = gpi;
      gives = gives;
      decided = decided_now s.first g.setup.first (granule_bytes g.setup) c (length q.answers) _ space gpi _ m w.reach w.tag s.history _ refl (map_here acting) loaded.0 (omega (arith, loaded.1, (counted_now acting y).0)) missed;
    } in (
      readable,
      rw (set-get_or s.words place 0, found.1, gives)
          (decides acting next gpi (rw found.1 at (acting.made word readable)) refl (rw (found.1, gives) at (acting.own word)) (inl (map_here acting)) loaded decided
          (λ u has. elim (in_parts u q.cache.walks (w ∷ []) has) [
            | inl old ↦ inl (in_front u q.cache.walks [] old)
            | inr new ↦ inr (let same : w ≡ u = elim new [ inl it ↦ it | inr none ↦ absurd none ] in
                subst (WalkHolds g s.words (map_in s) (set s.callers c (caller.Cpu (cpu_at q next)))) same (new_walk acting k word apart w _ found.1 is loaded))
          ])
          refl (ap (decision_of g pa space) gives) (ap (touch_by g pa space) gives) (inl refl)),
    )

-- ---- any act

-- a load of a generation, after which the processor is still on
generation_keeps : {s : Scene} {c : ℕ} {q : CpuData} {pa : ℕ} {space : Space} {st : Stage} (acting : Accessing s c q pa space st) (place : ℕ) (next : Stage) → IsReadable st (slice_index s.words place)
    → took_at (cpu_at q st) (Some (task.Look pa space)) (slice_index s.words place) ≡ cpu_at q next → made_at q.geometry c (length q.answers) st (Some (task.Look pa space)) (slice_index s.words place) ≡ [] → duty_at st ≡ duty_at next
    → loads_at q.geometry s.words pa next → stamps_at q.geometry s.first c (length q.answers) pa space next s.history → ((w : Walk) → In w (q.cache.walks ++ walk_at next) → In w (q.cache.walks ++ walk_at st)) → decided_at q.geometry pa space next ≡ decided_at q.geometry pa space st → touching_at q.geometry pa space next ≡ touching_at q.geometry pa space st → AccessKeeps s c q pa space st (act.Load place)
generation_keeps {s = s} {c = c} {q = q} {pa = pa} {space = space} {st = st} acting place next readable took none on loads stamps walks decided touching =
    let made = subst (λ (x : CpuData). IsMade q.geometry (caller.Cpu x)) took (acting.made (slice_index s.words place) readable) in
    let own = ap (own_entries c) (sym took) ∙ acting.own (slice_index s.words place) ∙ ap (λ (es : List Entry). own_entries c (cpu_at q st) ++ es) none ∙ append-nil _ in
    (readable, rw (set-get_or s.words place 0, took, none) (load_quiet acting q.cache next made on own loads stamps walks decided touching))

-- one generation more is loaded
two_loaded : (g : GeometryData) (words : List ℕ) (pa old : ℕ) (k : Generations) (y : Size) → IsLoaded g words pa size.Two old → comes_before y size.ThirtyTwo ≡ true → IsLoaded g words pa y (generation_in y (with_generation size.Two old k))
two_loaded g words pa old k size.Two new before = new
two_loaded g words pa old k size.ThirtyTwo new before = absurd cc
two_loaded g words pa old k size.FiveTwelve new before = absurd cc

thirty_two_loaded : (g : GeometryData) (words : List ℕ) (pa old : ℕ) (k : Generations) (y : Size) → ((z : Size) → comes_before z size.ThirtyTwo ≡ true → IsLoaded g words pa z (generation_in z k)) → IsLoaded g words pa size.ThirtyTwo old
    → comes_before y size.FiveTwelve ≡ true → IsLoaded g words pa y (generation_in y (with_generation size.ThirtyTwo old k))
thirty_two_loaded g words pa old k size.Two loads new before = loads size.Two refl
thirty_two_loaded g words pa old k size.ThirtyTwo loads new before = new
thirty_two_loaded g words pa old k size.FiveTwelve loads new before = absurd cc

all_loaded : (g : GeometryData) (words : List ℕ) (pa old : ℕ) (k : Generations) (y : Size) → ((z : Size) → comes_before z size.FiveTwelve ≡ true → IsLoaded g words pa z (generation_in z k)) → IsLoaded g words pa size.FiveTwelve old
    → IsLoaded g words pa y (generation_in y (with_generation size.FiveTwelve old k))
all_loaded g words pa old k size.Two loads new = loads size.Two refl
all_loaded g words pa old k size.ThirtyTwo loads new = loads size.ThirtyTwo refl
all_loaded g words pa old k size.FiveTwelve loads new = new

load_keeps : {s : Scene} {c : ℕ} {q : CpuData} {pa : ℕ} {space : Space} (z : Size) (k : Generations) (m : Option OldWalk) → Accessing s c q pa space (stage.Loading z k m) → AccessKeeps s c q pa space (stage.Loading z k m) (gen_load_of q.geometry z pa)
load_keeps {s = s} {q = q} {pa = pa} size.Two k m acting =
    generation_keeps acting _ _ tt refl refl refl ((loads_are acting).0, λ y before. two_loaded q.geometry s.words pa _ k y (loaded_now acting size.Two) before) tt (λ w has. has) refl refl
load_keeps {s = s} {q = q} {pa = pa} size.ThirtyTwo k m acting =
    generation_keeps acting _ _ tt refl refl refl ((loads_are acting).0, λ y before. thirty_two_loaded q.geometry s.words pa _ k y (loads_are acting).1 (loaded_now acting size.ThirtyTwo) before) tt (λ w has. has) refl refl
load_keeps {s = s} {q = q} {pa = pa} size.FiveTwelve k m acting =
    generation_keeps acting _ _ tt refl refl refl ((loads_are acting).0, λ y. all_loaded q.geometry s.words pa _ k y (loads_are acting).1 (loaded_now acting size.FiveTwelve)) tt (λ w has. has) refl refl

-- with the generation loaded again the stamps are whole, and the walk is kept
close_keeps : {s : Scene} {c : ℕ} {q : CpuData} {pa : ℕ} {space : Space} (w : Walk) (m : Option OldWalk) → Accessing s c q pa space (stage.Closing w m) → AccessKeeps s c q pa space (stage.Closing w m) (gen_load_of q.geometry (tag_size_of w.reach) pa)
close_keeps {s = s} {c = c} {q = q} {pa = pa} {space = space} w m acting =
    let g = q.geometry in
    let n : ℕ = slice_index s.words (gen_place_of g (tag_size_of w.reach) pa) in
    let loads = loads_are acting in
    let now = counted_now acting (tag_size_of w.reach) in
    let known = decided_is acting in
    let access : Access = table_access space known.gpi (walked m w.reach w.tag n) in
    let next : Stage = decided_stage access in
    let r : RingData = ring_after (stage.Closing w m) q.cache in (
      tt,
      rw (set-get_or s.words (gen_place_of g (tag_size_of w.reach) pa) 0, known.gives)
          (load_quiet acting r next (rw known.gives at (acting.made n tt)) (sym (decided_on access)) ((rw known.gives at (acting.own n)) ∙ append-nil _) (decided_loads g s.words pa access)
          (decided_stamps g s.first c (length q.answers) pa space access s.history
          (walk_stamped s.first g.setup.first (granule_bytes g.setup) c (length q.answers) _ space access m w.reach w.tag n s.history refl loads.1 now.0 now.1 known.decided))
          (λ u has. elim (in_parts u r.walks [] (subst (λ (ws : List Walk). In u (r.walks ++ ws)) (decided_walks access) has)) [ inl old ↦ in_drop u _ (q.cache.walks ++ w ∷ []) old | inr none ↦ absurd none ])
          (decided_list g pa space access ∙ ap (decision_of g pa space) (sym known.gives)) (decided_touching g pa space known.gpi (walked m w.reach w.tag n) ∙ ap (touch_by g pa space) (sym known.gives))),
    )

only_first : (i : ℕ) (x y : Answer) → slice_get (x ∷ []) i ≡ Some y → i ≡ 0
only_first zero x y there = refl
only_first (suc i) x y there = absurd cc

only_is : (i : ℕ) (x y : Answer) → slice_get (x ∷ []) i ≡ Some y → x ≡ y
only_is zero x y there = cc
only_is (suc i) x y there = absurd cc

-- the access is answered, and those after it that have no acts
answered_stamped : {s : Scene} {c : ℕ} {q : CpuData} {pa : ℕ} {space : Space} (access : Access) (acting : Accessing s c q pa space (stage.Leaving access))
    → cpu_stamps s.first s.history c (after_answer (cpu_at q (stage.Leaving access)) (answer.Seen access))
answered_stamped {s = s} {c = c} {q = q} {pa = pa} {space = space} access acting =
    let g = q.geometry in
    let given : Answer = answer.Seen access in
    let idle = idle_answers g (drop (length q.answers + 1) q.tasks) in (
      λ k t found asked answered.
          elim (get_append (q.answers ++ given ∷ []) idle k found answered) [
            | inr back ↦ idle_unstamped g s.first g.setup.first (granule_bytes g.setup) c k back.0 (drop (length q.answers + 1) q.tasks) t found s.history back.2
            | inl front ↦ elim (get_append q.answers (given ∷ []) k found front.1) [
              | inl old ↦ stamps_are acting k t found asked old.1
              | inr new ↦
                  (let first : new.0 ≡ 0 = only_first new.0 given found new.2 in
                  let number : k ≡ length q.answers = omega (arith, new.1, first) in
                  let same : given ≡ found = only_is new.0 given found new.2 in
                  let task_is : task.Look pa space ≡ t = (let both : Some (task.Look pa space) ≡ Some t = sym acting.under_way ∙ ap (slice_get q.tasks) (sym number) ∙ asked in cc) in
                  subst (λ (n : ℕ). IsStampedCall s.first g.setup.first (granule_bytes g.setup) c n t found s.history) (sym number)
                  (subst (λ (a : Answer). IsStampedCall s.first g.setup.first (granule_bytes g.setup) c (length q.answers) t a s.history) same
                  (subst (λ (u : Task). IsStampedCall s.first g.setup.first (granule_bytes g.setup) c (length q.answers) u given s.history) task_is (λ walked. decided_is acting))))
            ]
          ],
      starting_stamps g s.first c (length ((q.answers ++ given ∷ []) ++ idle)) (task_of (after_answer (cpu_at q (stage.Leaving access)) given)) s.history,
    )

pub starting_decided : (g : GeometryData) (o : Option Task) → decided_under g o stage.Starting ≡ []
starting_decided g None = refl
starting_decided g (Some (task.Look pa space)) = refl
starting_decided g (Some (task.Delegate pa source)) = refl
starting_decided g (Some (task.Undelegate pa source)) = refl
starting_decided g (Some task.Unknown) = refl

starting_touching : (g : GeometryData) (o : Option Task) → touching_under g o stage.Starting ≡ []
starting_touching g None = refl
starting_touching g (Some (task.Look pa space)) = refl
starting_touching g (Some (task.Delegate pa source)) = refl
starting_touching g (Some (task.Undelegate pa source)) = refl
starting_touching g (Some task.Unknown) = refl

leave_keeps : {s : Scene} {c : ℕ} {q : CpuData} {pa : ℕ} {space : Space} (access : Access) → Accessing s c q pa space (stage.Leaving access) → AccessKeeps s c q pa space (stage.Leaving access) (off_act q.geometry q.number)
leave_keeps {s = s} {c = c} {q = q} access acting =
    let after = after_answer (cpu_at q (stage.Leaving access)) (answer.Seen access) in (
      tt,
      store_quiet acting after 0 (acting.made 0 tt) refl refl (acting.own 0 ∙ append-nil _) (starting_loads q.geometry (set s.words (place_of q.geometry (Duty q.number)) 0) (task_of after)) (answered_stamped access acting) (λ w has. has)
          (λ d has. absurd (subst (In d) (starting_decided q.geometry (task_of after)) has)) (starting_touching q.geometry (task_of after)),
    )

-- ---- the touch

-- what is not passed is not cleaned
unpassed_uncleaned : (p : ℕ) (x : Caller) (k : ℕ) (v : Gpi) → In {A = ℕ × Gpi} (k, v) (unpassed_by p x) → In {A = ℕ × Gpi} (k, v) (uncleaned_by x)
unpassed_uncleaned p (caller.Agent a) k v has = unpassed_in_uncleaned a.geometry p a.stage (agents.task_of a) k v has
unpassed_uncleaned p (caller.Cpu q) k v has = absurd has

touch_keeps : {s : Scene} {c : ℕ} {q : CpuData} {pa : ℕ} {space : Space} (access : Access) (next : Act) → Accessing s c q pa space (stage.Touching access) → touch_of q.geometry pa space ≡ Some next
    → AccessKeeps s c q pa space (stage.Touching access) next
touch_keeps {s = s} {c = c} {q = q} {pa = pa} {space = space} access next acting there =
    let g = q.geometry in
    let me = caller.Cpu (cpu_at q (stage.Touching access)) in
    let x = caller.Cpu (cpu_at q (stage.Leaving access)) in
    let k : ℕ = granule_number g.setup pa in
    let after : List ℕ = after_act next s.words in
    let line = touch_line g pa space next there in
    let place : place_in next ≡ place_of g (Line line.0) = ap place_in line.2 in
    let low = index_below g (k / 16) line.0 acting.stands.shape.geometry line.1 in
    let writes : Writes g s.words (Some (Line line.0)) after =
    subst (λ (n : ℕ). Writes g s.words (Some (Line line.0)) (set s.words n (written next (slice_index s.words n)))) (sym place) (writes_one g s.words (Line line.0) _ low) in
    let lines = touch_lines g s.words pa space next acting.stands.shape.geometry acting.stands.shape.size there in
    let keeps : (j : ℕ) (u : Space) → has_line g s.words j u ≡ true → has_line g after j u ≡ true = λ j u resident. lines j u ∙ rw resident (or_true (this_line g pa space j u)) in
    let decision : Decision = record { granule = k; space = space; gpi = access.gpi } in
    let holds : DecisionHolds (map_in s) s.history s.callers q.number decision =
    acting.stands.decisions c q.number me decision acting.at refl (subst (In decision) (sym (decided_now_is acting)) (inl refl)) in
    let made = acting.made (answer_of next s.words) tt in
    let own = acting.own (answer_of next s.words) in (
      tt,
      step_keeps {n = Some (Line line.0)} {o = None} (record {
        stands = acting.stands;
        at = acting.at;
        made = made;
        writes = writes;
        apart = λ m free. tt;
        duty = record { number = refl; own = λ p same. absurd cc; word = λ p same. writes.beside (Duty p) (number_low g me p (made_at_place g s c me acting.stands acting.at) same) (λ both. absurd cc) ∙ acting.stands.duties c p me acting.at same };
        rises = rises_left writes refl;
        loads = loads_of acting q.cache (stage.Leaving access) after tt;
        stamps = own_stamps_grow s.first s.history [] c x (stamps_of acting q.cache (stage.Leaving access) s.history (stamps_are acting) (decided_is acting));
        tracks = tracks_same g s _ _ _ _ _ (λ n. refl) (λ y. refl) (λ y n v has. absurd has);
        walks = λ w has. inl has;
        marks = record {
          changed = λ j. inl (refl, λ sp before. ap (seen_in j sp) (append-nil s.history) ∙ before);
          passes = λ p j v has. absurd has;
          decides = λ p d number has. inl (number, subst (In d) (decided_next acting q.cache (stage.Leaving access) ∙ sym (decided_now_is acting)) has);
          cleans = λ j v has. absurd has;
          comes = λ j u resident. elim (cases_Bool (this_line g pa space j u)) [
            | inr other ↦ inl (subst (λ (b : Bool). (b || has_line g s.words j u) ≡ true) other (sym (lines j u) ∙ resident))
            | inl this ↦
                (let is = is_this g pa space j u this in
                inr (subst (λ (n : ℕ). LineHolds (map_in s) (s.history ++ []) (set s.callers c x) n u) (sym is.0)
                (subst (LineHolds (map_in s) (s.history ++ []) (set s.callers c x) k) (sym is.1)
                (elim holds [
                  | inl by_map ↦ inl (ap (λ (v : Gpi). permits_of v space) by_map.0 ∙ acting.permitted, ap (seen_in k space) (append-nil s.history) ∙ by_map.1 acting.permitted)
                  | inr some ↦ elim (some_moves s.callers c me x (unpassed_by q.number) (k, access.gpi) acting.at some) [
                    | inl still ↦ inr (access.gpi, acting.permitted, record { number = still.number; caller = still.caller; at = still.at; has = unpassed_uncleaned q.number still.caller k access.gpi still.has })
                    | inr none ↦ absurd none
                  ]
                ]))))
          ];
          stays = λ j u resident permits. keeps j u resident;
          looks = λ j u permits seen. inl (permits, ap (seen_in j u) (sym (append-nil s.history)) ∙ seen);
          touches = λ j u has. inr (let is = one_touch g pa space access.gpi j u (subst (In {A = ℕ × Space} (j, u)) (touching_now_is acting) has) in
              lines j u ∙ rw (sym is.0, sym is.1, this_is g pa space) refl);
        };
        entry = tt;
        tables = tables_whole c x acting.stands acting.at writes refl refl refl;
        opened = refl;
        locks = λ m below. ap (λ (bit : ℕ). bit + 0) (locks_left writes refl m below);
        seen = tt;
        raised = λ y region within. rw (generations_left writes refl y region within) (omega arith);
        alone = λ m has. absurd cc;
        counted = λ j u given asked answered. cpu_counted g c j u (cpu_at q (stage.Leaving access)) given (s.history ++ []) made answered;
        own = own;
      }),
    )

-- by its stage: for each kind of act one row
pub access_keeps : {s : Scene} {c : ℕ} {q : CpuData} {pa : ℕ} {space : Space} (st : Stage) (next : Act) → Accessing s c q pa space st → act_at q.geometry q.number pa space st ≡ Some next → AccessKeeps s c q pa space st next
access_keeps {s = s} {c = c} {q = q} {pa = pa} {space = space} stage.Starting next acting e =
    subst (AccessKeeps s c q pa space stage.Starting) (let same : on_act q.geometry q.number ≡ next = cc in same) (start_keeps acting)
access_keeps {s = s} {c = c} {q = q} {pa = pa} {space = space} (stage.Trying w) next acting e =
    subst (AccessKeeps s c q pa space (stage.Trying w)) (let same : gen_load_of q.geometry (tag_size_of w.reach) pa ≡ next = cc in same) (try_keeps w acting)
access_keeps {s = s} {c = c} {q = q} {pa = pa} {space = space} (stage.Loading z k m) next acting e =
    subst (AccessKeeps s c q pa space (stage.Loading z k m)) (let same : gen_load_of q.geometry z pa ≡ next = cc in same) (load_keeps z k m acting)
access_keeps {s = s} {c = c} {q = q} {pa = pa} {space = space} (stage.Walking k m) next acting e =
    let load = some_mapped act.Load (l1_place_of q.geometry pa) next e in
    subst (AccessKeeps s c q pa space (stage.Walking k m)) load.2 (walk_keeps k m load.0 acting load.1)
access_keeps {s = s} {c = c} {q = q} {pa = pa} {space = space} (stage.Closing w m) next acting e =
    subst (AccessKeeps s c q pa space (stage.Closing w m)) (let same : gen_load_of q.geometry (tag_size_of w.reach) pa ≡ next = cc in same) (close_keeps w m acting)
access_keeps {s = s} {c = c} {q = q} {pa = pa} {space = space} (stage.Touching access) next acting e = touch_keeps access next acting e
access_keeps {s = s} {c = c} {q = q} {pa = pa} {space = space} (stage.Leaving access) next acting e =
    subst (AccessKeeps s c q pa space (stage.Leaving access)) (let same : off_act q.geometry q.number ≡ next = cc in same) (leave_keeps access acting)

-- a load, a store of its duty word, which it sets where it is off and clears where it is on, or a touch of a line
pub how_acts : (g : GeometryData) (p pa : ℕ) (space : Space) (st : Stage) (next : Act) → act_at g p pa space st ≡ Some next
    → (next ≡ act.Load (place_in next))
    ⊎ (((next ≡ on_act g p) × (duty_at st ≡ 0)) ⊎ (((next ≡ off_act g p) × (duty_at st ≡ 1)) ⊎ ((i : ℕ) × (l1_index g.setup (l0_words g) (granule_number g.setup pa / 16) ≡ Some i) × (next ≡ act.Or (place_of g (Line i)) (line_mask g pa space)))))
how_acts g p pa space stage.Starting next e = inr (inl (cc, refl))
how_acts g p pa space (stage.Trying w) next e = let same : gen_load_of g (tag_size_of w.reach) pa ≡ next = cc in rw (← same) (inl refl)
how_acts g p pa space (stage.Loading z k m) next e = let same : gen_load_of g z pa ≡ next = cc in rw (← same) (inl refl)
how_acts g p pa space (stage.Walking k m) next e = let load = some_mapped act.Load (l1_place_of g pa) next e in rw (← load.2) (inl refl)
how_acts g p pa space (stage.Closing w m) next e = let same : gen_load_of g (tag_size_of w.reach) pa ≡ next = cc in rw (← same) (inl refl)
how_acts g p pa space (stage.Touching access) next e = inr (inr (inr (touch_line g pa space next e)))
how_acts g p pa space (stage.Leaving access) next e = inr (inr (inl (cc, refl)))

-- ---- a processor with a next act is at a stage of an access, which has it

-- after an act it was made as before
pub cpu_took_made : (g : GeometryData) (q : CpuData) (next : Act) (old : ℕ) → IsMade g (caller.Cpu q) → IsReadable q.stage old → next_of q ≡ Some next → IsMade g (caller.Cpu (took_of q old))
cpu_took_made g q next old made readable e = (
  (took_keeps q old).0 ∙ made.0,
  took_is_cpu q old made.1,
  made.2,
  made.3 ++ record { act = next; old = old; made = made_at q.geometry made.2 (length q.answers) q.stage (task_of q) old } ∷ [],
  step_walks made.2 q made.3 next old made.1 made.4 readable e,
)

pub record ActsNext (g : GeometryData) (s : Scene) (c : ℕ) (q : CpuData) (next : Act) : Type 0 where
  pub geometry : q.geometry ≡ g
  pub pa : ℕ
  pub space : Space
  pub under_way : task_of q ≡ Some (task.Look pa space)
  pub acting : Accessing s c q pa space q.stage
  pub acts : act_at q.geometry q.number pa space q.stage ≡ Some next

access_of : (g : GeometryData) (s : Scene) (c : ℕ) (q : CpuData) (next : Act) (o : Option Task) → HoldsIn g s → slice_get s.callers c ≡ Some (caller.Cpu q) → next_of q ≡ Some next → task_of q ≡ o → next_at q o ≡ Some next → ActsNext g s c q next
access_of g s c q next (Some (task.Look pa space)) stands at e under_way acts =
    let made = made_at_place g s c (caller.Cpu q) stands at in
    record {
      geometry = made.0;
      pa = pa;
      space = space;
      under_way = under_way;
      acting = record {
        stands = subst (λ (k : GeometryData). HoldsIn k s) (sym made.0) stands;
        at = at;
        is = made.1;
        staged = subst (λ (o : Option Task). IsAt q.geometry o q.stage) under_way made.1.stage;
        permitted = prefix_permits q.geometry q.number made.2 (length q.answers) pa space made.4.kept q.cache.walks q.stage (task_of q) made.4.last under_way made.4.under_way;
        under_way = under_way;
        inside = access_at q (task.Look pa space) made.1 under_way;
        made = λ old readable. subst (λ (o : Option Task). IsMade q.geometry (caller.Cpu (took_at q o old))) under_way (cpu_took_made q.geometry q next old (refl, made.1, made.2, made.3, made.4) readable e);
        own = λ old. subst (λ (o : Option Task). own_entries c (took_at q o old) ≡ own_entries c q ++ made_at q.geometry c (length q.answers) q.stage o old) under_way (step_entries c made.2 q made.3 next old made.4 e);
      };
      acts = acts;
    }
access_of g s c q next o stands at e under_way acts = absurd cc

pub cpu_accessing : (g : GeometryData) (s : Scene) (c : ℕ) (q : CpuData) (next : Act) → HoldsIn g s → slice_get s.callers c ≡ Some (caller.Cpu q) → next_of q ≡ Some next → ActsNext g s c q next
cpu_accessing g s c q next stands at e = access_of g s c q next (task_of q) stands at e refl e
