-- An agent at a stage of a task: what it holds and sees, what the L1 words are by where it is, and what it has to show of
-- an act between its lock and its unlock.
use Rattle.std.proofs.Common.{◌≡◌, ◌≢◌, ℕ, zero, suc, ◌+◌, ◌*◌, ◌/◌, ◌%◌, ◌<◌, ◌⊎◌, ◌++◌, ◌∷◌, [], List, map, true, false, ◌&&◌, Option, Some, None, length, set, refl, sym, ap, ◌∙◌, subst, arith, inl, inr, append_assoc, append-nil}
use Rattle.std.specs.Prelude.{slice_get, slice_index, IfSome}
use Rattle.std.specs.Option.{option_map}
use Rattle.std.proofs.lemmas.Bool.{eqb-true}
use Rattle.std.proofs.lemmas.Option.{slice_get-map, slice_get-get_or}
use Rattle.std.proofs.lemmas.List.{map-set, length-set}
use Rattle.gpi_values.specs.declared.gpi.Space.{Space}
use Rattle.core_machine.specs.InnerAgentCaller.{unpassed_at, uncleaned_at}
use Rattle.core_machine.specs.Lines.{seen_in}
use Rattle.core_machine.proofs.MarkLemmas.{AgentMarks, agent_marks, agent_marks_same}
use Rattle.core_machine.proofs.WordLemmas.{lines_left}
use Rattle.core_machine.proofs.Names.{Gpi, Size, Generations, SetupData, granule_bytes, size_bytes, space_bytes, words_of, canonical_word, word_gpi, l1_index, GeometryData, WordName, Generation, gen_place_of, blocks_in_region, l0_words, l1_index_of, l1_place_of, lock_number, Holder, Step, Whole, apart_by, AreWords, step_of, Task, Answer, Entry, caller_in, call_in, granule_in, State, start, after_entry, state_after, answered_entries, region_of, count_of, Stage, address_of, idle_answer, generation_in, granule_of_task, AgentData, IsAgent, task_of, goes_to, took_at, entries_at, Caller, IsCounted, generation_word, is_on_block, is_inside, open_at, SeesGeneration, SeesAt, is_due_at, is_around, coming_at, known_at, holds, open_by, is_due, IsMade, holder_by, HoldsIn, pairs_of, Scene, Change, state_in, map_in, scene_after}
use Rattle.core_machine.proofs.Names.gpi
use Rattle.core_machine.proofs.Names.size
use Rattle.core_machine.proofs.Names.entry
use Rattle.core_machine.proofs.Names.stage
use Rattle.core_machine.proofs.Names.caller
use Rattle.gpt_descriptors.proofs.PlaceLemmas.{place_below, generation_named}
use Rattle.gpt_descriptors.proofs.MeaningLemmas.{canonical_meaning}
use Rattle.table_meaning.specs.Meaning.{BlocksMean}
use Rattle.table_meaning.specs.Equation.{apart_in, IsAlone}
use Rattle.table_meaning.proofs.StepLemmas.{holder_steps, holder_reads}
use Rattle.history.specs.States.{is_open}
use Rattle.history.specs.Legality.{StateAllows}
use Rattle.delegate_ops.proofs.DecidingLemmas.{acts_inside}
use Rattle.delegate_ops.proofs.AgentLemmas.{at_stage}
use Rattle.delegate_ops.proofs.NextLemmas.{acts_index}
use Rattle.core_machine.proofs.AddressLemmas.{granule_within, index_at, lock_of, region_at, region_lock, task_lock, task_low, word_by_granule}
use Rattle.core_machine.proofs.ListLemmas.{one, get_append, get_front, get_last}
use Rattle.core_machine.proofs.CallerLemmas.{Owner, agent_has, due_alone, holder_there, others_closed, others_whole}
use Rattle.core_machine.proofs.OpenedLemmas.{closed_here}
use Rattle.core_machine.proofs.StampLemmas.{Rises}
use Rattle.core_machine.specs.InnerAgentCaller.{done_after, unraised_at}
use Rattle.delegate_ops.specs.declared.stage.Change.TheVariants as change
use Rattle.core_machine.specs.InnerWalks.{In}
use Rattle.core_machine.proofs.WalkLemmas.{Tracks, tracks_same}
use Rattle.core_machine.proofs.StepLemmas.{unraised_left, list_of, added_to, map_next, map_elsewhere, opened_with, IsEntryOf, no_duty, rises_left, step_keeps, counted_grown}
use Rattle.core_machine.proofs.WordLemmas.{Writes, IsApart, is_generation, is_duty, is_level1, is_line, is_lock, generations_left, locks_left, plain_apart, words_left, writes_none}

-- ---- the caller that acts

-- caller c is an agent at a stage of a task with acts, and all facts hold
pub record Acting (s : Scene) (c : ℕ) (a : AgentData) (t : Task) (st : Stage) : Type 0 where
  pub stands : HoldsIn a.geometry s
  pub at : slice_get s.callers c ≡ Some (caller.Agent (at_stage a st))
  pub is : IsAgent (at_stage a st)
  pub under_way : task_of a ≡ Some t
  pub acts : idle_answer a.geometry t ≡ None
  pub made : (old : ℕ) → IsMade a.geometry (caller.Agent (took_at (at_stage a st) t st old))

-- its lock
abbrev pub lock_of_task : AgentData → Task → ℕ
lock_of_task a t = lock_number a.geometry.setup (address_of t)

-- where each caller is in what it does to the L1 words
abbrev pub holders_of : List Caller → List Holder
holders_of callers = map holder_by callers

-- ---- maps and words

pub length_after : (s : State) (e : Entry) → length (after_entry s e).map ≡ length s.map
length_after s (entry.Changed c k granule from to) = length-set s.map granule to
length_after s (entry.Refused c k granule found) = refl
length_after s (entry.Settled c k granule) = refl
length_after s (entry.Looked c k granule space gpi allowed) = refl

pub state_length : (s : State) (h : List Entry) → length (state_after s h).map ≡ length s.map
state_length s [] = refl
state_length s (e ∷ h) = state_length (after_entry s e) h ∙ length_after s e

-- a canonical word gives a granule of it the map's GPI
pub canonical_gives : (s : SetupData) (m : ℕ → Gpi) (apart : Option ℕ) (granule word : ℕ) → word ≡ canonical_word s m apart (granule / 16) → word_gpi word (granule % 16) ≡ Some (m granule)
canonical_gives s m apart granule word is =
    let whole : 16 * (granule / 16) + granule % 16 ≡ granule = omega arith in
    ap (λ (w : ℕ). word_gpi w (granule % 16)) is ∙ canonical_meaning s m apart (granule / 16) (granule % 16) (omega arith) ∙ ap (λ (n : ℕ). Some (m n)) whole

-- the map has each granule of the space
pub map_gives : (g : GeometryData) (s : Scene) (pa : ℕ) → HoldsIn g s → pa < space_bytes g.setup → slice_get (state_in s).map (pa / granule_bytes g.setup) ≡ Some (map_in s (pa / granule_bytes g.setup))
map_gives g s pa stands inside =
    slice_get-get_or (state_in s).map (pa / granule_bytes g.setup) gpi.Any
    (subst (λ (n : ℕ). pa / granule_bytes g.setup < n) (sym (state_length (start s.first) s.history ∙ stands.shape.granules)) (granule_within g.setup pa inside))

module _ {s : Scene} {c : ℕ} {a : AgentData} {t : Task} {st : Stage} (acting : Acting s c a t st) where
  pub inside_of : address_of t < space_bytes a.geometry.setup
  inside_of = acts_inside a.geometry t acting.acts

  pub low_of : lock_of_task a t < 128
  low_of = task_low a.geometry t acting.acts acting.stands.shape.geometry.setup

  -- its generation words are among the words
  pub generation_below : (z : Size) → gen_place_of a.geometry z (address_of t) < length s.words
  generation_below z =
      subst (λ (n : ℕ). gen_place_of a.geometry z (address_of t) < n) (sym acting.stands.shape.size)
      (place_below a.geometry (Generation z (address_of t / size_bytes z)) (generation_named a.geometry z (address_of t) inside_of))

  pub owner_of : is_inside st ≡ true → Owner a.geometry s c (caller.Agent (at_stage a st)) (lock_of_task a t)
  owner_of inside = record { stands = acting.stands; at = acting.at; has = agent_has (at_stage a st) t acting.under_way inside }

  -- the others hold nothing of its granule open
  pub closed_of : is_inside st ≡ true → (d : ℕ) (y : Caller) → d ≢ c → slice_get s.callers d ≡ Some y → pairs_of (granule_of_task a.geometry t) (open_by y) ≡ []
  closed_of inside = others_closed (owner_of inside) (granule_of_task a.geometry t) (task_lock a.geometry t acting.acts)

  -- and where it holds nothing open, its granule is closed
  pub granule_closed : is_inside st ≡ true → open_at a.geometry st (Some t) ≡ [] → is_open (state_in s) (granule_of_task a.geometry t) ≡ false
  granule_closed inside none = closed_here (state_in s) s.callers c (granule_of_task a.geometry t) (caller.Agent (at_stage a st)) acting.at acting.stands.opened (closed_of inside) (rw acting.under_way none)

  -- what it sees of a generation is the count, less its own change where it hasn't raised it
  pub counts_of : is_inside st ≡ true → (k : Generations) (y : Size) → SeesGeneration a.geometry s.words t k y
      → generation_in y k + one (is_due y (region_of (granule_bytes a.geometry.setup) y (granule_of_task a.geometry t)) (caller.Agent (at_stage a st)))
      ≡ count_of a.geometry.setup.first (granule_bytes a.geometry.setup) y (region_of (granule_bytes a.geometry.setup) y (granule_of_task a.geometry t)) s.history
  counts_of inside k y sees =
      let g = a.geometry in
      let region = region_of (granule_bytes g.setup) y (granule_of_task g t) in
      let at : region ≡ address_of t / size_bytes y = region_at g t acting.acts y in
      let within : region < blocks_in_region y * g.setup.gigabytes = subst (λ (n : ℕ). n < blocks_in_region y * g.setup.gigabytes) (sym at) (generation_named g y (address_of t) inside_of) in
      let word : generation_word g s.words y region ≡ generation_in y k = ap (λ (n : ℕ). generation_word g s.words y n) at ∙ sees in
      omega (arith, acting.stands.generations y region within, word, due_alone (owner_of inside) y region (region_lock g t acting.acts y region refl))

  -- what it sees
  pub seen_of : SeesAt a.geometry (map_in s) s.words t st
  seen_of = acting.stands.seen c (caller.Agent (at_stage a st)) acting.at t acting.under_way

  -- where it goes on owing what it does, and writes no generation
  pub raised_same : {n : Option WordName} {after : List ℕ} (next : Stage) → Writes a.geometry s.words n after → is_generation n ≡ false → ((y : Size) → is_due_at next y ≡ is_due_at st y)
      → (y : Size) (region : ℕ) → region < blocks_in_region y * a.geometry.setup.gigabytes
      → generation_word a.geometry after y region + one (is_due_at next y && is_around a.geometry y region (Some t)) ≡ generation_word a.geometry s.words y region + one (is_due_at st y && is_around a.geometry y region (Some t)) + 0
  raised_same next writes unlike due y region within = rw (generations_left writes unlike y region within, due y) (omega arith)

  -- ---- the L1 words

  -- where it is
  pub holder_at : slice_get (holders_of s.callers) c ≡ Some (record { granule = granule_of_task a.geometry t; step = step_of (known_at st) })
  holder_at = slice_get-map holder_by s.callers c ∙ ap (option_map holder_by) acting.at ∙ rw acting.under_way refl

  -- each other caller leaves the words whole, or is in another 512 MB
  pub alone_there : is_inside st ≡ true → IsAlone a.geometry.setup (holders_of s.callers) c (granule_of_task a.geometry t)
  alone_there inside d h apart there =
      let at = holder_there s.callers d h there in
      subst (λ (x : Holder). (x.step ≡ Whole) ⊎ (x.granule / 16 / words_of a.geometry.setup size.FiveTwelve ≢ granule_of_task a.geometry t / 16 / words_of a.geometry.setup size.FiveTwelve)) at.2
      (others_whole (owner_of inside) (granule_of_task a.geometry t) (task_lock a.geometry t acting.acts) d at.0 apart at.1)

  -- the words after an act, by the list of holders after it
  pub tables_after : (next : Stage) (m : ℕ → Gpi) (after : List ℕ) → AreWords a.geometry m (apart_by a.geometry.setup (set (holders_of s.callers) c (record { granule = granule_of_task a.geometry t; step = step_of (known_at next) }))) after
      → AreWords a.geometry m (apart_by a.geometry.setup (holders_of (set s.callers c (caller.Agent (goes_to (at_stage a st) next))))) after
  tables_after next m after are =
      subst (λ (hs : List Holder). AreWords a.geometry m (apart_by a.geometry.setup hs) after) (sym (map-set holder_by s.callers c (caller.Agent (goes_to (at_stage a st) next)) ∙ rw acting.under_way refl)) are

  -- it goes on in the same step, and writes no L1 word
  pub tables_stay : {n : Option WordName} {after : List ℕ} → is_inside st ≡ true → (next : Stage) → step_of (known_at next) ≡ step_of (known_at st) → Writes a.geometry s.words n after → is_level1 n ≡ false
      → AreWords a.geometry (map_in s) (apart_by a.geometry.setup (holders_of (set s.callers c (caller.Agent (goes_to (at_stage a st) next))))) after
  tables_stay {after = after} inside next same writes unlike =
      let g = a.geometry in
      let before = step_of (known_at st) in
      tables_after next (map_in s) after
      (subst (λ (x : Step). AreWords g (map_in s) (apart_by g.setup (set (holders_of s.callers) c (record { granule = granule_of_task g t; step = x }))) after) (sym same)
      (words_left writes (map_in s) _ unlike acting.stands.shape.geometry
      (holder_steps g (map_in s) (holders_of s.callers) c (granule_of_task g t) before before s.words holder_at (alone_there inside) (λ w. refl) acting.stands.tables.level1)))

  -- its number in the protected space
  pub own_index : (i : ℕ) → l1_index_of a.geometry (address_of t) ≡ Some i → l1_index a.geometry.setup (l0_words a.geometry) (granule_of_task a.geometry t / 16) ≡ Some i
  own_index i at = ap (l1_index a.geometry.setup (l0_words a.geometry)) (sym (word_by_granule a.geometry.setup (address_of t))) ∙ at

  -- the word at its place is the canonical one, apart from the granule or not
  pub reads_own : is_inside st ≡ true → (place : ℕ) → l1_place_of a.geometry (address_of t) ≡ Some place
      → slice_index s.words place ≡ canonical_word a.geometry.setup (map_in s) (apart_in a.geometry.setup (granule_of_task a.geometry t) (granule_of_task a.geometry t / 16) (step_of (known_at st))) (granule_of_task a.geometry t / 16)
  reads_own inside place there =
      let at = index_at a.geometry (address_of t) place there in
      ap (slice_index s.words) at.2
      ∙ holder_reads a.geometry (map_in s) (holders_of s.callers) c (granule_of_task a.geometry t) (step_of (known_at st)) s.words (granule_of_task a.geometry t / 16) at.0 holder_at (alone_there inside) (own_index at.0 at.1) refl
      acting.stands.tables.level1

  -- the map has its granule
  pub map_has : slice_get (state_in s).map (granule_of_task a.geometry t) ≡ Some (map_in s (granule_of_task a.geometry t))
  map_has = map_gives a.geometry s (address_of t) acting.stands inside_of

-- ---- an act between its lock and its unlock

-- an entry of its call, on its granule
pub record IsOwn (s : Scene) (c : ℕ) (a : AgentData) (t : Task) (e : Entry) : Type 0 where
  pub caller : caller_in e ≡ c
  pub call : call_in e ≡ length a.answers
  pub granule : granule_in e ≡ granule_of_task a.geometry t
  pub allowed : StateAllows (state_in s) e

-- what it does to decisions and lines, by its stages
abbrev pub MarksGo : Scene → AgentData → Task → Stage → Stage → List ℕ → Option Entry → Type 0
MarksGo s a t st next after o =
    AgentMarks a.geometry s (λ p. unpassed_at a.geometry p st (Some t)) (λ p. unpassed_at a.geometry p next (Some t)) (uncleaned_at a.geometry st (Some t)) (uncleaned_at a.geometry next (Some t)) after (map_next s o) (s.history ++ list_of o)

-- It goes on to another stage inside. It wrote this word of its block, if it wrote one, and made this entry, if it
-- made one.
pub record Goes (s : Scene) (c : ℕ) (a : AgentData) (t : Task) (st next : Stage) (n : Option WordName) (after : List ℕ) (o : Option Entry) : Type 0 where
  pub inside : is_inside st ≡ true
  pub stays : is_inside next ≡ true
  pub made : IsMade a.geometry (caller.Agent (goes_to (at_stage a st) next))
  pub writes : Writes a.geometry s.words n after
  pub block : (m : ℕ) → lock_of_task a t ≢ m → IsApart a.geometry m n
  pub no_lock : is_lock n ≡ false
  pub no_duty_word : is_duty n ≡ false
  pub rises : Rises a.geometry s.words after
  pub tracks : Tracks a.geometry s (λ y. unraised_at a.geometry y st (Some t)) (λ y. unraised_at a.geometry y next (Some t)) after (map_next s o) (s.history ++ list_of o)
  pub marks : MarksGo s a t st next after o
  pub entry : IfSome o (IsOwn s c a t)
  pub words : AreWords a.geometry (map_next s o) (apart_by a.geometry.setup (holders_of (set s.callers c (caller.Agent (goes_to (at_stage a st) next))))) after
  pub opened : open_at a.geometry next (Some t) ≡ opened_with o (open_at a.geometry st (Some t))
  pub seen : SeesAt a.geometry (map_next s o) after t next
  pub raised : (y : Size) (region : ℕ) → region < blocks_in_region y * a.geometry.setup.gigabytes
      → generation_word a.geometry after y region + one (is_due_at next y && is_around a.geometry y region (Some t))
      ≡ generation_word a.geometry s.words y region + one (is_due_at st y && is_around a.geometry y region (Some t)) + added_to a.geometry y region o
  pub coming : (given : Answer) → coming_at next ≡ given ∷ [] → IsCounted a.geometry c (length a.answers) t given (s.history ++ list_of o)
  pub front : entries_at a.geometry c (length a.answers) next (Some t) ≡ entries_at a.geometry c (length a.answers) st (Some t) ++ list_of o

-- the block of an entry is that of its granule
pub on_number : (s : SetupData) (n : ℕ) (e : Entry) → is_on_block s n e ≡ true → lock_number s (granule_in e * granule_bytes s) ≡ n
on_number s n (entry.Refused c k granule found) on = eqb-true _ _ on
on_number s n (entry.Changed c k granule from to) on = eqb-true _ _ on
on_number s n (entry.Settled c k granule) on = eqb-true _ _ on
on_number s n (entry.Looked c k granule space gpi allowed) on = absurd cc

entry_of : {s : Scene} {c : ℕ} {a : AgentData} {t : Task} {st : Stage} (next : Stage) (o : Option Entry) → Acting s c a t st → is_inside st ≡ true → IfSome o (IsOwn s c a t)
    → IfSome o (IsEntryOf a.geometry s c (caller.Agent (at_stage a st)) (caller.Agent (goes_to (at_stage a st) next)))
entry_of next None acting inside own = tt
entry_of {s = s} {c = c} {a = a} {t = t} {st = st} next (Some e) acting inside own =
    let g = a.geometry in
    let number : (m : ℕ) → is_on_block g.setup m e ≡ true → lock_of_task a t ≡ m =
    λ m on. sym (task_lock g t acting.acts) ∙ ap (lock_of g.setup) (sym own.granule) ∙ on_number g.setup m e on in
    record {
      caller = own.caller;
      call = own.call;
      goes_on = refl;
      block = λ m on. subst (λ (k : ℕ). holds k (caller.Agent (at_stage a st)) ≡ true) (number m on) (owner_of acting inside).has;
      allowed = own.allowed;
    }

-- its granule has an L1 word, so that what L0 blocks mean stays
blocks_next : {s : Scene} {c : ℕ} {a : AgentData} {t : Task} {st : Stage} (acting : Acting s c a t st) (o : Option Entry) → IfSome o (IsOwn s c a t) → BlocksMean a.geometry.setup (l0_words a.geometry) (map_next s o)
blocks_next acting None own = acting.stands.tables.blocks
blocks_next {s = s} {a = a} {t = t} acting (Some e) own = λ k inside none.
    acting.stands.tables.blocks k inside none
    ∙ ap Some (map_elsewhere (state_in s) e k (λ same. absurd (let index = acts_index a.geometry t acting.acts in
    let both : None ≡ Some index.0 = sym none ∙ ap (λ (x : ℕ). l1_index a.geometry.setup (l0_words a.geometry) (x / 16)) (same ∙ own.granule) ∙ own_index acting index.0 index.1 in cc)))

one_item : (xs : List Answer) (i : ℕ) (given : Answer) → length xs < 2 → slice_get xs i ≡ Some given → (i ≡ 0) × (xs ≡ given ∷ [])
one_item [] i given few there = absurd cc
one_item (x ∷ []) zero given few there = (refl, let same : x ≡ given = cc in ap (λ (y : Answer). y ∷ []) same)
one_item (x ∷ []) (suc i) given few there = absurd cc
one_item (x ∷ y ∷ xs) i given few there = absurd (omega (arith, few))

after_few : (c : Change) (k : Generations) → length (done_after c k) < 2
after_few change.First k = omega arith
after_few change.Last k = omega arith

coming_few : (st : Stage) → length (coming_at st) < 2
coming_few (stage.Passing c d k) = after_few c k.generations
coming_few (stage.Cleaning c l k) = after_few c k.generations
coming_few (stage.Merging f k) = omega arith
coming_few (stage.Releasing given) = omega arith
coming_few st = omega arith

-- the answer of a call that goes on to this stage: an earlier one, or the one that is to come
known_parts : (answers : List Answer) (st : Stage) (k : ℕ) (given : Answer) → slice_get (answers ++ coming_at st) k ≡ Some given
    → ((k < length answers) × (slice_get answers k ≡ Some given)) ⊎ ((k ≡ length answers) × (coming_at st ≡ given ∷ []))
known_parts answers st k given there =
    elim (get_append answers (coming_at st) k given there) [
      | inl front ↦ inl front
      | inr back ↦ (let one = one_item (coming_at st) back.0 given (coming_few st) back.2 in inr (let same : k ≡ length answers = omega (arith, back.1, one.0) in same, one.1))
    ]

-- an answer that is to come is counted
counted_coming : {s : Scene} {c : ℕ} {a : AgentData} {t : Task} {st : Stage} (acting : Acting s c a t st) (given : Answer) → coming_at st ≡ given ∷ [] → IsCounted a.geometry c (length a.answers) t given s.history
counted_coming {c = c} {a = a} {t = t} {st = st} acting given coming =
    acting.stands.counted c (length a.answers) (caller.Agent (at_stage a st)) t given acting.at acting.under_way (get_last a.answers (coming_at st) given coming)

pub goes_keeps : {s : Scene} {c : ℕ} {a : AgentData} {t : Task} {st : Stage} (acting : Acting s c a t st) (next : Stage) (n : Option WordName) (after : List ℕ) (o : Option Entry) → Goes s c a t st next n after o
    → HoldsIn a.geometry (scene_after s c (caller.Agent (goes_to (at_stage a st) next)) after (list_of o))
goes_keeps {s = s} {c = c} {a = a} {t = t} {st = st} acting next n after o goes =
    let g = a.geometry in
    let me = caller.Agent (at_stage a st) in
    let x = caller.Agent (goes_to (at_stage a st) next) in
    let entry = entry_of next o acting goes.inside goes.entry in
    step_keeps {n = n} (record {
      stands = acting.stands;
      at = acting.at;
      made = goes.made;
      writes = goes.writes;
      apart = λ m free. goes.block m (λ same. absurd (let both : true ≡ false = sym (owner_of acting goes.inside).has ∙ ap (λ (k : ℕ). holds k me) same ∙ free in cc));
      duty = no_duty refl refl goes.no_duty_word;
      rises = goes.rises;
      loads = tt;
      stamps = tt;
      tracks = rw acting.under_way goes.tracks;
      walks = λ w has. absurd has;
      marks = agent_marks g s c me x after (map_next s o) (s.history ++ list_of o) refl refl (rw acting.under_way goes.marks);
      entry = entry;
      tables = record { level1 = goes.words; blocks = blocks_next acting o goes.entry };
      opened = rw acting.under_way goes.opened;
      locks = λ m low. rw (locks_left goes.writes goes.no_lock m low, goes.inside, goes.stays) refl;
      seen = λ u under_way. let same : t ≡ u = (let both : Some t ≡ Some u = sym acting.under_way ∙ under_way in cc) in subst (λ (v : Task). SeesAt g (map_next s o) after v next) same goes.seen;
      raised = λ y region within. rw acting.under_way (goes.raised y region within);
      alone = λ m has. acting.stands.alone c m me acting.at (rw goes.inside (rw goes.stays at has));
      counted = λ k u given asked answered.
          elim (known_parts a.answers next k given answered) [
            | inl old ↦
                counted_grown g s c c k me x u given o entry (inr (λ same. omega (arith, same, old.0)))
                (acting.stands.counted c k me u given acting.at asked (get_front a.answers (coming_at st) k given old.1))
            | inr new ↦
                (let task : t ≡ u = let both : Some t ≡ Some u = sym acting.under_way ∙ ap (slice_get a.tasks) (sym new.0) ∙ asked in cc in
                subst (λ (m : ℕ). IsCounted g c m u given (s.history ++ list_of o)) (sym new.0)
                (subst (λ (v : Task). IsCounted g c (length a.answers) v given (s.history ++ list_of o)) task (goes.coming given new.1)))
          ];
      own = rw acting.under_way
          (ap (λ (es : List Entry). answered_entries (granule_bytes g.setup) c 0 a.tasks a.answers ++ es) goes.front
          ∙ sym (append_assoc (answered_entries (granule_bytes g.setup) c 0 a.tasks a.answers) (entries_at g c (length a.answers) st (Some t)) (list_of o)));
    })

-- ---- an act that makes no entry

-- the next stage holds open, owes and has made what this one does
pub record IsAlike (g : GeometryData) (c k : ℕ) (t : Task) (st next : Stage) : Type 0 where
  pub inside : is_inside st ≡ true
  pub stays : is_inside next ≡ true
  pub opened : open_at g next (Some t) ≡ open_at g st (Some t)
  pub due : (y : Size) → is_due_at next y ≡ is_due_at st y
  pub front : entries_at g c k next (Some t) ≡ entries_at g c k st (Some t)

-- where no generation is written, and the map and the changes that aren't raised stay
pub tracks_quietly : {s : Scene} {c : ℕ} {a : AgentData} {t : Task} {st : Stage} (acting : Acting s c a t st) (next : Stage) (n : Option WordName) (after : List ℕ) (o : Option Entry) → Writes a.geometry s.words n after → is_generation n ≡ false
    → ((k : ℕ) → map_next s o k ≡ map_in s k) → open_at a.geometry next (Some t) ≡ open_at a.geometry st (Some t) → ((y : Size) → is_due_at next y ≡ is_due_at st y)
    → Tracks a.geometry s (λ y. unraised_at a.geometry y st (Some t)) (λ y. unraised_at a.geometry y next (Some t)) after (map_next s o) (s.history ++ list_of o)
tracks_quietly {s = s} {c = c} {a = a} {t = t} {st = st} acting next n after o writes plain map opened due =
    tracks_same a.geometry s _ _ _ _ _ map (λ y. rw (opened, due y) refl)
    (λ y k v has. unraised_left c acting.stands acting.at writes plain y k v (subst (λ (u : Option Task). In (k, v) (unraised_at a.geometry y st u)) (sym acting.under_way) has))

-- where no line is written, and the map, what was seen and the lists stay
pub marks_quietly : {s : Scene} {c : ℕ} {a : AgentData} {t : Task} {st : Stage} (acting : Acting s c a t st) (next : Stage) (n : Option WordName) (after : List ℕ) (o : Option Entry) → Writes a.geometry s.words n after → is_line n ≡ false
    → ((k : ℕ) → map_next s o k ≡ map_in s k) → ((k : ℕ) (sp : Space) → seen_in k sp (s.history ++ list_of o) ≡ seen_in k sp s.history) → ((p : ℕ) → unpassed_at a.geometry p next (Some t) ≡ unpassed_at a.geometry p st (Some t))
    → uncleaned_at a.geometry next (Some t) ≡ uncleaned_at a.geometry st (Some t) → MarksGo s a t st next after o
marks_quietly {s = s} {a = a} acting next n after o writes plain map seen unpassed uncleaned =
    agent_marks_same a.geometry s _ _ _ _ _ _ _ map seen unpassed uncleaned (λ k sp. lines_left writes plain acting.stands.shape.geometry k sp)

-- without an entry
pub marks_stay : {s : Scene} {c : ℕ} {a : AgentData} {t : Task} {st : Stage} (acting : Acting s c a t st) (next : Stage) (n : Option WordName) (after : List ℕ) → Writes a.geometry s.words n after → is_line n ≡ false
    → ((p : ℕ) → unpassed_at a.geometry p next (Some t) ≡ unpassed_at a.geometry p st (Some t)) → uncleaned_at a.geometry next (Some t) ≡ uncleaned_at a.geometry st (Some t) → MarksGo s a t st next after None
marks_stay {s = s} acting next n after writes plain unpassed uncleaned = marks_quietly acting next n after None writes plain (λ k. refl) (λ k sp. ap (seen_in k sp) (append-nil s.history)) unpassed uncleaned

-- it writes no lock and no generation, and leaves the map
pub goes_quietly : {s : Scene} {c : ℕ} {a : AgentData} {t : Task} {st : Stage} (acting : Acting s c a t st) (next : Stage) (n : Option WordName) (after : List ℕ) → IsAlike a.geometry c (length a.answers) t st next
    → IsMade a.geometry (caller.Agent (goes_to (at_stage a st) next)) → Writes a.geometry s.words n after → is_lock n ≡ false → is_duty n ≡ false → is_generation n ≡ false
    → MarksGo s a t st next after None
    → AreWords a.geometry (map_in s) (apart_by a.geometry.setup (holders_of (set s.callers c (caller.Agent (goes_to (at_stage a st) next))))) after → SeesAt a.geometry (map_in s) after t next
    → ((given : Answer) → coming_at next ≡ given ∷ [] → coming_at st ≡ given ∷ []) → HoldsIn a.geometry (scene_after s c (caller.Agent (goes_to (at_stage a st) next)) after [])
goes_quietly {s = s} {c = c} {a = a} {t = t} {st = st} acting next n after alike made writes no_lock unlike no_generation marks words sees coming =
    goes_keeps acting next n after None
    (record {
      inside = alike.inside;
      stays = alike.stays;
      made = made;
      writes = writes;
      block = λ m other. plain_apart a.geometry m n no_generation;
      no_lock = no_lock;
      no_duty_word = unlike;
      rises = rises_left writes no_generation;
      tracks = tracks_quietly acting next n after None writes no_generation (λ k. refl) alike.opened alike.due;
      marks = marks;
      entry = tt;
      words = words;
      opened = alike.opened;
      seen = sees;
      raised = raised_same acting next writes no_generation alike.due;
      coming = λ given is. subst (IsCounted a.geometry c (length a.answers) t given) (sym (append-nil s.history)) (counted_coming acting given (coming given is));
      front = alike.front ∙ sym (append-nil _);
    })

-- it writes nothing, and no answer is to come
pub load_quietly : {s : Scene} {c : ℕ} {a : AgentData} {t : Task} {st : Stage} (acting : Acting s c a t st) (next : Stage) → IsAlike a.geometry c (length a.answers) t st next
    → ((p : ℕ) → unpassed_at a.geometry p next (Some t) ≡ unpassed_at a.geometry p st (Some t)) → uncleaned_at a.geometry next (Some t) ≡ uncleaned_at a.geometry st (Some t)
    → IsMade a.geometry (caller.Agent (goes_to (at_stage a st) next)) → AreWords a.geometry (map_in s) (apart_by a.geometry.setup (holders_of (set s.callers c (caller.Agent (goes_to (at_stage a st) next))))) s.words
    → SeesAt a.geometry (map_in s) s.words t next → coming_at next ≡ [] → HoldsIn a.geometry (scene_after s c (caller.Agent (goes_to (at_stage a st) next)) s.words [])
load_quietly {s = s} {a = a} acting next alike unpassed uncleaned made words sees none =
    goes_quietly acting next None s.words alike made (writes_none a.geometry s.words) refl refl refl (marks_stay acting next None s.words (writes_none a.geometry s.words) refl unpassed uncleaned) words sees (λ given is. absurd (let both : [] ≡ given ∷ [] = sym none ∙ is in cc))
