-- The barrier after a change, and the cleaning of the lines of its granule before and after it.
use Rattle.std.proofs.Common.{◌≡◌, ℕ, ◌/◌, ◌<◌, ◌∷◌, [], List, true, eqb, Some, None, length, map, set, refl, sym, ap, ◌∙◌, subst, arith, inl, inr, append-nil, false}
use Rattle.std.specs.Prelude.{slice_index}
use Rattle.std.specs.Int.Bits.{bit_and}
use Rattle.std.proofs.lemmas.Bool.{cases_Bool}
use Rattle.std.proofs.lemmas.List.{map-set}
use Rattle.std.proofs.lemmas.Bool.{eqb-true}
use Rattle.core_machine.proofs.Names.{Gpi, Size, Generations, size_bytes, GeometryData, Duty, Line, place_of, l1_words, l1_index_of, Act, Holder, apart_by, AreWords, step_of, Task, Answer, Change, Kept, Stage, address_of, granule_of_task, AgentData, IsStage, goes_to, took_at, entries_at, HoldsIn, Scene, scene_after, map_in, IsCounted, IsMade, is_inside, SeesGeneration, SeesAt, coming_at, known_at, holder_by}
use Rattle.core_machine.proofs.Names.act
use Rattle.core_machine.proofs.Names.task
use Rattle.core_machine.proofs.Names.stage
use Rattle.core_machine.proofs.Names.caller
use Rattle.gpt_descriptors.specs.Places.{line_place_of}
use Rattle.gpt_descriptors.proofs.PlaceLemmas.{generation_named, index_within}
use Rattle.table_meaning.proofs.StepLemmas.{holder_steps}
use Rattle.invalidate.specs.Barrier.{BarrierData, next_load, one_passed}
use Rattle.invalidate.specs.Duty.{barrier_load}
use Rattle.delegate_ops.specs.declared.stage.Change.TheVariants as change
use Rattle.delegate_ops.specs.declared.stage.Line as lines
use Rattle.delegate_ops.specs.Changing.{space_of_line, target_space}
use Rattle.alias_clean.specs.Lines.{clean_of, line_mask}
use Rattle.gpi_values.specs.declared.gpi.Space.{Space}
use Rattle.std.specs.Int.{bit_not, w64}
use Rattle.delegate_ops.specs.InnerAgents.{IsChangeOf, IsCleaned, IsPrepared, act_at, waits_at, passing_stage, cleaned_stage}
use Rattle.delegate_ops.proofs.AgentLemmas.{at_stage}
use Rattle.delegate_ops.proofs.ScriptLemmas.{some_mapped}
use Rattle.core_machine.proofs.AddressLemmas.{line_at}
use Rattle.core_machine.proofs.EntryLemmas.{cleaned_change}
use Rattle.core_machine.proofs.WordLemmas.{Writes, writes_none, writes_one, generations_left}
use Rattle.core_machine.proofs.WalkLemmas.{tracks_same}
use Rattle.core_machine.proofs.StepLemmas.{no_duty, rises_left, step_keeps}
use Rattle.gpi_values.specs.Values.{permits_of}
use Rattle.core_machine.specs.Lines.{seen_in}
use Rattle.core_machine.proofs.ActLemmas.{MarksGo}
use Rattle.core_machine.proofs.MarkLemmas.{marks_same}
use Rattle.core_machine.proofs.PassLemmas.{barrier_marks, clean_marks, cleaned_denied, cleaned_unpassed, loaded_passes, prepared_denied, uncleaned_alone}
use Rattle.core_machine.proofs.ActLemmas.{Acting, IsAlike, inside_of, seen_of, goes_quietly, holders_of, holder_at, alone_there, tables_stay}
use Rattle.core_machine.proofs.LockActs.{ActKeeps}
use Rattle.core_machine.proofs.LoadActs.{load_keeps}
use Rattle.core_machine.proofs.SettleLemmas.{settles_barrier, settles_cleaned}

-- ---- waiting

-- an agent that waits stays as it is, and writes nothing
waits_keeps : {s : Scene} {c : ℕ} {a : AgentData} {t : Task} {st : Stage} → Acting s c a t st → is_inside st ≡ true → IsMade a.geometry (caller.Agent (waits_at (at_stage a st))) → HoldsIn a.geometry (scene_after s c (caller.Agent (waits_at (at_stage a st))) s.words [])
waits_keeps {s = s} {c = c} {a = a} {t = t} {st = st} acting inside made =
    let g = a.geometry in
    let me = caller.Agent (at_stage a st) in
    let x = caller.Agent (waits_at (at_stage a st)) in
    let own : Holder = record { granule = granule_of_task g t; step = step_of (known_at st) } in
    let writes = writes_none g s.words in
    let same : map holder_by (set s.callers c x) ≡ set (holders_of s.callers) c own = map-set holder_by s.callers c x ∙ rw acting.under_way refl in
    step_keeps {n = None} {o = None} (record {
      stands = acting.stands;
      at = acting.at;
      made = made;
      writes = writes;
      apart = λ m free. tt;
      duty = no_duty refl refl refl;
      rises = rises_left writes refl;
      loads = tt;
      stamps = tt;
      tracks = tracks_same g s _ _ _ _ _ (λ k. refl) (λ y. refl) (λ y k v has. refl);
      walks = λ w has. absurd has;
      marks = marks_same g s c me x _ _ _ (λ k. refl) (λ k sp. ap (seen_in k sp) (append-nil s.history)) (λ p. refl) refl refl (λ d has. absurd has) refl (λ k sp. refl);
      entry = tt;
      tables = record {
        level1 = subst (λ (hs : List Holder). AreWords g (map_in s) (apart_by g.setup hs) s.words) (sym same)
            (holder_steps g (map_in s) (holders_of s.callers) c (granule_of_task g t) (step_of (known_at st)) (step_of (known_at st)) s.words (holder_at acting) (alone_there acting inside) (λ w. refl) acting.stands.tables.level1);
        blocks = acting.stands.tables.blocks;
      };
      opened = refl;
      locks = λ m low. refl;
      seen = acting.stands.seen c me acting.at;
      raised = λ y region within. omega arith;
      alone = λ m has. acting.stands.alone c m me acting.at has;
      counted = λ k u given asked answered. subst (IsCounted g c k u given) (sym (append-nil s.history)) (acting.stands.counted c k me u given acting.at asked answered);
      own = sym (append-nil _);
    })

-- ---- the barrier

passing_by : {s : Scene} {c : ℕ} {a : AgentData} {t : Task} (ch : Change) (d : BarrierData) (k : Kept) (word : ℕ) (acting : Acting s c a t (stage.Passing ch d k)) → IsChangeOf t ch → d.cpus ≡ a.geometry.cpus → slice_index s.words (place_of a.geometry (Duty d.passed)) ≡ word
    → HoldsIn a.geometry (scene_after s c (caller.Agent (took_at (at_stage a (stage.Passing ch d k)) t (stage.Passing ch d k) word)) s.words [])
passing_by {s = s} {c = c} {a = a} {t = t} ch d k word acting changes cpus loaded =
    let g = a.geometry in
    let st = stage.Passing ch d k in
    let made = acting.made word in
    let writes = writes_none g s.words in
    let sees = seen_of acting in
    elim (cases_Bool (eqb word 0)) [
      | inr busy ↦ rw busy (waits_keeps acting refl (rw busy at made))
      | inl passed ↦
          rw passed
          (let next = passing_stage g t ch (one_passed d) k in
          let settles = settles_barrier (one_passed d) (record { acting = acting; inside = refl; apart = refl; change = changes; writes = writes; plain = refl; known = sees.known; gives = sees.gives; generations = sees.generations }) in
          goes_quietly acting next None s.words (record { inside = refl; stays = settles.stays; opened = settles.closes; due = settles.none_due; front = settles.front }) (rw passed at made) writes refl refl refl
          (barrier_marks (loaded_passes g s t ch d k acting.stands changes cpus (loaded ∙ eqb-true word 0 passed)) s.words (map_in s) _ (λ n. refl) (λ n sp. ap (seen_in n sp) (append-nil s.history)) (λ n sp. refl) k) settles.words settles.sees settles.coming)
    ]

pub pass_keeps : {s : Scene} {c : ℕ} {a : AgentData} {t : Task} (ch : Change) (d : BarrierData) (k : Kept) (next : Act) (acting : Acting s c a t (stage.Passing ch d k)) → next_load a.geometry d ≡ Some next → ActKeeps s c a t (stage.Passing ch d k) next
pass_keeps {s = s} {c = c} {a = a} {t = t} ch d k next acting there =
    let g = a.geometry in
    let fits : IsStage g (stage.Passing ch d k) (Some t) = subst (IsStage g (stage.Passing ch d k)) acting.under_way acting.is.stage in
    let load : barrier_load g d.passed ≡ next = let both : Some (barrier_load g d.passed) ≡ Some next = rw fits.1.low at there in cc in
    subst (ActKeeps s c a t (stage.Passing ch d k)) load
    (load_keeps s c a t (stage.Passing ch d k) (place_of g (Duty d.passed)) tt (passing_by ch d k (slice_index s.words (place_of g (Duty d.passed))) acting fits.0 fits.1.cpus refl))

-- ---- cleaning

module _ {s : Scene} {c : ℕ} {a : AgentData} {t : Task} {st : Stage} (acting : Acting s c a t st) (i v : ℕ) (index : l1_index_of a.geometry (address_of t) ≡ Some i) where
  line_within : i < l1_words a.geometry
  line_within = index_within a.geometry (address_of t) i acting.stands.shape.geometry index

  -- the words after a clean of its line word
  abbrev cleaned_words : List ℕ
  cleaned_words = set s.words (place_of a.geometry (Line i)) (bit_and (slice_index s.words (place_of a.geometry (Line i))) v)

  writes_line : Writes a.geometry s.words (Some (Line i)) cleaned_words
  writes_line = writes_one a.geometry s.words (Line i) (bit_and (slice_index s.words (place_of a.geometry (Line i))) v) line_within

  clean_sees : (k : Generations) → ((y : Size) → SeesGeneration a.geometry s.words t k y) → (y : Size) → SeesGeneration a.geometry cleaned_words t k y
  clean_sees k sees y = generations_left writes_line refl y (address_of t / size_bytes y) (generation_named a.geometry y (address_of t) (inside_of acting)) ∙ sees y

  -- it goes on so
  clean_goes : (next : Stage) → IsAlike a.geometry c (length a.answers) t st next → MarksGo s a t st next cleaned_words None → IsMade a.geometry (caller.Agent (goes_to (at_stage a st) next))
      → AreWords a.geometry (map_in s) (apart_by a.geometry.setup (holders_of (set s.callers c (caller.Agent (goes_to (at_stage a st) next))))) cleaned_words
      → SeesAt a.geometry (map_in s) cleaned_words t next → ((given : Answer) → coming_at next ≡ given ∷ [] → coming_at st ≡ given ∷ [])
      → HoldsIn a.geometry (scene_after s c (caller.Agent (goes_to (at_stage a st) next)) cleaned_words [])
  clean_goes next alike marks made words sees coming = goes_quietly acting next (Some (Line i)) cleaned_words alike made writes_line refl refl refl marks words sees coming

-- before the change
prepared_front : (g : GeometryData) (c n : ℕ) (t : Task) (k : Kept) → IsPrepared t → entries_at g c n (stage.Changing change.Last k) (Some t) ≡ []
prepared_front g c n (task.Delegate pa source) k is = refl
prepared_front g c n (task.Undelegate pa source) k is = absurd is
prepared_front g c n task.Unknown k is = absurd is
prepared_front g c n (task.Look pa space) k is = absurd is

prepare_holds : {s : Scene} {c : ℕ} {a : AgentData} {t : Task} (k : Kept) (acting : Acting s c a t (stage.Preparing k)) (i v : ℕ) (index : l1_index_of a.geometry (address_of t) ≡ Some i) → IsPrepared t
    → MarksGo s a t (stage.Preparing k) (stage.Changing change.Last k) (cleaned_words acting i v index) None
    → HoldsIn a.geometry (scene_after s c (caller.Agent (goes_to (at_stage a (stage.Preparing k)) (stage.Changing change.Last k))) (cleaned_words acting i v index) [])
prepare_holds {s = s} {c = c} {a = a} {t = t} k acting i v index prepared marks =
    let next = stage.Changing change.Last k in
    let sees = seen_of acting in
    clean_goes acting i v index next (record { inside = refl; stays = refl; opened = refl; due = λ y. refl; front = prepared_front a.geometry c (length a.answers) t k prepared }) marks (acting.made 0)
    (tables_stay acting refl next refl (writes_line acting i v index) refl)
    (record { known = sees.known; gives = sees.gives; generations = clean_sees acting i v index k.generations sees.generations }) (λ given is. absurd cc)

-- after it
clean_holds : {s : Scene} {c : ℕ} {a : AgentData} {t : Task} (ch : Change) (l : lines.Line) (k : Kept) (acting : Acting s c a t (stage.Cleaning ch l k)) (i v : ℕ) (index : l1_index_of a.geometry (address_of t) ≡ Some i) → IsCleaned t ch l
    → MarksGo s a t (stage.Cleaning ch l k) (cleaned_stage a.geometry t ch l k) (cleaned_words acting i v index) None
    → HoldsIn a.geometry (scene_after s c (caller.Agent (goes_to (at_stage a (stage.Cleaning ch l k)) (cleaned_stage a.geometry t ch l k))) (cleaned_words acting i v index) [])
clean_holds {s = s} {c = c} {a = a} {t = t} ch l k acting i v index cleaned marks =
    let sees = seen_of acting in
    let settles = settles_cleaned ch l (record {
      acting = acting;
      inside = refl;
      apart = refl;
      change = cleaned_change t ch l cleaned;
      writes = writes_line acting i v index;
      plain = refl;
      known = sees.known;
      gives = sees.gives;
      generations = clean_sees acting i v index k.generations sees.generations;
    }) in
    clean_goes acting i v index (cleaned_stage a.geometry t ch l k) (record { inside = refl; stays = settles.stays; opened = settles.closes; due = settles.none_due; front = settles.front }) marks (acting.made 0) settles.words settles.sees settles.coming

-- the act of a clean, by the index of its line word
record IsClean (g : GeometryData) (t : Task) (next : Act) : Type 0 where
  index : ℕ
  value : ℕ
  there : l1_index_of g (address_of t) ≡ Some index
  is : act.And (place_of g (Line index)) value ≡ next

clean_is : (g : GeometryData) (t : Task) (space : Space) (next : Act) → clean_of g (address_of t) space ≡ Some next → IsClean g t next
clean_is g t space next e =
    let value : ℕ = bit_not w64 (line_mask g (address_of t) space) in
    let clean = some_mapped (λ (place : ℕ). act.And place value) (line_place_of g (address_of t)) next e in
    let at = line_at g (address_of t) clean.0 clean.1 in
    record { index = at.0; value = value; there = at.1; is = ap (λ (place : ℕ). act.And place value) (sym at.2) ∙ clean.2 }

pub prepare_keeps : {s : Scene} {c : ℕ} {a : AgentData} {t : Task} (k : Kept) (next : Act) (acting : Acting s c a t (stage.Preparing k)) → act_at a.geometry (stage.Preparing k) t ≡ Some next → ActKeeps s c a t (stage.Preparing k) next
prepare_keeps {s = s} {c = c} {a = a} {t = t} k next acting e =
    let fits : IsStage a.geometry (stage.Preparing k) (Some t) = subst (IsStage a.geometry (stage.Preparing k)) acting.under_way acting.is.stage in
    let clean = clean_is a.geometry t (target_space t) next e in
    subst (ActKeeps s c a t (stage.Preparing k)) clean.is (
      tt,
      prepare_holds k acting clean.index clean.value clean.there fits.0
          (clean_marks a.geometry s t (stage.Preparing k) (stage.Changing change.Last k) (target_space t) (act.And (place_of a.geometry (Line clean.index)) clean.value) acting.stands (e ∙ ap Some (sym clean.is))
          (prepared_denied t (map_in s (granule_of_task a.geometry t)) fits.0 (seen_of acting).gives) (λ p. refl) (λ n u has. absurd has)),
    )

pub clean_keeps : {s : Scene} {c : ℕ} {a : AgentData} {t : Task} (ch : Change) (l : lines.Line) (k : Kept) (next : Act) (acting : Acting s c a t (stage.Cleaning ch l k)) → act_at a.geometry (stage.Cleaning ch l k) t ≡ Some next → ActKeeps s c a t (stage.Cleaning ch l k) next
clean_keeps {s = s} {c = c} {a = a} {t = t} ch l k next acting e =
    let fits : IsStage a.geometry (stage.Cleaning ch l k) (Some t) = subst (IsStage a.geometry (stage.Cleaning ch l k)) acting.under_way acting.is.stage in
    let clean = clean_is a.geometry t (space_of_line t ch l) next e in
    subst (ActKeeps s c a t (stage.Cleaning ch l k)) clean.is (
      tt,
      clean_holds ch l k acting clean.index clean.value clean.there fits.0
          (clean_marks a.geometry s t (stage.Cleaning ch l k) (cleaned_stage a.geometry t ch l k) (space_of_line t ch l) (act.And (place_of a.geometry (Line clean.index)) clean.value) acting.stands (e ∙ ap Some (sym clean.is))
          (subst (λ (v : Gpi). permits_of v (space_of_line t ch l) ≡ false) (seen_of acting).gives (cleaned_denied t ch l fits.0)) (λ p. cleaned_unpassed a.geometry p t ch l k) (λ n u has. uncleaned_alone a.geometry t ch l k n u fits.0 has)),
    )
