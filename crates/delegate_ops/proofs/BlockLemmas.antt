-- Transitions walk their script from the loads to the unlock: splitting, changes, raises and merging.
use Rattle.std.proofs.Common.{◌≡◌, ◌≢◌, ℕ, suc, ltb, ◌+◌, ◌≤◌, ◌++◌, ◌∷◌, [], List, Option, Some, None, length, drop, map, append_assoc, append-nil, refl, sym, ap, ◌∙◌, subst, inl, inr, arith}
use Rattle.std.specs.Prelude.{slice_get}
use Rattle.std.proofs.Math.Seq.{drop-cons}
use Rattle.std.proofs.lemmas.Bool.{cases_Bool, ltb-true, ltb-false}
use Rattle.std.proofs.lemmas.Option.{slice_get_within, get_or_from_slice_get}
use Rattle.std.proofs.lemmas.List.{map-append, drop_all}
use Rattle.std.proofs.lemmas.List.Elements.{All-nil, All-cons, All-append}
use Rattle.gpi_values.specs.declared.gpi.Space.{Space}
use Rattle.gpi_values.specs.declared.gpi.Space.TheVariants as space
use Rattle.std.proofs.lemmas.List.FromFn.{length-map-range_with_len}
use Rattle.gpt_descriptors.specs.declared.size.Size.{Size}
use Rattle.gpt_descriptors.specs.declared.size.Size.TheVariants as size
use Rattle.gpt_descriptors.specs.declared.size.Generations.{Generations}
use Rattle.gpt_descriptors.specs.declared.entry.L1Entry.{L1Entry}
use Rattle.gpt_descriptors.specs.declared.entry.L1Entry.TheVariants as l1
use Rattle.gpt_descriptors.specs.Entries.{l1_entry}
use Rattle.gpt_descriptors.specs.Fields.{granules_of}
use Rattle.gpt_descriptors.specs.Places.{GeometryData, l1_place_of}
use Rattle.gpt_descriptors.proofs.CanonicalLemmas.{words_some}
use Rattle.shared_words.specs.declared.act.Act.{Act}
use Rattle.shared_words.specs.Events.{Event}
use Rattle.shatter.specs.Splitting.{SplittingData, store_of, splitting_stores, next_store, advanced}
use Rattle.shatter.proofs.WordLemmas.{next_in_order}
use Rattle.fuse.specs.Merging.{FuseData, around_of, fuse_of}
use Rattle.fuse.specs.Merging as fuse
use Rattle.fuse.specs.Script.{Walks}
use Rattle.fuse.proofs.ScriptLemmas.{steps_are_merging}
use Rattle.invalidate.specs.Duty.{barrier_load}
use Rattle.invalidate.specs.Barrier.{BarrierData, one_passed}
use Rattle.alias_clean.specs.Lines.{clean_of}
use Rattle.history.specs.declared.call.Task.{Task}
use Rattle.history.specs.declared.call.Task.TheVariants as task
use Rattle.history.specs.declared.call.Answer.{Answer}
use Rattle.history.specs.declared.call.Answer.TheVariants as answer
use Rattle.history.specs.Events.{CallEvent, Step, plain, plain_step, plain_event}
use Rattle.delegate_ops.specs.declared.stage.Change.{Change}
use Rattle.delegate_ops.specs.declared.stage.Change.TheVariants as change
use Rattle.delegate_ops.specs.declared.stage.Line.{Line}
use Rattle.delegate_ops.specs.declared.stage.Line.TheVariants as line
use Rattle.delegate_ops.specs.declared.stage.Kept.{Kept}
use Rattle.delegate_ops.specs.InnerStages as stage
use Rattle.delegate_ops.specs.Deciding.{address_of, idle_answer, worn_answer}
use Rattle.delegate_ops.specs.Changing.{first_change, own_space, target_space, space_of_line, splitting_of, split_stores, word_split}
use Rattle.delegate_ops.specs.InnerAgents.{IsChangeOf, IsCleaned, number_of, first_stage, loaded_stage, read_all, split_stage, merging_stage, merged_stage, last_stage, passed_stage, passing_stage, cleaned_stage}
use Rattle.delegate_ops.specs.Script.{Reads, Part, Makes, Passes, IsBusy, ArePassed, AreParts, plain_part, cleaned, cleans, Changes, Merges, Decides, transition_parts, all_parts, kept_split, last_word, last_generations}
use Rattle.delegate_ops.specs.InnerScript.{IsChanging, IsPassing, IsMergingAt, IsPrefix, change_on, parts_after, generations_after, word_after_change}
use Rattle.delegate_ops.specs.InnerEntries.{known_entries}
use Rattle.delegate_ops.proofs.NextLemmas.{acts_index}

-- ---- parts

-- parts one after another
parts_then : (g : GeometryData) (first second : List Part) (xs ys : List CallEvent) → AreParts g first xs → AreParts g second ys → AreParts g (first ++ second) (xs ++ ys)
parts_then g [] second xs ys are then = subst (λ (es : List CallEvent). AreParts g second (es ++ ys)) (sym are) then
parts_then g (Makes step ∷ first) second xs ys are then =
    (are.0, are.1 ++ ys, ap (λ (es : List CallEvent). es ++ ys) are.2, parts_then g first second are.1 ys are.3 then)
parts_then g (Passes ∷ first) second xs ys are then =
    (are.0, are.1 ++ ys, ap (λ (es : List CallEvent). es ++ ys) are.2 ∙ append_assoc are.0 are.1 ys, are.3, parts_then g first second are.1 ys are.4 then)

-- the first parts to come are made
some_made : (g : GeometryData) (c n : ℕ) (t : Task) (place : ℕ) (parts to_come : List Part) (last : Generations) (word : ℕ) (events more : List CallEvent)
    → IsChanging g c n t place (parts ++ to_come) last word events → AreParts g parts more → IsChanging g c n t place to_come last word (events ++ more)
some_made g c n t place parts to_come last word events more changing are = record {
  kept = changing.kept;
  made = changing.made ++ parts;
  changes = record {
    reading = changing.changes.reading;
    changing = changing.changes.changing ++ more;
    read = changing.changes.read;
    fresh = changing.changes.fresh;
    steps = parts_then g changing.made parts changing.changes.changing more changing.changes.steps are;
    parts = ap (λ (es : List CallEvent). es ++ more) changing.changes.parts ∙ append_assoc changing.changes.reading changing.changes.changing more;
  };
  whole = append_assoc changing.made parts to_come ∙ changing.whole;
  generations = changing.generations;
  word_is = changing.word_is;
}

-- a step
pub one_made : (g : GeometryData) (c n : ℕ) (t : Task) (place : ℕ) (next : Step) (old : ℕ) (to_come : List Part) (last : Generations) (word : ℕ) (events : List CallEvent)
    → IsChanging g c n t place (Makes next ∷ to_come) last word events
    → IsChanging g c n t place to_come last word (events ++ record { act = next.act; old = old; made = next.made } ∷ [])
one_made g c n t place next old to_come last word events changing =
    some_made g c n t place (Makes next ∷ []) to_come last word events (record { act = next.act; old = old; made = next.made } ∷ []) changing (old, [], refl, refl)

-- a barrier
pub barrier_made : (g : GeometryData) (c n : ℕ) (t : Task) (place : ℕ) (to_come : List Part) (last : Generations) (word : ℕ) (events barrier : List CallEvent)
    → IsChanging g c n t place (Passes ∷ to_come) last word events → ArePassed g g.cpus barrier → IsChanging g c n t place to_come last word (events ++ barrier)
barrier_made g c n t place to_come last word events barrier changing passed =
    some_made g c n t place (Passes ∷ []) to_come last word events barrier changing (barrier, [], sym (append-nil barrier), passed, refl)

-- a clean
clean_made : (g : GeometryData) (c n : ℕ) (t : Task) (place : ℕ) (s : Space) (next : Act) (old : ℕ) (to_come : List Part) (last : Generations) (word : ℕ) (events : List CallEvent)
    → clean_of g (address_of t) s ≡ Some next → IsChanging g c n t place (cleans g t s ++ to_come) last word events
    → IsChanging g c n t place to_come last word (events ++ plain next old ∷ [])
clean_made g c n t place s next old to_come last word events there changing =
    one_made g c n t place (plain_step next) old to_come last word events (subst (λ (o : Option Act). IsChanging g c n t place (cleaned o ++ to_come) last word events) there changing)

-- a transition goes on to its first change
first_prefix : (g : GeometryData) (c n : ℕ) (t : Task) (k : Kept) (place : ℕ) (events : List CallEvent) → l1_place_of g (address_of t) ≡ Some place → IsChangeOf t (first_change t)
    → IsChanging g c n t place (transition_parts g c n t place k) (last_generations t k.generations) (last_word g t k.word) events → IsPrefix g c n (first_stage t k) (Some t) events
first_prefix g c n (task.Delegate pa source) k place events there is changing = (place, there, changing)
first_prefix g c n (task.Undelegate pa source) k place events there is changing = (place, there, changing)
first_prefix g c n task.Unknown k place events there is changing = absurd is
first_prefix g c n (task.Look pa space) k place events there is changing = absurd is

pub prepared_prefix : (g : GeometryData) (c n : ℕ) (t : Task) (k : Kept) (next : Act) (old : ℕ) (events : List CallEvent) → clean_of g (address_of t) (target_space t) ≡ Some next
    → IsPrefix g c n (stage.Preparing k) (Some t) events → IsPrefix g c n (stage.Changing change.Last k) (Some t) (events ++ plain next old ∷ [])
prepared_prefix g c n t k next old events there prefix =
    (prefix.0, prefix.1, clean_made g c n t prefix.0 (target_space t) next old (change_on g c n t prefix.0 change.Last k) _ _ events there prefix.2)

-- ---- the loads are made

-- nothing is made after them
none_made : (g : GeometryData) (c n : ℕ) (t : Task) (k : Kept) (place : ℕ) (events : List CallEvent) → worn_answer k.generations ≡ None → Reads g t place k.word k.generations [] events
    → IsChanging g c n t place (all_parts g c n t place k) (last_generations t k.generations) (last_word g t (kept_split k).word) events
none_made g c n t k place events fresh reads = record {
  kept = k;
  made = [];
  changes = record { reading = events; changing = []; read = reads; fresh = fresh; steps = refl; parts = sym (append-nil events) };
  whole = refl;
  generations = refl;
  word_is = refl;
}

loaded_prefix : (g : GeometryData) (c n : ℕ) (t : Task) (e : Option L1Entry) (k : Kept) (place : ℕ) (events : List CallEvent) → l1_place_of g (address_of t) ≡ Some place → IsChangeOf t (first_change t)
    → IsChanging g c n t place (map plain_part (split_stores g (address_of t) place e) ++ transition_parts g c n t place (record { word = word_split k.word e; generations = k.generations }))
    (last_generations t k.generations) (last_word g t (word_split k.word e)) events
    → IsPrefix g c n (loaded_stage g t e k) (Some t) events
loaded_prefix g c n t (Some (l1.Contig z v)) k place events there is changing =
    subst (λ (p : ℕ). IsPrefix g c n (stage.Splitting z (splitting_of g (address_of t) p z v) k.generations) (Some t) events) (sym (ap number_of there)) (place, there, changing)
loaded_prefix g c n t (Some (l1.Granules word)) k place events there is changing = first_prefix g c n t k place events there is changing
loaded_prefix g c n t None k place events there is changing = first_prefix g c n t k place events there is changing

pub read_all_prefix : (g : GeometryData) (c n : ℕ) (t : Task) (k : Kept) (place : ℕ) (o : Option Answer) (events : List CallEvent) → worn_answer k.generations ≡ o → l1_place_of g (address_of t) ≡ Some place
    → IsChangeOf t (first_change t) → Reads g t place k.word k.generations (known_entries g c n t o) events → IsPrefix g c n (read_all g o t k) (Some t) events
read_all_prefix g c n t k place None events fresh there is reads =
    loaded_prefix g c n t (l1_entry k.word) k place events there is (none_made g c n t k place events fresh reads)
read_all_prefix g c n t k place (Some given) events worn there is reads = inr (inl (record { place = place; word = k.word; generations = k.generations; read = reads; worn = worn }))

-- ---- splitting

stores_count : (d : SplittingData) → length (splitting_stores d) ≡ d.words
stores_count d = length-map-range_with_len (store_of d) 0 d.words

-- the next store is the first one to come
store_next : (d : SplittingData) (a : Act) → next_store d ≡ Some a → drop d.made (splitting_stores d) ≡ a ∷ drop (d.made + 1) (splitting_stores d)
store_next d a next =
    let there : slice_get (splitting_stores d) d.made ≡ Some a = sym (next_in_order d) ∙ next in
    let more : suc d.made ≡ d.made + 1 = omega arith in
    drop-cons (splitting_stores d) d.made a (slice_get_within (splitting_stores d) d.made a there)
    ∙ ap (λ (x : Act). x ∷ drop (suc d.made) (splitting_stores d)) (get_or_from_slice_get (splitting_stores d) d.made a a there)
    ∙ ap (λ (m : ℕ). a ∷ drop m (splitting_stores d)) more

pub split_prefix : (g : GeometryData) (c n : ℕ) (t : Task) (z : Size) (d : SplittingData) (k : Generations) (next : Act) (old : ℕ) (events : List CallEvent) → IsChangeOf t (first_change t)
    → next_store d ≡ Some next → IsPrefix g c n (stage.Splitting z d k) (Some t) events → IsPrefix g c n (split_stage t z (advanced d) k) (Some t) (events ++ plain next old ∷ [])
split_prefix g c n t z d k next old events is there prefix =
    let place = prefix.0 in
    let kept : Kept = record { word = granules_of d.gpi; generations = k } in
    let rest : List Part = transition_parts g c n t place kept in
    let made : IsChanging g c n t place (map plain_part (drop (d.made + 1) (splitting_stores d)) ++ rest) (last_generations t k) (last_word g t (granules_of d.gpi)) (events ++ plain next old ∷ []) =
    one_made g c n t place (plain_step next) old (map plain_part (drop (d.made + 1) (splitting_stores d)) ++ rest) _ _ events
    (subst (λ (stores : List Act). IsChanging g c n t place (map plain_part stores ++ rest) (last_generations t k) (last_word g t (granules_of d.gpi)) events) (store_next d next there) prefix.2) in
    elim (cases_Bool (ltb (d.made + 1) d.words)) [
      | inl more ↦ rw more (place, prefix.1, made)
      | inr over ↦ rw over
          (first_prefix g c n t kept place (events ++ plain next old ∷ []) prefix.1 is
          (subst (λ (stores : List Act). IsChanging g c n t place (map plain_part stores ++ rest) (last_generations t k) (last_word g t (granules_of d.gpi)) (events ++ plain next old ∷ []))
          (drop_all (d.made + 1) (splitting_stores d) (omega (arith, stores_count d, ltb-false _ _ over))) made))
    ]

-- ---- merging

-- with all steps made and a whole merging it is done
pub done_by : (g : GeometryData) (c n : ℕ) (t : Task) (place : ℕ) (last : Generations) (word : ℕ) (changing merging : List CallEvent)
    → IsChanging g c n t place [] last word changing → Merges g t word merging → Decides g c n t (answer.Done last) (changing ++ merging)
done_by g c n t place last word changing merging changed merges =
    inr (inr (record {
      place = place;
      kept = changed.kept;
      changing = changing;
      merging = merging;
      changes = subst (λ (parts : List Part). Changes g t place changed.kept parts changing) (sym (append-nil changed.made) ∙ changed.whole) changed.changes;
      merges = subst (λ (w : ℕ). Merges g t w merging) changed.word_is merges;
      parts = refl;
      is = ap answer.Done changed.generations;
    }))

merging_prefix : (g : GeometryData) (c n : ℕ) (t : Task) (f : FuseData) (k : Generations) (o : Option Act) (events : List CallEvent) → fuse.next_of f ≡ o → IsMergingAt g c n t f k events
    → IsPrefix g c n (merging_stage o f k) (Some t) events
merging_prefix g c n t f k (Some next) events there at = at
merging_prefix g c n t f k None events over at =
    subst (Decides g c n t (answer.Done k)) (sym at.parts)
    (done_by g c n t at.place k at.word at.changing (map plain_event at.merging) at.changed
    (record {
      index = at.index;
      there = at.there;
      outcome = fuse.outcome_of f;
      merging = at.merging;
      whole = steps_are_merging (around_of g at.index at.word) at.merging f (words_some g.setup size.Two) at.walks over;
      parts = refl;
    }))

last_prefix : (g : GeometryData) (c n : ℕ) (t : Task) (place : ℕ) (k : Kept) (events : List CallEvent) → idle_answer g t ≡ None → IsChanging g c n t place [] k.generations k.word events
    → IsPrefix g c n (last_stage g t k) (Some t) events
last_prefix g c n t place k events acts changed =
    let there = acts_index g t acts in
    rw there.1
    (merging_prefix g c n t (fuse_of g there.0 k.word) k.generations _ events refl
    (record { place = place; word = k.word; index = there.0; changing = events; merging = []; there = there.1; changed = changed; walks = refl; parts = sym (append-nil events) }))

walks_more : (d f : FuseData) (events : List Event) (next : Act) (old : ℕ) → Walks d events f → fuse.next_of f ≡ Some next → Walks d (events ++ record { act = next; old = old } ∷ []) (fuse.took_of f old)
walks_more d f [] next old walks there = (ap fuse.next_of walks ∙ there, ap (λ (x : FuseData). fuse.took_of x old) walks)
walks_more d f (e ∷ events) next old walks there = (walks.0, walks_more (fuse.took_of d e.old) f events next old walks.1 there)

pub merged_prefix : (g : GeometryData) (c n : ℕ) (t : Task) (f : FuseData) (k : Generations) (next : Act) (old : ℕ) (events : List CallEvent) → fuse.next_of f ≡ Some next
    → IsPrefix g c n (stage.Merging f k) (Some t) events → IsPrefix g c n (merged_stage (fuse.took_of f old) k) (Some t) (events ++ plain next old ∷ [])
merged_prefix g c n t f k next old events there at =
    let e : Event = record { act = next; old = old } in
    merging_prefix g c n t (fuse.took_of f old) k _ (events ++ plain next old ∷ []) refl
    (record {
      place = at.place;
      word = at.word;
      index = at.index;
      changing = at.changing;
      merging = at.merging ++ e ∷ [];
      there = at.there;
      changed = at.changed;
      walks = walks_more (fuse_of g at.index at.word) f at.merging next old at.walks there;
      parts = ap (λ (es : List CallEvent). es ++ plain next old ∷ []) at.parts ∙ append_assoc at.changing (map plain_event at.merging) (plain next old ∷ [])
          ∙ ap (λ (es : List CallEvent). at.changing ++ es) (sym (map-append plain_event at.merging (e ∷ [])));
    })

-- ---- the barrier

passed_prefix : (g : GeometryData) (c n : ℕ) (t : Task) (ch : Change) (k : Kept) (place : ℕ) (events : List CallEvent) → idle_answer g t ≡ None → IsChangeOf t ch → l1_place_of g (address_of t) ≡ Some place
    → IsChanging g c n t place (parts_after g c n t place ch k) (generations_after ch k.generations) (word_after_change g t ch k.word) events → IsPrefix g c n (passed_stage g t ch k) (Some t) events
passed_prefix g c n (task.Delegate pa source) change.First k place events acts is there changing = absurd is
passed_prefix g c n (task.Delegate pa source) change.Last k place events acts is there changing = (place, there, changing)
passed_prefix g c n (task.Undelegate pa source) change.First k place events acts is there changing = (place, there, changing)
passed_prefix g c n (task.Undelegate pa source) change.Last k place events acts is there changing = last_prefix g c n (task.Undelegate pa source) place k events acts changing
passed_prefix g c n task.Unknown ch k place events acts is there changing = absurd is
passed_prefix g c n (task.Look pa space) ch k place events acts is there changing = absurd is

-- with the first `d.passed` processors passed
pub passing_prefix : (g : GeometryData) (c n : ℕ) (t : Task) (ch : Change) (d : BarrierData) (k : Kept) (place : ℕ) (changing barrier : List CallEvent) → idle_answer g t ≡ None → IsChangeOf t ch
    → l1_place_of g (address_of t) ≡ Some place → d.cpus ≡ g.cpus → d.passed ≤ d.cpus
    → IsChanging g c n t place (Passes ∷ parts_after g c n t place ch k) (generations_after ch k.generations) (word_after_change g t ch k.word) changing → ArePassed g d.passed barrier
    → IsPrefix g c n (passing_stage g t ch d k) (Some t) (changing ++ barrier)
passing_prefix g c n t ch d k place changing barrier acts is there cpus within changed passed =
    elim (cases_Bool (ltb d.passed d.cpus)) [
      | inl more ↦ rw more (
        place,
        there,
        record {
          changing = changing;
          passing = barrier;
          barrier = record { cpus = cpus; low = more };
          changed = changed;
          passes = record { before = barrier; waits = []; are = passed; busy = All-nil (IsBusy g d.passed); parts = sym (append-nil barrier) };
          parts = refl;
        },
      )
      | inr over ↦
          let all : d.passed ≡ g.cpus = omega (arith, ltb-false _ _ over, cpus, within) in
          rw over (passed_prefix g c n t ch k place (changing ++ barrier) acts is there
          (barrier_made g c n t place (parts_after g c n t place ch k) _ _ changing barrier changed (subst (λ (m : ℕ). ArePassed g m barrier) all passed)))
    ]

-- the next processor is passed
pub one_passes : (g : GeometryData) (passed : ℕ) (events : List CallEvent) → IsPassing g passed events → ArePassed g (suc passed) (events ++ plain (barrier_load g passed) 0 ∷ [])
one_passes g passed events at =
    let e : CallEvent = plain (barrier_load g passed) 0 in (
      at.before,
      at.waits ++ e ∷ [],
      ap (λ (es : List CallEvent). es ++ e ∷ []) at.parts ∙ append_assoc at.before at.waits (e ∷ []),
      at.are,
      record { waits = at.waits; busy = at.busy; parts = refl },
    )

-- or it is still busy
one_waits : (g : GeometryData) (passed old : ℕ) (events : List CallEvent) → old ≢ 0 → IsPassing g passed events → IsPassing g passed (events ++ plain (barrier_load g passed) old ∷ [])
one_waits g passed old events busy at =
    let e : CallEvent = plain (barrier_load g passed) old in
    record {
      before = at.before;
      waits = at.waits ++ e ∷ [];
      are = at.are;
      busy = All-append (IsBusy g passed) at.waits (e ∷ []) at.busy (All-cons (IsBusy g passed) e [] (refl, busy, refl) (All-nil (IsBusy g passed)));
      parts = ap (λ (es : List CallEvent). es ++ e ∷ []) at.parts ∙ append_assoc at.before at.waits (e ∷ []);
    }

pub found_prefix : (g : GeometryData) (c n : ℕ) (t : Task) (ch : Change) (d : BarrierData) (k : Kept) (events : List CallEvent) → idle_answer g t ≡ None → IsChangeOf t ch
    → IsPrefix g c n (stage.Passing ch d k) (Some t) events → IsPrefix g c n (passing_stage g t ch (one_passed d) k) (Some t) (events ++ plain (barrier_load g d.passed) 0 ∷ [])
found_prefix g c n t ch d k events acts is prefix =
    let e : CallEvent = plain (barrier_load g d.passed) 0 in
    let at = prefix.2 in
    let more : suc d.passed ≡ d.passed + 1 = omega arith in
    subst (IsPrefix g c n (passing_stage g t ch (one_passed d) k) (Some t)) (sym (ap (λ (es : List CallEvent). es ++ e ∷ []) at.parts ∙ append_assoc at.changing at.passing (e ∷ [])))
    (passing_prefix g c n t ch (one_passed d) k prefix.0 at.changing (at.passing ++ e ∷ []) acts is prefix.1 at.barrier.cpus (omega (arith, ltb-true _ _ at.barrier.low)) at.changed
    (subst (λ (m : ℕ). ArePassed g m (at.passing ++ e ∷ [])) more (one_passes g d.passed at.passing at.passes)))

pub busy_prefix : (g : GeometryData) (c n : ℕ) (t : Task) (ch : Change) (d : BarrierData) (k : Kept) (old : ℕ) (events : List CallEvent) → old ≢ 0
    → IsPrefix g c n (stage.Passing ch d k) (Some t) events → IsPrefix g c n (stage.Passing ch d k) (Some t) (events ++ plain (barrier_load g d.passed) old ∷ [])
busy_prefix g c n t ch d k old events busy prefix =
    let e : CallEvent = plain (barrier_load g d.passed) old in
    let at = prefix.2 in (
      prefix.0,
      prefix.1,
      record {
        changing = at.changing;
        passing = at.passing ++ e ∷ [];
        barrier = at.barrier;
        changed = at.changed;
        passes = one_waits g d.passed old at.passing busy at.passes;
        parts = ap (λ (es : List CallEvent). es ++ e ∷ []) at.parts ∙ append_assoc at.changing at.passing (e ∷ []);
      },
    )

-- ---- the cleans after it

pub cleaned_prefix : (g : GeometryData) (c n : ℕ) (t : Task) (ch : Change) (l : Line) (k : Kept) (next : Act) (old : ℕ) (events : List CallEvent) → idle_answer g t ≡ None → IsCleaned t ch l
    → clean_of g (address_of t) (space_of_line t ch l) ≡ Some next → IsPrefix g c n (stage.Cleaning ch l k) (Some t) events
    → IsPrefix g c n (cleaned_stage g t ch l k) (Some t) (events ++ plain next old ∷ [])
cleaned_prefix g c n (task.Undelegate pa source) change.First line.Former k next old events acts is there prefix =
    (prefix.0, prefix.1, clean_made g c n (task.Undelegate pa source) prefix.0 (own_space source) next old _ _ _ events there prefix.2)
cleaned_prefix g c n (task.Undelegate pa source) change.First line.NonSecure k next old events acts is there prefix =
    (prefix.0, prefix.1, clean_made g c n (task.Undelegate pa source) prefix.0 space.NonSecure next old _ _ _ events there prefix.2)
cleaned_prefix g c n (task.Undelegate pa source) change.Last l k next old events acts is there prefix = absurd is
cleaned_prefix g c n (task.Delegate pa source) change.First l k next old events acts is there prefix = absurd is
cleaned_prefix g c n (task.Delegate pa source) change.Last line.NonSecure k next old events acts is there prefix = absurd is
cleaned_prefix g c n (task.Delegate pa source) change.Last line.Former k next old events acts is there prefix =
    let t = task.Delegate pa source in
    last_prefix g c n t prefix.0 k (events ++ plain next old ∷ []) acts
    (one_made g c n t prefix.0 (plain_step next) old [] k.generations k.word events (subst (λ (o : Option Act). IsChanging g c n t prefix.0 (cleaned o) k.generations k.word events) there prefix.2))
cleaned_prefix g c n task.Unknown ch l k next old events acts is there prefix = absurd is
cleaned_prefix g c n (task.Look pa s) ch l k next old events acts is there prefix = absurd is
