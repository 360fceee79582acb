-- The loads under a lock: of the L1 word, and of the generations.
use Rattle.std.proofs.Common.{◌≡◌, ℕ, ◌/◌, ◌++◌, ◌∷◌, [], List, true, false, Option, Some, None, length, set, refl, sym, ap, ◌∙◌, subst, arith, inl, inr}
use Rattle.std.specs.Prelude.{slice_index}
use Rattle.std.proofs.lemmas.Bool.{cases_Bool, eqb-true}
use Rattle.std.proofs.lemmas.List.{set-get_or}
use Rattle.core_machine.proofs.Names.{Gpi, Size, Generations, granule_bytes, canonical_word, GeometryData, gen_place_of, l1_place_of, Whole, Holder, Step, AreWords, apart_by, Facts, Keeps, step_of, coming_at, SeesAt, Task, Answer, Entry, needed, count_of, region_of, Kept, Stage, address_of, idle_answer, granule_place, generation_in, worn_answer, AgentData, is_look, goes_to, took_at, fresh, HoldsIn, Scene, scene_after, map_in, IsCounted, entries_at, made_at, granule_of_task, is_inside, known_at, comes_before, SeesGeneration, open_at, is_due_at, IsMade}
use Rattle.core_machine.proofs.Names.gpi
use Rattle.core_machine.proofs.Names.size
use Rattle.core_machine.proofs.Names.l1
use Rattle.core_machine.proofs.Names.act
use Rattle.core_machine.proofs.Names.task
use Rattle.core_machine.proofs.Names.answer
use Rattle.core_machine.proofs.Names.entry
use Rattle.core_machine.proofs.Names.stage
use Rattle.core_machine.proofs.Names.caller
use Rattle.gpi_values.specs.Values.{own_of}
use Rattle.gpi_values.proofs.ValueLemmas.{value_one}
use Rattle.gpt_descriptors.specs.declared.entry.L1Entry.{L1Entry}
use Rattle.gpt_descriptors.specs.Entries.{l1_entry}
use Rattle.invalidate.specs.Generations.{gen_load_of}
use Rattle.table_meaning.proofs.FactLemmas.{splits, looked_none, keeps}
use Rattle.table_meaning.proofs.StepLemmas.{split_begin, no_split}
use Rattle.history.specs.Counts.{counts_around}
use Rattle.delegate_ops.specs.Deciding.{is_needed, refusal_of, looked_answer}
use Rattle.delegate_ops.specs.Changing.{first_change, from_of}
use Rattle.delegate_ops.specs.InnerAgents.{IsReadable, first_stage, looked_stage, loaded_stage, read_all, read_stage, kept_read}
use Rattle.delegate_ops.proofs.AgentLemmas.{at_stage, no_look_at}
use Rattle.delegate_ops.proofs.ScriptLemmas.{some_mapped}
use Rattle.core_machine.proofs.EntryLemmas.{refused_is}
use Rattle.core_machine.proofs.ActLemmas.{canonical_gives, reads_own, map_has, holders_of, holder_at, alone_there, tables_after, tables_stay, Acting, granule_closed, counts_of, seen_of, raised_same, tracks_quietly, marks_quietly, goes_keeps, load_quietly}
use Rattle.core_machine.specs.InnerAgentCaller.{unpassed_at, uncleaned_at}
use Rattle.core_machine.proofs.MarkLemmas.{seen_more}
use Rattle.core_machine.proofs.WordLemmas.{writes_none}
use Rattle.core_machine.proofs.CountedLemmas.{worn_counted}
use Rattle.core_machine.proofs.LockActs.{ActKeeps}
use Rattle.core_machine.proofs.StepLemmas.{rises_left}
use Rattle.delegate_ops.specs.InnerEntries.{known_entries}
use Rattle.table_meaning.specs.Equation.{Apart}
use Rattle.core_machine.specs.InnerAgentCaller.{GivesAt, SeesGenerations}
use Rattle.core_machine.proofs.AddressLemmas.{word_readable}

-- ---- a load

-- it leaves the words
pub load_keeps : (s : Scene) (c : ℕ) (a : AgentData) (t : Task) (st : Stage) (place : ℕ) → IsReadable st (slice_index s.words place)
    → HoldsIn a.geometry (scene_after s c (caller.Agent (took_at (at_stage a st) t st (slice_index s.words place))) s.words (made_at a.geometry c (length a.answers) st (Some t) (slice_index s.words place)))
    → ActKeeps s c a t st (act.Load place)
load_keeps s c a t st place readable holds = (readable, rw (set-get_or s.words place 0) holds)

-- ---- a refusal

-- a closed granule that the map gives this GPI: the transition is refused with it
refuse : {s : Scene} {c : ℕ} {a : AgentData} {t : Task} {st : Stage} (acting : Acting s c a t st) (given : Answer) → is_inside st ≡ true → step_of (known_at st) ≡ Whole
    → IsMade a.geometry (caller.Agent (goes_to (at_stage a st) (stage.Releasing given))) → open_at a.geometry st (Some t) ≡ [] → ((p : ℕ) → unpassed_at a.geometry p st (Some t) ≡ []) → uncleaned_at a.geometry st (Some t) ≡ [] → ((y : Size) → is_due_at st y ≡ false)
    → known_entries a.geometry c (length a.answers) t (Some given) ≡ entry.Refused c (length a.answers) (granule_of_task a.geometry t) (map_in s (granule_of_task a.geometry t)) ∷ []
    → entries_at a.geometry c (length a.answers) st (Some t) ≡ []
    → IsCounted a.geometry c (length a.answers) t given (s.history ++ entry.Refused c (length a.answers) (granule_of_task a.geometry t) (map_in s (granule_of_task a.geometry t)) ∷ [])
    → HoldsIn a.geometry (scene_after s c (caller.Agent (goes_to (at_stage a st) (stage.Releasing given))) s.words (known_entries a.geometry c (length a.answers) t (Some given)))
refuse {s = s} {c = c} {a = a} {t = t} {st = st} acting given inside whole made open_none unpassed_none uncleaned_none due_none entries front counted =
    let e = entry.Refused c (length a.answers) (granule_of_task a.geometry t) (map_in s (granule_of_task a.geometry t)) in
    rw entries
    (goes_keeps acting (stage.Releasing given) None s.words (Some e)
    (record {
      inside = inside;
      stays = refl;
      made = made;
      writes = writes_none a.geometry s.words;
      block = λ m other. tt;
      no_lock = refl;
      no_duty_word = refl;
      rises = rises_left (writes_none a.geometry s.words) refl;
      tracks = tracks_quietly acting (stage.Releasing given) None s.words (Some e) (writes_none a.geometry s.words) refl (λ k. refl) (sym open_none) (λ y. sym (due_none y));
      marks = marks_quietly acting (stage.Releasing given) None s.words (Some e) (writes_none a.geometry s.words) refl (λ k. refl) (λ k sp. seen_more k sp s.history e) (λ p. sym (unpassed_none p)) (sym uncleaned_none);
      entry = record { caller = refl; call = refl; granule = refl; allowed = (map_has acting, granule_closed acting inside open_none) };
      words = tables_stay acting inside (stage.Releasing given) (sym whole) (writes_none a.geometry s.words) refl;
      opened = sym open_none;
      seen = record { known = tt; gives = tt; generations = tt };
      raised = raised_same acting (stage.Releasing given) (writes_none a.geometry s.words) refl (λ y. sym (due_none y));
      coming = λ answer is. subst (λ (x : Answer). IsCounted a.geometry c (length a.answers) t x (s.history ++ e ∷ [])) (let same : given ≡ answer = cc in same) counted;
      front = rw front entries;
    }))

-- ---- looking at the L1 word

needed_is : (o : Option Gpi) (found : Gpi) → is_needed o found ≡ true → o ≡ Some found
needed_is None found same = absurd cc
needed_is (Some v) found same = ap Some (value_one v found (eqb-true _ _ same))

-- a transition that isn't refused by the GPI that it finds needs it
not_refused : (t : Task) (found : Gpi) → refusal_of t (Some found) ≡ None → needed t ≡ Some found
not_refused t found fine = needed_is (needed t) found (elim (cases_Bool (is_needed (needed t) found)) [ inl same ↦ same | inr other ↦ absurd (let both = rw other at fine in cc) ])

-- one that is refused by it reports it
refused_with : (g : GeometryData) (c k : ℕ) (t : Task) (found : Gpi) → idle_answer g t ≡ None → is_look t ≡ false → known_entries g c k t (Some (answer.Perm found)) ≡ entry.Refused c k (granule_of_task g t) found ∷ []
refused_with g c k (task.Delegate pa source) found acts no_look = refl
refused_with g c k (task.Undelegate pa source) found acts no_look = refl
refused_with g c k t found acts no_look = absurd cc

none_before_two : (y : Size) → comes_before y size.Two ≡ false
none_before_two size.Two = refl
none_before_two size.ThirtyTwo = refl
none_before_two size.FiveTwelve = refl

looked_keeps : {s : Scene} {c : ℕ} {a : AgentData} {t : Task} (acting : Acting s c a t stage.Looking) (word : ℕ) (o : Option Answer)
    → word ≡ canonical_word a.geometry.setup (map_in s) None (granule_of_task a.geometry t / 16) → refusal_of t (Some (map_in s (granule_of_task a.geometry t))) ≡ o
    → IsMade a.geometry (caller.Agent (goes_to (at_stage a stage.Looking) (looked_stage o word)))
    → HoldsIn a.geometry (scene_after s c (caller.Agent (goes_to (at_stage a stage.Looking) (looked_stage o word))) s.words (known_entries a.geometry c (length a.answers) t o))
looked_keeps {s = s} {a = a} {t = t} acting word None is fine made =
    load_quietly acting (looked_stage None word) (record { inside = refl; stays = refl; opened = refl; due = λ y. refl; front = refl }) (λ p. refl) refl made
    (tables_stay acting refl (looked_stage None word) refl (writes_none a.geometry s.words) refl)
    (record {
      known = is;
      gives = not_refused t (map_in s (granule_of_task a.geometry t)) fine;
      generations = λ y before. absurd (let both : true ≡ false = sym before ∙ none_before_two y in cc);
    }) refl
looked_keeps {s = s} {c = c} {a = a} {t = t} acting word (Some given) is refused made =
    let found = map_in s (granule_of_task a.geometry t) in
    let by = refused_is t (Some found) given refused in
    let perm : given ≡ answer.Perm found = by.3 ∙ ap answer.Perm (let same : by.0 ≡ found = (let both = by.1 in cc) in same) in
    refuse acting given refl refl made refl (λ p. refl) refl (λ y. refl)
    (ap (λ (x : Answer). known_entries a.geometry c (length a.answers) t (Some x)) perm ∙ refused_with a.geometry c (length a.answers) t found acting.acts (no_look_at (at_stage a stage.Looking) t acting.is acting.under_way)) refl
    (subst (λ (x : Answer). IsCounted a.geometry c (length a.answers) t x (s.history ++ entry.Refused c (length a.answers) (granule_of_task a.geometry t) found ∷ [])) (sym perm) tt)

pub look_keeps : {s : Scene} {c : ℕ} {a : AgentData} {t : Task} (acting : Acting s c a t stage.Looking) (place : ℕ) → l1_place_of a.geometry (address_of t) ≡ Some place → ActKeeps s c a t stage.Looking (act.Load place)
look_keeps {s = s} {c = c} {a = a} {t = t} acting place there =
    let word = slice_index s.words place in
    let found = map_in s (granule_of_task a.geometry t) in
    let is = reads_own acting refl place there in
    let gives = canonical_gives a.geometry.setup (map_in s) None (granule_of_task a.geometry t) word is in
    let answers : refusal_of t (Some found) ≡ looked_answer a.geometry t word = sym (ap (refusal_of t) gives) in
    load_keeps s c a t stage.Looking place (word_readable word (granule_place a.geometry (address_of t)) found gives)
    (looked_keeps acting word (looked_answer a.geometry t word) is answers (acting.made word))

-- ---- loading the generations

-- a transition that needs this GPI and finds a worn generation is refused with it
worn_with : (g : GeometryData) (c k : ℕ) (t : Task) (found : Gpi) (given : Answer) (z : Size) (value : ℕ) → needed t ≡ Some found → given ≡ answer.Worn z value
    → known_entries g c k t (Some given) ≡ entry.Refused c k (granule_of_task g t) found ∷ []
worn_with g c k (task.Delegate pa source) found given z value needs is = let same : gpi.NonSecure ≡ found = cc in rw (is, ← same) refl
worn_with g c k (task.Undelegate pa source) found given z value needs is = let same : own_of source ≡ found = cc in rw (is, ← same) refl
worn_with g c k t found given z value needs is = absurd cc

pub first_from : (t : Task) (found : Gpi) → needed t ≡ Some found → from_of t (first_change t) ≡ found
first_from (task.Delegate pa source) found needs = cc
first_from (task.Undelegate pa source) found needs = cc
first_from t found needs = absurd cc

-- what holds of the stage with which a transition goes on to its first change
pub record Begins (g : GeometryData) (c n : ℕ) (t : Task) (k : Kept) (next : Stage) : Type 0 where
  pub stays : is_inside next ≡ true
  pub opened : open_at g next (Some t) ≡ []
  pub due : (y : Size) → is_due_at next y ≡ false
  pub front : entries_at g c n next (Some t) ≡ []
  pub known : known_at next ≡ Keeps k.word
  pub gives : (v : Gpi) → needed t ≡ Some v → GivesAt t next v
  pub generations : (words : List ℕ) → ((y : Size) → SeesGeneration g words t k.generations y) → SeesGenerations g words t next
  pub coming : coming_at next ≡ []
  pub unpassed : (p : ℕ) → unpassed_at g p next (Some t) ≡ []
  pub uncleaned : uncleaned_at g next (Some t) ≡ []

pub begins : (g : GeometryData) (c n : ℕ) (t : Task) (k : Kept) → Begins g c n t k (first_stage t k)
begins g c n (task.Delegate pa source) k =
    record { stays = refl; opened = refl; due = λ y. refl; front = refl; known = refl; gives = first_from (task.Delegate pa source); generations = λ words sees. sees; coming = refl; unpassed = λ p. refl; uncleaned = refl }
begins g c n (task.Undelegate pa source) k =
    record { stays = refl; opened = refl; due = λ y. refl; front = refl; known = refl; gives = first_from (task.Undelegate pa source); generations = λ words sees. sees; coming = refl; unpassed = λ p. refl; uncleaned = refl }
begins g c n t k = record { stays = refl; opened = refl; due = λ y. refl; front = refl; known = refl; gives = λ v needs. absurd cc; generations = λ words sees. sees; coming = refl; unpassed = λ p. refl; uncleaned = refl }

pub begins_sees : {g : GeometryData} {c n : ℕ} {t : Task} {k : Kept} {next : Stage} (m : ℕ → Gpi) (words : List ℕ) → Begins g c n t k next → Facts g.setup m (granule_of_task g t) (Keeps k.word) → needed t ≡ Some (m (granule_of_task g t))
    → ((y : Size) → SeesGeneration g words t k.generations y) → SeesAt g m words t next
begins_sees {g = g} {t = t} m words begin known needs generations = record {
  known = subst (Facts g.setup m (granule_of_task g t)) (sym begin.known) known;
  gives = begin.gives (m (granule_of_task g t)) needs;
  generations = begin.generations words generations;
}

-- the L1 words by what it keeps
pub begins_words : {g : GeometryData} {c n : ℕ} {t : Task} {k : Kept} {next : Stage} (m : ℕ → Gpi) (words : List ℕ) (hs : List Holder) → Begins g c n t k next
    → AreWords g m (apart_by g.setup (set hs c (record { granule = granule_of_task g t; step = Apart }))) words → AreWords g m (apart_by g.setup (set hs c (record { granule = granule_of_task g t; step = step_of (known_at next) }))) words
begins_words {g = g} {c = c} {t = t} m words hs begin are =
    subst (λ (x : Step). AreWords g m (apart_by g.setup (set hs c (record { granule = granule_of_task g t; step = x }))) words) (sym (ap step_of begin.known)) are

-- the counts, size by size
pub counts_from : (first bytes granule : ℕ) (h : List Entry) (k : Generations) → ((y : Size) → generation_in y k ≡ count_of first bytes y (region_of bytes y granule) h) → k ≡ counts_around first bytes granule h
counts_from first bytes granule h k each = let two = each size.Two in let thirty_two = each size.ThirtyTwo in let five_twelve = each size.FiveTwelve in rw (← two, ← thirty_two, ← five_twelve) refl

-- with all generations loaded, and none of them worn
loaded_keeps : {s : Scene} {c : ℕ} {a : AgentData} {t : Task} {old : Kept} (acting : Acting s c a t (stage.Reading size.FiveTwelve old)) (k : Kept) (e : Option L1Entry) → k.word ≡ canonical_word a.geometry.setup (map_in s) None (granule_of_task a.geometry t / 16)
    → needed t ≡ Some (map_in s (granule_of_task a.geometry t)) → ((y : Size) → SeesGeneration a.geometry s.words t k.generations y) → l1_entry k.word ≡ e
    → IsMade a.geometry (caller.Agent (goes_to (at_stage a (stage.Reading size.FiveTwelve old)) (loaded_stage a.geometry t e k)))
    → HoldsIn a.geometry (scene_after s c (caller.Agent (goes_to (at_stage a (stage.Reading size.FiveTwelve old)) (loaded_stage a.geometry t e k))) s.words [])
loaded_keeps {s = s} {a = a} {t = t} acting k None known gives generations read made =
    absurd (let there = canonical_gives a.geometry.setup (map_in s) None (granule_of_task a.geometry t) k.word known in let both = rw read at there in cc)
loaded_keeps {s = s} {c = c} {a = a} {t = t} acting k (Some (l1.Contig z v)) known gives generations read made =
    let g = a.geometry in
    let granule = granule_of_task g t in
    let next = loaded_stage g t (Some (l1.Contig z v)) k in
    load_quietly acting next (record { inside = refl; stays = refl; opened = refl; due = λ y. refl; front = refl }) (λ p. refl) refl made
    (tables_after acting next (map_in s) s.words (split_begin g (map_in s) (holders_of s.callers) c granule z s.words (holder_at acting) (alone_there acting refl) acting.stands.tables.level1))
    (record { known = splits g.setup (map_in s) granule k.word z v known read; gives = gives; generations = generations }) refl
loaded_keeps {s = s} {c = c} {a = a} {t = t} acting k (Some (l1.Granules fields)) known gives generations read made =
    let g = a.geometry in
    let granule = granule_of_task g t in
    let next = first_stage t k in
    let begin = begins g c (length a.answers) t k in
    load_quietly acting next (record { inside = refl; stays = begin.stays; opened = begin.opened; due = begin.due; front = begin.front }) begin.unpassed begin.uncleaned made
    (tables_after acting next (map_in s) s.words
    (begins_words (map_in s) s.words (holders_of s.callers) begin
    (no_split g (map_in s) (holders_of s.callers) c granule s.words (holder_at acting) (alone_there acting refl) (looked_none g.setup (map_in s) granule k.word fields known read) acting.stands.tables.level1)))
    (begins_sees (map_in s) s.words begin (keeps g.setup (map_in s) granule k.word fields known read) gives generations) begin.coming

-- with all generations loaded
all_read : {s : Scene} {c : ℕ} {a : AgentData} {t : Task} {old : Kept} (acting : Acting s c a t (stage.Reading size.FiveTwelve old)) (k : Kept) (o : Option Answer) → k.word ≡ canonical_word a.geometry.setup (map_in s) None (granule_of_task a.geometry t / 16)
    → needed t ≡ Some (map_in s (granule_of_task a.geometry t)) → ((y : Size) → SeesGeneration a.geometry s.words t k.generations y) → worn_answer k.generations ≡ o
    → IsMade a.geometry (caller.Agent (goes_to (at_stage a (stage.Reading size.FiveTwelve old)) (read_all a.geometry o t k)))
    → HoldsIn a.geometry (scene_after s c (caller.Agent (goes_to (at_stage a (stage.Reading size.FiveTwelve old)) (read_all a.geometry o t k))) s.words (known_entries a.geometry c (length a.answers) t o))
all_read acting k None known gives generations fresh made = loaded_keeps acting k (l1_entry k.word) known gives generations refl made
all_read {s = s} {c = c} {a = a} {t = t} acting k (Some given) known gives generations worn made =
    let g = a.geometry in
    let counted : k.generations ≡ counts_around g.setup.first (granule_bytes g.setup) (granule_of_task g t) s.history =
    counts_from g.setup.first (granule_bytes g.setup) (granule_of_task g t) s.history k.generations
    (λ y. let seen = counts_of acting refl k.generations y (generations y) in omega (arith, seen)) in
    let is = some_mapped (λ (z : Size). answer.Worn z (generation_in z k.generations)) _ given worn in
    refuse acting given refl refl made refl (λ p. refl) refl (λ y. refl) (worn_with g c (length a.answers) t (map_in s (granule_of_task g t)) given is.0 (generation_in is.0 k.generations) gives (sym is.2)) refl
    (worn_counted g c (length a.answers) t (map_in s (granule_of_task g t)) k.generations given s.history counted worn)

-- what is seen with the generation of this size loaded
two_seen : (g : GeometryData) (words : List ℕ) (t : Task) (k : Kept) (old : ℕ) → old ≡ slice_index words (gen_place_of g size.Two (address_of t)) → (y : Size) → comes_before y size.ThirtyTwo ≡ true → SeesGeneration g words t (kept_read size.Two old k).generations y
two_seen g words t k old is size.Two before = sym is
two_seen g words t k old is size.ThirtyTwo before = absurd cc
two_seen g words t k old is size.FiveTwelve before = absurd cc

thirty_two_seen : (g : GeometryData) (words : List ℕ) (t : Task) (k : Kept) (old : ℕ) → SeesGenerations g words t (stage.Reading size.ThirtyTwo k) → old ≡ slice_index words (gen_place_of g size.ThirtyTwo (address_of t)) → (y : Size) → comes_before y size.FiveTwelve ≡ true
    → SeesGeneration g words t (kept_read size.ThirtyTwo old k).generations y
thirty_two_seen g words t k old sees is size.Two before = sees size.Two refl
thirty_two_seen g words t k old sees is size.ThirtyTwo before = sym is
thirty_two_seen g words t k old sees is size.FiveTwelve before = absurd cc

all_seen : (g : GeometryData) (words : List ℕ) (t : Task) (k : Kept) (old : ℕ) → SeesGenerations g words t (stage.Reading size.FiveTwelve k) → old ≡ slice_index words (gen_place_of g size.FiveTwelve (address_of t)) → (y : Size) → SeesGeneration g words t (kept_read size.FiveTwelve old k).generations y
all_seen g words t k old sees is size.Two = sees size.Two refl
all_seen g words t k old sees is size.ThirtyTwo = sees size.ThirtyTwo refl
all_seen g words t k old sees is size.FiveTwelve = sym is

read_at : {s : Scene} {c : ℕ} {a : AgentData} {t : Task} (z : Size) (k : Kept) (old : ℕ) (acting : Acting s c a t (stage.Reading z k)) → old ≡ slice_index s.words (gen_place_of a.geometry z (address_of t))
    → HoldsIn a.geometry (scene_after s c (caller.Agent (goes_to (at_stage a (stage.Reading z k)) (read_stage a.geometry t z (kept_read z old k)))) s.words (made_at a.geometry c (length a.answers) (stage.Reading z k) (Some t) old))
read_at {s = s} {a = a} {t = t} size.Two k old acting is =
    let sees = seen_of acting in
    let next = stage.Reading size.ThirtyTwo (kept_read size.Two old k) in
    load_quietly acting next (record { inside = refl; stays = refl; opened = refl; due = λ y. refl; front = refl }) (λ p. refl) refl (acting.made old)
    (tables_stay acting refl next refl (writes_none a.geometry s.words) refl)
    (record { known = sees.known; gives = sees.gives; generations = two_seen a.geometry s.words t k old is }) refl
read_at {s = s} {a = a} {t = t} size.ThirtyTwo k old acting is =
    let sees = seen_of acting in
    let next = stage.Reading size.FiveTwelve (kept_read size.ThirtyTwo old k) in
    load_quietly acting next (record { inside = refl; stays = refl; opened = refl; due = λ y. refl; front = refl }) (λ p. refl) refl (acting.made old)
    (tables_stay acting refl next refl (writes_none a.geometry s.words) refl)
    (record { known = sees.known; gives = sees.gives; generations = thirty_two_seen a.geometry s.words t k old sees.generations is }) refl
read_at {s = s} {a = a} {t = t} size.FiveTwelve k old acting is =
    let sees = seen_of acting in
    all_read acting (kept_read size.FiveTwelve old k) (worn_answer (kept_read size.FiveTwelve old k).generations) sees.known sees.gives (all_seen a.geometry s.words t k old sees.generations is) refl (acting.made old)

pub read_keeps : {s : Scene} {c : ℕ} {a : AgentData} {t : Task} (z : Size) (k : Kept) → Acting s c a t (stage.Reading z k) → ActKeeps s c a t (stage.Reading z k) (gen_load_of a.geometry z (address_of t))
read_keeps {s = s} {c = c} {a = a} {t = t} z k acting =
    let place = gen_place_of a.geometry z (address_of t) in
    load_keeps s c a t (stage.Reading z k) place tt (read_at z k (slice_index s.words place) acting refl)
