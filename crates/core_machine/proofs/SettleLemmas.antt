-- Where a transition goes on once a change is complete: to the barrier, to cleaning, to its last change, to merging, or,
-- where there is nothing to merge, to its unlock.
use Rattle.std.proofs.Common.{◌≡◌, ℕ, ◌/◌, ◌∷◌, [], List, true, false, ltb, Option, Some, None, length, set, refl, sym, ap, ◌∙◌, subst, inl, inr}
use Rattle.std.specs.Prelude.{slice_get}
use Rattle.std.proofs.lemmas.Bool.{cases_Bool}
use Rattle.core_machine.proofs.Names.{Gpi, Size, Generations, words_of, GeometryData, WordName, Level1, place_of, l1_index_of, Act, Fusing, Testing, Storing, Ended, Step, Whole, apart_by, AreWords, Facts, Keeps, step_of, Task, Answer, Change, Kept, Stage, address_of, AgentData, goes_to, Scene, map_in, entries_at, granule_of_task, is_inside, open_at, SeesGeneration, SeesAt, is_due_at, coming_at, known_at}
use Rattle.core_machine.proofs.Names.size
use Rattle.core_machine.proofs.Names.fuse
use Rattle.core_machine.proofs.Names.task
use Rattle.core_machine.proofs.Names.answer
use Rattle.core_machine.proofs.Names.stage
use Rattle.core_machine.proofs.Names.caller
use Rattle.gpt_descriptors.specs.Fields.{equal_gpi}
use Rattle.gpt_descriptors.specs.Canonical.{largest_block}
use Rattle.gpt_descriptors.proofs.PackedLemmas.{equal_found, equal_none}
use Rattle.table_meaning.specs.Equation.{Apart}
use Rattle.table_meaning.specs.Fusing.{begun}
use Rattle.table_meaning.specs.Facts.{Merges, merging_step}
use Rattle.table_meaning.proofs.FactLemmas.{merges}
use Rattle.table_meaning.proofs.TestLemmas.{finds_largest}
use Rattle.table_meaning.proofs.StepLemmas.{load_words, no_merge, begun_unstored}
use Rattle.fuse.specs.Merging.{FuseData}
use Rattle.invalidate.specs.Barrier.{BarrierData}
use Rattle.delegate_ops.specs.declared.stage.Change.TheVariants as change
use Rattle.delegate_ops.specs.declared.stage.Line.{Line}
use Rattle.delegate_ops.specs.declared.stage.Line.TheVariants as line
use Rattle.delegate_ops.specs.Changing.{from_of, to_of}
use Rattle.delegate_ops.specs.Script.{entries_of}
use Rattle.delegate_ops.specs.InnerAgents.{IsChangeOf, number_of, merging_stage, merged_stage, last_stage, passed_stage, passing_stage, cleaned_stage}
use Rattle.delegate_ops.specs.InnerEntries.{entries_after}
use Rattle.delegate_ops.proofs.AgentLemmas.{at_stage}
use Rattle.core_machine.specs.InnerAgentCaller.{done_after}
use Rattle.core_machine.proofs.WordLemmas.{Writes, is_level1, words_left}
use Rattle.core_machine.proofs.ActLemmas.{Acting, holders_of, holder_at, alone_there, tables_after, tables_stay}

-- ---- a change that is complete

-- A transition that has completed this change keeps its word and its generations, and no act of it writes an L1 word.
pub record Completes (s : Scene) (c : ℕ) (a : AgentData) (t : Task) (st : Stage) (ch : Change) (k : Kept) (n : Option WordName) (after : List ℕ) : Type 0 where
  pub acting : Acting s c a t st
  pub inside : is_inside st ≡ true
  pub apart : step_of (known_at st) ≡ Apart
  pub change : IsChangeOf t ch
  pub writes : Writes a.geometry s.words n after
  pub plain : is_level1 n ≡ false
  pub known : Facts a.geometry.setup (map_in s) (granule_of_task a.geometry t) (Keeps k.word)
  pub gives : to_of t ch ≡ map_in s (granule_of_task a.geometry t)
  pub generations : (y : Size) → SeesGeneration a.geometry after t k.generations y

-- what is to be shown of the stage where it goes on
pub record Settles (s : Scene) (c : ℕ) (a : AgentData) (t : Task) (st : Stage) (ch : Change) (k : Kept) (after : List ℕ) (next : Stage) : Type 0 where
  pub stays : is_inside next ≡ true
  pub closes : open_at a.geometry next (Some t) ≡ []
  pub none_due : (y : Size) → is_due_at next y ≡ false
  pub sees : SeesAt a.geometry (map_in s) after t next
  pub front : entries_at a.geometry c (length a.answers) next (Some t) ≡ entries_after a.geometry c (length a.answers) t ch
  pub coming : (given : Answer) → coming_at next ≡ given ∷ [] → done_after ch k.generations ≡ given ∷ []
  pub words : AreWords a.geometry (map_in s) (apart_by a.geometry.setup (holders_of (set s.callers c (caller.Agent (goes_to (at_stage a st) next))))) after

module _ {s : Scene} {c : ℕ} {a : AgentData} {t : Task} {st : Stage} {ch : Change} {k : Kept} {n : Option WordName} {after : List ℕ} (is : Completes s c a t st ch k n after) where
  -- the L1 words, where they stay as they are
  words_stay : (next : Stage) → step_of (known_at next) ≡ Apart → AreWords a.geometry (map_in s) (apart_by a.geometry.setup (holders_of (set s.callers c (caller.Agent (goes_to (at_stage a st) next))))) after
  words_stay next same = tables_stay is.acting is.inside next (same ∙ sym is.apart) is.writes is.plain

  -- it waits for the accesses from before
  settles_passing : (d : BarrierData) → Settles s c a t st ch k after (stage.Passing ch d k)
  settles_passing d = record {
    stays = refl;
    closes = refl;
    none_due = λ y. refl;
    sees = record { known = is.known; gives = is.gives; generations = is.generations };
    front = refl;
    coming = λ given same. same;
    words = words_stay (stage.Passing ch d k) refl;
  }

  -- it cleans a line
  settles_cleaning : (l : Line) → Settles s c a t st ch k after (stage.Cleaning ch l k)
  settles_cleaning l = record {
    stays = refl;
    closes = refl;
    none_due = λ y. refl;
    sees = record { known = is.known; gives = is.gives; generations = is.generations };
    front = refl;
    coming = λ given same. same;
    words = words_stay (stage.Cleaning ch l k) refl;
  }

  -- where it is in the list of holders
  holder_apart : slice_get (holders_of s.callers) c ≡ Some (record { granule = granule_of_task a.geometry t; step = Apart })
  holder_apart = holder_at is.acting ∙ ap (λ (x : Step). Some (record { granule = granule_of_task a.geometry t; step = x })) is.apart

  -- the words by the step of merging that follows
  merging_words : (step : Step) (next : Stage) → step_of (known_at next) ≡ step → AreWords a.geometry (map_in s) (apart_by a.geometry.setup (set (holders_of s.callers) c (record { granule = granule_of_task a.geometry t; step = step }))) s.words
      → AreWords a.geometry (map_in s) (apart_by a.geometry.setup (holders_of (set s.callers c (caller.Agent (goes_to (at_stage a st) next))))) after
  merging_words step next same are =
      tables_after is.acting next (map_in s) after
      (subst (λ (x : Step). AreWords a.geometry (map_in s) (apart_by a.geometry.setup (set (holders_of s.callers) c (record { granule = granule_of_task a.geometry t; step = x }))) after) (sym same)
      (words_left is.writes (map_in s) _ is.plain is.acting.stands.shape.geometry are))

-- ---- the last change of an undelegate, after its first one

last_gives : (t : Task) (v : Gpi) → IsChangeOf t change.First → to_of t change.First ≡ v → from_of t change.Last ≡ v
last_gives (task.Delegate pa source) v is gives = absurd is
last_gives (task.Undelegate pa source) v is gives = gives
last_gives task.Unknown v is gives = absurd is
last_gives (task.Look pa space) v is gives = absurd is

last_front : (g : GeometryData) (c n : ℕ) (t : Task) (k : Kept) → IsChangeOf t change.First → entries_at g c n (stage.Changing change.Last k) (Some t) ≡ entries_after g c n t change.First
last_front g c n (task.Delegate pa source) k is = absurd is
last_front g c n (task.Undelegate pa source) k is = refl
last_front g c n task.Unknown k is = absurd is
last_front g c n (task.Look pa space) k is = absurd is

settles_change : {s : Scene} {c : ℕ} {a : AgentData} {t : Task} {st : Stage} {k : Kept} {n : Option WordName} {after : List ℕ} → Completes s c a t st change.First k n after → Settles s c a t st change.First k after (stage.Changing change.Last k)
settles_change {s = s} {c = c} {a = a} {t = t} {k = k} is = record {
  stays = refl;
  closes = refl;
  none_due = λ y. refl;
  sees = record { known = is.known; gives = last_gives t (map_in s (granule_of_task a.geometry t)) is.change is.gives; generations = is.generations };
  front = last_front a.geometry c (length a.answers) t k is.change;
  coming = λ given same. same;
  words = words_stay is (stage.Changing change.Last k) refl;
}

-- ---- merging

-- merging around a word with these sixteen GPIs, if they are equal
abbrev fuse_with : GeometryData → ℕ → Option Gpi → FuseData
fuse_with g index o = record {
  first = place_of g (Level1 0);
  own = index;
  two = words_of g.setup size.Two;
  max = g.setup.max;
  gpi = fuse.gpi_or_none o;
  step = begun g.setup.max o;
}

-- where merging is over its tables are whole
pub merging_step_of : (f : FuseData) (k : Generations) (o : Option Act) → fuse.next_of f ≡ o → step_of (known_at (merging_stage o f k)) ≡ merging_step f.step
merging_step_of f k (Some next) there = refl
merging_step_of f k None over = over_step f.first f.own f.two f.gpi f.step over
  where
    over_step : (first own two : ℕ) (v : Gpi) (step : Fusing) → fuse.act_at first own two v step ≡ None → Whole ≡ merging_step step
    over_step first own two v (Testing z j) over = absurd cc
    over_step first own two v (Storing z j) over = absurd cc
    over_step first own two v (Ended o) over = refl

-- all entries of a transition that is done
all_front : (g : GeometryData) (c n : ℕ) (t : Task) (k : Generations) → IsChangeOf t change.Last → entries_of g c n t (answer.Done k) ≡ entries_after g c n t change.Last
all_front g c n (task.Delegate pa source) k is = refl
all_front g c n (task.Undelegate pa source) k is = refl
all_front g c n task.Unknown k is = absurd is
all_front g c n (task.Look pa space) k is = absurd is

settles_merging : {s : Scene} {c : ℕ} {a : AgentData} {t : Task} {st : Stage} {k : Kept} {n : Option WordName} {after : List ℕ} (is : Completes s c a t st change.Last k n after) (f : FuseData) (o : Option Act) → fuse.next_of f ≡ o
    → Facts a.geometry.setup (map_in s) (granule_of_task a.geometry t) (Merges f.gpi f.step)
    → AreWords a.geometry (map_in s) (apart_by a.geometry.setup (set (holders_of s.callers) c (record { granule = granule_of_task a.geometry t; step = merging_step f.step }))) s.words → Settles s c a t st change.Last k after (merging_stage o f k.generations)
settles_merging {c = c} {a = a} {t = t} {k = k} is f None over known are = record {
  stays = refl;
  closes = refl;
  none_due = λ y. refl;
  sees = record { known = tt; gives = tt; generations = tt };
  front = all_front a.geometry c (length a.answers) t k.generations is.change;
  coming = λ given same. same;
  words = merging_words is (merging_step f.step) (stage.Releasing (answer.Done k.generations)) (merging_step_of f k.generations None over) are;
}
settles_merging {c = c} {a = a} {t = t} {k = k} is f (Some next) there known are = record {
  stays = refl;
  closes = refl;
  none_due = λ y. refl;
  sees = record { known = known; gives = tt; generations = tt };
  front = all_front a.geometry c (length a.answers) t k.generations is.change;
  coming = λ given same. same;
  words = merging_words is (merging_step f.step) (stage.Merging f k.generations) (merging_step_of f k.generations (Some next) there) are;
}

-- the word has sixteen equal GPIs, or there is nothing to merge
settles_by : {s : Scene} {c : ℕ} {a : AgentData} {t : Task} {st : Stage} {k : Kept} {n : Option WordName} {after : List ℕ} (is : Completes s c a t st change.Last k n after) (index : ℕ) (o : Option Gpi) → equal_gpi k.word ≡ o
    → Settles s c a t st change.Last k after (merged_stage (fuse_with a.geometry index o) k.generations)
settles_by {s = s} {c = c} {a = a} {t = t} {k = k} is index None equal =
    let g = a.geometry in
    let granule = granule_of_task g t in
    let none : largest_block g.setup (map_in s) None (granule / 16) ≡ None =
    finds_largest g.setup (map_in s) granule None (inr (inl (λ v same. equal_none k.word equal v (is.known ∙ same)))) in
    record {
      stays = refl;
      closes = refl;
      none_due = λ y. refl;
      sees = record { known = tt; gives = tt; generations = tt };
      front = all_front g c (length a.answers) t k.generations is.change;
      coming = λ given same. same;
      words = merging_words is Whole (stage.Releasing (answer.Done k.generations)) refl
          (no_merge g (map_in s) (holders_of s.callers) c granule s.words (holder_apart is) (alone_there is.acting is.inside) none is.acting.stands.tables.level1);
    }
settles_by {s = s} {c = c} {a = a} {t = t} {k = k} is index (Some v) equal =
    let g = a.geometry in
    let granule = granule_of_task g t in
    let f = fuse_with g index (Some v) in
    let known : Facts g.setup (map_in s) granule (Merges v (begun g.setup.max (Some v))) =
    merges g.setup (map_in s) granule v (subst (λ (w : ℕ). Facts g.setup (map_in s) granule (Keeps w)) (equal_found k.word v equal) is.known) in
    settles_merging is f (fuse.next_of f) refl known
    (load_words g (map_in s) (holders_of s.callers) c granule v f.step s.words (holder_apart is) (alone_there is.acting is.inside) (begun_unstored g.setup.max (Some v)) known.1 is.acting.stands.tables.level1)

settles_last : {s : Scene} {c : ℕ} {a : AgentData} {t : Task} {st : Stage} {k : Kept} {n : Option WordName} {after : List ℕ} → Completes s c a t st change.Last k n after → Settles s c a t st change.Last k after (last_stage a.geometry t k)
settles_last {a = a} {t = t} {k = k} is = settles_by is (number_of (l1_index_of a.geometry (address_of t))) (equal_gpi k.word) refl

-- ---- after the raises, after the barrier, and after a clean

settles_passed : {s : Scene} {c : ℕ} {a : AgentData} {st : Stage} {k : Kept} {n : Option WordName} {after : List ℕ} (t : Task) (ch : Change) → Completes s c a t st ch k n after → Settles s c a t st ch k after (passed_stage a.geometry t ch k)
settles_passed (task.Undelegate pa source) change.Last is = settles_last is
settles_passed (task.Undelegate pa source) change.First is = settles_cleaning is line.Former
settles_passed (task.Delegate pa source) ch is = settles_cleaning is line.Former
settles_passed task.Unknown ch is = absurd is.change
settles_passed (task.Look pa space) ch is = absurd is.change

pub settles_barrier : {s : Scene} {c : ℕ} {a : AgentData} {t : Task} {st : Stage} {ch : Change} {k : Kept} {n : Option WordName} {after : List ℕ} (d : BarrierData) → Completes s c a t st ch k n after
    → Settles s c a t st ch k after (passing_stage a.geometry t ch d k)
settles_barrier {t = t} {ch = ch} d is =
    elim (cases_Bool (ltb d.passed d.cpus)) [ inl more ↦ rw more (settles_passing is d) | inr over ↦ rw over (settles_passed t ch is) ]

pub settles_cleaned : {s : Scene} {c : ℕ} {a : AgentData} {t : Task} {st : Stage} {k : Kept} {n : Option WordName} {after : List ℕ} (ch : Change) (l : Line) → Completes s c a t st ch k n after
    → Settles s c a t st ch k after (cleaned_stage a.geometry t ch l k)
settles_cleaned change.First line.Former is = settles_cleaning is line.NonSecure
settles_cleaned change.First line.NonSecure is = settles_change is
settles_cleaned change.Last l is = settles_last is
