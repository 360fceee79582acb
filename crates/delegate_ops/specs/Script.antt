-- The script of a transition: its acts in their order, each with the word that it answered and the
-- entries that it makes in the history. It goes through what TF-A's gpt_delegate_pas and
-- gpt_undelegate_pas do, with splitting (shattering) first and merging (fusing) last, in an order of
-- this project's own. An agent is shown to follow it.
use Rattle.std.specs.Prelude.{◌≡◌, ◌≢◌, ◌⊎◌, ℕ, zero, suc, ◌+◌, ◌/◌, List, [], ◌∷◌, ◌++◌, length, map, slice_get, Option, Some, None, MatchOption}
use Rattle.std.specs.List.{All}
use Rattle.std.specs.Int.Bits.{bit_and}
use Rattle.gpi_values.specs.declared.gpi.Space.{Space}
use Rattle.gpi_values.specs.declared.gpi.Space.TheVariants as space
use Rattle.gpt_descriptors.specs.declared.size.Size.TheVariants as size
use Rattle.gpt_descriptors.specs.declared.size.Generations.{Generations}
use Rattle.gpt_descriptors.specs.Sizes.{granule_bytes}
use Rattle.gpt_descriptors.specs.Entries.{l1_entry}
use Rattle.gpt_descriptors.specs.Places.{GeometryData, l1_index_of, l1_place_of}
use Rattle.shared_words.specs.Events.{Event}
use Rattle.shared_words.specs.declared.act.Act.{Act}
use Rattle.shared_words.specs.declared.act.Act.TheVariants as act
use Rattle.fuse.specs.declared.outcome.Fused.{Fused}
use Rattle.fuse.specs.Merging.{around_of}
use Rattle.fuse.specs.Script.{IsMerging}
use Rattle.bit_locks.specs.declared.lock.Bit.{Bit}
use Rattle.bit_locks.specs.Locks.{lock_number, bit_with, take_act, release_act}
use Rattle.invalidate.specs.Generations.{gen_load_of, gen_raise_of}
use Rattle.invalidate.specs.Duty.{barrier_load}
use Rattle.alias_clean.specs.Lines.{clean_of}
use Rattle.history.specs.declared.call.Task.{Task}
use Rattle.history.specs.declared.call.Task.TheVariants as task
use Rattle.history.specs.declared.call.Answer.{Answer}
use Rattle.history.specs.declared.call.Answer.TheVariants as answer
use Rattle.history.specs.declared.entry.Entry.{Entry}
use Rattle.history.specs.declared.entry.Entry.TheVariants as entry
use Rattle.history.specs.Calls.{call_entries}
use Rattle.history.specs.Events.{CallEvent, Step, plain, plain_step, plain_event}
use Rattle.delegate_ops.specs.declared.stage.Change.{Change}
use Rattle.delegate_ops.specs.declared.stage.Change.TheVariants as change
use Rattle.delegate_ops.specs.declared.stage.Kept.{Kept}
use Rattle.delegate_ops.specs.Deciding.{address_of, idle_answer, looked_answer, worn_answer}
use Rattle.delegate_ops.specs.Changing.{from_of, to_of, own_space, changed_word, raised, split_stores, word_split}

-- ---- the parts of a transition

-- the lock bit of a task's address
abbrev pub lock_bit_of : GeometryData → Task → Bit
lock_bit_of g t = bit_with (lock_number g.setup (address_of t))

-- the granule of a task
abbrev pub granule_of_task : GeometryData → Task → ℕ
granule_of_task g t = address_of t / granule_bytes g.setup

-- the lock was tried and wasn't free
abbrev pub IsWait : GeometryData → Task → CallEvent → Type 0
IsWait g t e = (e.act ≡ take_act (lock_bit_of g t)) × (bit_and e.old (lock_bit_of g t).mask ≢ 0)
    × (e.made ≡ [])

-- first, the lock is tried until it was free
pub record TakesLock (g : GeometryData) (t : Task) (events : List CallEvent) : Type 0 where
  pub waits : List CallEvent
  pub free : ℕ
  pub held : All (IsWait g t) waits
  pub clear : bit_and free (lock_bit_of g t).mask ≡ 0
  pub parts : events ≡ waits ++ plain (take_act (lock_bit_of g t)) free ∷ []

-- second, the L1 word is loaded
pub record Looks (g : GeometryData) (t : Task) (place word : ℕ) (made : List Entry)
    (events : List CallEvent) : Type 0 where
  pub locking : List CallEvent
  pub locked : TakesLock g t locking
  pub there : l1_place_of g (address_of t) ≡ Some place
  pub parts : events ≡ locking ++ record { act = act.Load place; old = word; made = made } ∷ []

-- third, where it has the needed GPI, the three generations are loaded
abbrev pub reads : GeometryData → ℕ → Generations → List Entry → List CallEvent
reads g pa k made =
    plain (gen_load_of g size.Two pa) k.two ∷ plain (gen_load_of g size.ThirtyTwo pa) k.thirty_two
    ∷ record { act = gen_load_of g size.FiveTwelve pa; old = k.five_twelve; made = made } ∷ []

pub record Reads (g : GeometryData) (t : Task) (place word : ℕ) (k : Generations)
    (made : List Entry) (events : List CallEvent) : Type 0 where
  pub looking : List CallEvent
  pub looked : Looks g t place word [] looking
  pub needed : looked_answer g t word ≡ None
  pub parts : events ≡ looking ++ reads g (address_of t) k made

-- fourth, where none is worn, a contiguous block is split; fifth, the granule is changed, after each
-- change the generations are raised and a barrier waits for the accesses from before, and the lines
-- of the granule are cleaned
abbrev pub change_entry : GeometryData → ℕ → ℕ → Task → Change → Entry
change_entry g c n t ch = entry.Changed c n (granule_of_task g t) (from_of t ch) (to_of t ch)

abbrev pub completion : GeometryData → ℕ → ℕ → Task → Entry
completion g c n t = entry.Settled c n (granule_of_task g t)

-- What comes after the loads is a list of parts: a step, or a whole barrier.
pub data Part : Type 0 where
  Makes : Step → Part
  Passes : Part

-- a barrier passes a processor: its duty word is loaded until it was 0
abbrev pub IsBusy : GeometryData → ℕ → CallEvent → Type 0
IsBusy g cpu e = (e.act ≡ barrier_load g cpu) × (e.old ≢ 0) × (e.made ≡ [])

pub record IsPassed (g : GeometryData) (cpu : ℕ) (events : List CallEvent) : Type 0 where
  pub waits : List CallEvent
  pub busy : All (IsBusy g cpu) waits
  pub parts : events ≡ waits ++ plain (barrier_load g cpu) 0 ∷ []

-- it passes the first n processors, one after another
abbrev pub ArePassed : GeometryData → ℕ → List CallEvent → Type 0
ArePassed g zero events = events ≡ []
ArePassed g (suc n) events =
    (before : List CallEvent) × (own : List CallEvent) × (events ≡ before ++ own)
    × ArePassed g n before × IsPassed g n own

-- the events are those of these parts: a step whatever it answers, a barrier over all processors
abbrev pub AreParts : GeometryData → List Part → List CallEvent → Type 0
AreParts g [] events = events ≡ []
AreParts g (Makes step ∷ parts) events =
    (old : ℕ) × (rest : List CallEvent)
    × (events ≡ record { act = step.act; old = old; made = step.made } ∷ rest)
    × AreParts g parts rest
AreParts g (Passes ∷ parts) events =
    (barrier : List CallEvent) × (rest : List CallEvent) × (events ≡ barrier ++ rest)
    × ArePassed g g.cpus barrier × AreParts g parts rest

abbrev pub plain_part : Act → Part
plain_part act = Makes (plain_step act)

-- the line of the granule and a space is cleaned
abbrev pub cleaned : Option Act → List Part
cleaned None = []
cleaned (Some clean) = plain_part clean ∷ []

abbrev pub cleans : GeometryData → Task → Space → List Part
cleans g t s = cleaned (clean_of g (address_of t) s)

-- the raises, of which the third completes the change, and the barrier after them
abbrev pub last_raise : GeometryData → ℕ → ℕ → Task → Generations → Part
last_raise g c n t k = Makes (record {
  act = gen_raise_of g size.FiveTwelve (address_of t) k.five_twelve;
  made = completion g c n t ∷ [];
})

abbrev pub raises : GeometryData → ℕ → ℕ → Task → Generations → List Part
raises g c n t k =
    plain_part (gen_raise_of g size.Two (address_of t) k.two)
    ∷ plain_part (gen_raise_of g size.ThirtyTwo (address_of t) k.thirty_two)
    ∷ last_raise g c n t k ∷ Passes ∷ []

-- a change with its raises and its barrier
abbrev pub change_parts : GeometryData → ℕ → ℕ → Task → ℕ → Change → Kept → List Part
change_parts g c n t place ch k =
    Makes (record {
      act = act.Store place (changed_word g t ch k.word);
      made = change_entry g c n t ch ∷ [];
    })
    ∷ raises g c n t k.generations

-- what is kept after them
abbrev pub kept_after : GeometryData → Task → Change → Kept → Kept
kept_after g t ch k = record {
  word = changed_word g t ch k.word;
  generations = raised k.generations;
}

-- A delegate cleans the line of its target's space, makes its last change alone, and cleans the
-- Non-secure one. An undelegate goes through no access first, cleans the lines of both spaces, and
-- then makes its last change.
abbrev pub transition_parts : GeometryData → ℕ → ℕ → Task → ℕ → Kept → List Part
transition_parts g c n (task.Delegate pa source) place k =
    cleans g (task.Delegate pa source) (own_space source)
    ++ (change_parts g c n (task.Delegate pa source) place change.Last k
    ++ cleans g (task.Delegate pa source) space.NonSecure)
transition_parts g c n (task.Undelegate pa source) place k =
    change_parts g c n (task.Undelegate pa source) place change.First k
    ++ (cleans g (task.Undelegate pa source) (own_space source)
    ++ (cleans g (task.Undelegate pa source) space.NonSecure
    ++ change_parts g c n (task.Undelegate pa source) place change.Last
    (kept_after g (task.Undelegate pa source) change.First k)))
transition_parts g c n t place k = []

-- what is kept after the splitting, and all parts from it up to merging
abbrev pub kept_split : Kept → Kept
kept_split k = record { word = word_split k.word (l1_entry k.word); generations = k.generations }

abbrev pub all_parts : GeometryData → ℕ → ℕ → Task → ℕ → Kept → List Part
all_parts g c n t place k =
    map plain_part (split_stores g (address_of t) place (l1_entry k.word))
    ++ transition_parts g c n t place (kept_split k)

-- the L1 word after the last change
abbrev pub last_word : GeometryData → Task → ℕ → ℕ
last_word g (task.Undelegate pa source) word =
    changed_word g (task.Undelegate pa source) change.Last
    (changed_word g (task.Undelegate pa source) change.First word)
last_word g t word = changed_word g t change.Last word

-- the generations last stored, which the call is answered
abbrev pub last_generations : Task → Generations → Generations
last_generations (task.Undelegate pa source) k = raised (raised k)
last_generations t k = raised k

-- ---- by its answer, all events of a transition before its unlock

-- the entries of call n of caller c by its answer
abbrev pub entries_of : GeometryData → ℕ → ℕ → Task → Answer → List Entry
entries_of g c n t given = call_entries (granule_bytes g.setup) c n t given

-- it was refused by the loaded word, and this load makes its entry
pub record IsRefused (g : GeometryData) (c n : ℕ) (t : Task) (given : Answer)
    (events : List CallEvent) : Type 0 where
  pub place : ℕ
  pub word : ℕ
  pub looked : Looks g t place word (entries_of g c n t given) events
  pub refused : looked_answer g t word ≡ Some given

-- it was refused by a loaded generation, and the third load makes its entry
pub record IsWornOut (g : GeometryData) (c n : ℕ) (t : Task) (given : Answer)
    (events : List CallEvent) : Type 0 where
  pub place : ℕ
  pub word : ℕ
  pub generations : Generations
  pub read : Reads g t place word generations (entries_of g c n t given) events
  pub worn : worn_answer generations ≡ Some given

-- it goes on to change its granule, and has made these parts after its loads
pub record Changes (g : GeometryData) (t : Task) (place : ℕ) (k : Kept) (made : List Part)
    (events : List CallEvent) : Type 0 where
  pub reading : List CallEvent
  pub changing : List CallEvent
  pub read : Reads g t place k.word k.generations [] reading
  pub fresh : worn_answer k.generations ≡ None
  pub steps : AreParts g made changing
  pub parts : events ≡ reading ++ changing

-- sixth, what is around its word is merged, by the loads and stores of a whole merging
pub record Merges (g : GeometryData) (t : Task) (word : ℕ) (events : List CallEvent) : Type 0 where
  pub index : ℕ
  pub there : l1_index_of g (address_of t) ≡ Some index
  pub outcome : Fused
  pub merging : List Event
  pub whole : IsMerging (around_of g index word) outcome merging
  pub parts : events ≡ map plain_event merging

-- it is done
pub record IsDone (g : GeometryData) (c n : ℕ) (t : Task) (given : Answer) (events : List CallEvent)
    : Type 0 where
  pub place : ℕ
  pub kept : Kept
  pub changing : List CallEvent
  pub merging : List CallEvent
  pub changes : Changes g t place kept (all_parts g c n t place kept) changing
  pub merges : Merges g t (last_word g t (kept_split kept).word) merging
  pub parts : events ≡ changing ++ merging
  pub is : given ≡ answer.Done (last_generations t kept.generations)

abbrev pub Decides : GeometryData → ℕ → ℕ → Task → Answer → List CallEvent → Type 0
Decides g c n t given events =
    IsRefused g c n t given events ⊎ (IsWornOut g c n t given events ⊎ IsDone g c n t given events)

-- last, the lock is released
pub record Releases (g : GeometryData) (c n : ℕ) (t : Task) (given : Answer)
    (events : List CallEvent) : Type 0 where
  pub deciding : List CallEvent
  pub left : ℕ
  pub decided : Decides g c n t given deciding
  pub parts : events ≡ deciding ++ plain (release_act (lock_bit_of g t)) left ∷ []

-- ---- the calls of an agent

-- the events of call n of caller c with this answer: none where its task has no acts
abbrev pub IsCall : GeometryData → ℕ → ℕ → Task → Option Answer → Answer → List CallEvent → Type 0
IsCall g c n t (Some idle) given events = (idle ≡ given) × (events ≡ [])
IsCall g c n t None given events = Releases g c n t given events

-- the events of the answered calls, from call n on, in their order
abbrev pub AreCallEvents : GeometryData → ℕ → ℕ → List Task → List Answer → List CallEvent → Type 0
AreCallEvents g c n tasks [] events = events ≡ []
AreCallEvents g c n [] (a ∷ answers) events = ⊥
AreCallEvents g c n (t ∷ tasks) (a ∷ answers) events =
    (own : List CallEvent) × (rest : List CallEvent) × (events ≡ own ++ rest)
    × IsCall g c n t (idle_answer g t) a own × AreCallEvents g c (n + 1) tasks answers rest

-- The call under way has acts, and its events are a proper prefix of those that the script allows
-- it.
pub record IsUnderWay (g : GeometryData) (c n : ℕ) (t : Task) (events : List CallEvent)
    : Type 0 where
  pub acts : idle_answer g t ≡ None
  pub rest : List CallEvent
  pub given : Answer
  pub whole : Releases g c n t given (events ++ rest)
  pub proper : rest ≢ []

-- An agent that is caller c follows its script: its events are those of its answered calls, whole
-- and in their order, and then those of the next call, if there is one.
pub record Follows (g : GeometryData) (c : ℕ) (tasks : List Task) (answers : List Answer)
    (events : List CallEvent) : Type 0 where
  pub calls : List CallEvent
  pub last : List CallEvent
  pub parts : events ≡ calls ++ last
  pub answered : AreCallEvents g c 0 tasks answers calls
  pub under_way : MatchOption (slice_get tasks (length answers))
      (last ≡ []) (λ t. IsUnderWay g c (length answers) t last)
