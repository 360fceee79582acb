-- What callers leave fits a history: over plain data, with no scenario and no schedule.
use Rattle.std.specs.Prelude.{◌≡◌, ◌⊎◌, ℕ, ◌+◌, ◌*◌, ◌<◌, Bool, true, false, not, ◌&&◌, ◌==◌, List, ◌∷◌, ◌++◌, length, slice_index, Option, Some, None, MatchOption}
use Rattle.std.specs.List.{All, list_any}
use Rattle.gpi_values.specs.declared.gpi.Gpi.{Gpi}
use Rattle.gpi_values.specs.declared.gpi.Space.{Space}
use Rattle.gpi_values.specs.Values.{permits_of}
use Rattle.gpt_descriptors.specs.declared.size.Size.{Size}
use Rattle.gpt_descriptors.specs.Sizes.{SetupData, granule_bytes, word_bytes, size_bytes}
use Rattle.gpt_descriptors.specs.Canonical.{canonical_word}
use Rattle.gpt_descriptors.specs.Level0.{l1_index}
use Rattle.gpt_descriptors.specs.Places.{GeometryData, Duty, place_of, l0_words, blocks_in_region, word_count, block_gpi_of}
pub use Rattle.gpt_descriptors.specs.Places.{table_part, generation_word}
use Rattle.table_meaning.specs.Meaning.{TablesMean, AreCanonical}
use Rattle.bit_locks.specs.Locks.{lock_number, lock_bit}
use Rattle.history.specs.declared.call.Task.{Task}
use Rattle.history.specs.declared.call.Task.TheVariants as task
use Rattle.history.specs.declared.call.Answer.{Answer}
use Rattle.history.specs.declared.call.Answer.TheVariants as answer
use Rattle.history.specs.declared.entry.Entry.{Entry}
use Rattle.history.specs.declared.entry.Entry.TheVariants as entry
use Rattle.history.specs.Entries.{changes_granule}
use Rattle.history.specs.States.{start, state_after}
use Rattle.history.specs.Legality.{needed, is_still, IsSeen}
use Rattle.history.specs.Calls.{task_at, answer_at, IsLegalHistory, HasCalls}
use Rattle.history.specs.Stamps.{HasStamps, gpi_after}
use Rattle.history.specs.Rings.{HasRings}
use Rattle.history.specs.Counts.{is_by, count_of, AreDoneCounts, IsWornCount}
use Rattle.delegate_ops.specs.Deciding.{is_look, HasCause}
use Rattle.delegate_ops.specs.Script.{granule_of_task}
use Rattle.processor.specs.Accesses.{block_answer}
use Rattle.core_machine.specs.Scenarios.{map_at}
use Rattle.core_machine.specs.Lines.{AreAtRest, AreCleaned, AreTouched}

-- ---- transitions on one lock block

-- the granule is in lock block n
abbrev pub is_in_block : SetupData → ℕ → ℕ → Bool
is_in_block s n granule = lock_number s (granule * granule_bytes s) == n

-- an entry of a transition on a granule of lock block n
abbrev pub is_on_block : SetupData → ℕ → Entry → Bool
is_on_block s n (entry.Refused c k granule found) = is_in_block s n granule
is_on_block s n (entry.Changed c k granule from to) = is_in_block s n granule
is_on_block s n (entry.Settled c k granule) = is_in_block s n granule
is_on_block s n (entry.Looked c k granule space gpi allowed) = false

-- an entry on a lock block between two entries of a call on that block is of that call
abbrev pub AreUndisturbed : SetupData → List Entry → Type 0
AreUndisturbed s h =
    (before after : List Entry) (e : Entry) (c k n : ℕ) → h ≡ before ++ e ∷ after
    → list_any (λ x. is_by c k x && is_on_block s n x) before ≡ true
    → list_any (λ x. is_by c k x && is_on_block s n x) after ≡ true
    → is_on_block s n e ≡ true → is_by c k e ≡ true

-- after an entry of a call without an answer, no other call has an entry on its lock block
abbrev pub AreAlone : SetupData → List (List Answer) → List Entry → Type 0
AreAlone s answers h =
    (before after : List Entry) (e : Entry) (c k n : ℕ) → h ≡ before ++ e ∷ after
    → answer_at answers c k ≡ None
    → is_by c k e ≡ true → is_on_block s n e ≡ true
    → All (λ x. is_on_block s n x ≡ true → is_by c k x ≡ true) after

-- ---- accesses

-- the answer is of an access below an L0 table, by a walk that it made or that was kept
abbrev pub is_at_table : Answer → Bool
is_at_table (answer.Seen access) = not (is_still access.via)
is_at_table given = false

-- an access in an L0 block is answered by the block's GPI, any other by a walk
abbrev pub IsAccessAnswer : GeometryData → ℕ → Space → Answer → Type 0
IsAccessAnswer g pa space given =
    MatchOption (block_gpi_of g pa) (is_at_table given ≡ true) (λ gpi. given ≡ block_answer space gpi)

-- An access that is decided after a change of its granule is complete, and before the next change
-- of it, is decided, allowed and answered by the GPI that the map gives the granule there.
abbrev pub AreFinal : List Gpi → List (List Answer) → List Entry → Type 0
AreFinal first answers h =
    (before between after : List Entry) (c k d j granule : ℕ) (space : Space) (gpi : Gpi)
    (allowed : Bool) → h ≡ before ++ entry.Settled c k granule
    ∷ (between ++ entry.Looked d j granule space gpi allowed ∷ after)
    → list_any (changes_granule granule) between ≡ false
    → (gpi_after first (before ++ entry.Settled c k granule ∷ between) granule ≡ Some gpi)
    × (allowed ≡ permits_of gpi space)
    × ((given : Answer) → answer_at answers d j ≡ Some given → IsSeen given gpi allowed)

-- ---- counts

-- the generations that call k of caller c is answered are the counts of the history
abbrev pub IsCounted : GeometryData → ℕ → ℕ → Task → Answer → List Entry → Type 0
IsCounted g c k t (answer.Done given) h =
    AreDoneCounts g.setup.first (granule_bytes g.setup) c k (granule_of_task g t) given h
IsCounted g c k t (answer.Worn z value) h =
    IsWornCount g.setup.first (granule_bytes g.setup) c k (granule_of_task g t) z value h
IsCounted g c k t given h = Unit {0}

-- a call without an answer that is refused with the GPI that it needs has a generation to report as
-- worn
abbrev pub AreWorn : GeometryData → List (List Task) → List (List Answer) → List Entry → Type 0
AreWorn g tasks answers h =
    (before after : List Entry) (c k granule : ℕ) (found : Gpi) (t : Task)
    → h ≡ before ++ entry.Refused c k granule found ∷ after
    → task_at tasks c k ≡ Some t → answer_at answers c k ≡ None → needed t ≡ Some found
    → (z : Size) × (value : ℕ) × IsCounted g c k t (answer.Worn z value) h

-- ---- the whole

-- the map that a history leaves, as a function
abbrev pub map_after : List Gpi → List Entry → ℕ → Gpi
map_after first h = map_at (state_after (start first) h).map

-- what a history counts for a region of a size
abbrev pub count_for : GeometryData → Size → ℕ → List Entry → ℕ
count_for g y region h = count_of g.setup.first (granule_bytes g.setup) y region h

-- each call has an answer
abbrev pub AllAnswered : List (List Task) → List (List Answer) → Type 0
AllAnswered tasks answers =
    (c k : ℕ) (t : Task) → task_at tasks c k ≡ Some t → answer_at answers c k ≡ None → ⊥

-- Answers and words fit a history from a first map: it is legal, it has the entries of each call
-- once and in its caller's order, and the words are those of its last map, its counts and its accesses,
-- apart from what calls without an answer have under way.
pub record FitsHistory (g : GeometryData) (first : List Gpi) (tasks : List (List Task))
    (answers : List (List Answer)) (words : List ℕ) (h : List Entry) : Type 0 where
  pub many : length answers ≡ length tasks
  pub size : length words ≡ word_count g
  pub legal : IsLegalHistory (granule_bytes g.setup) tasks answers (start first) h
  pub calls : HasCalls (granule_bytes g.setup) tasks answers h
  -- the answers of transitions by their causes, and the generations of Done and Worn
  pub causes : (c k : ℕ) (t : Task) (given : Answer) → task_at tasks c k ≡ Some t
      → answer_at answers c k ≡ Some given → is_look t ≡ false → HasCause g t given
  -- the answers of accesses
  pub looks : (c k pa : ℕ) (space : Space) (given : Answer)
      → task_at tasks c k ≡ Some (task.Look pa space) → answer_at answers c k ≡ Some given
      → IsAccessAnswer g pa space given
  pub counts : (c k : ℕ) (t : Task) (given : Answer) → task_at tasks c k ≡ Some t
      → answer_at answers c k ≡ Some given → IsCounted g c k t given h
  pub worn : AreWorn g tasks answers h
  -- an access decided after a change is complete isn't granted by the former GPI
  pub final : AreFinal first answers h
  -- the generations that accesses are answered
  pub stamps : HasStamps first g.setup.first (granule_bytes g.setup) tasks answers h
  -- which kept walk an access found, and whether it was hit
  pub rings : HasRings g.setup.ring tasks answers
  -- transitions on one lock block don't mix
  pub undisturbed : AreUndisturbed g.setup h
  pub alone : AreAlone g.setup answers h
  -- the tables mean the last map; each word is canonical apart from one granule at most, and from
  -- none where the lock of its block is clear
  pub tables : TablesMean g.setup (l0_words g) (table_part g words) (map_after first h)
  pub canonical : (w i : ℕ) → l1_index g.setup (l0_words g) w ≡ Some i
      → (apart : Option ℕ)
      × (slice_index (table_part g words) i ≡ canonical_word g.setup (map_after first h) apart w)
      × (lock_bit words (lock_number g.setup (w * word_bytes g.setup)) ≡ 0 → apart ≡ None)
  -- a generation is the count of its region, or one less while its lock is held
  pub generations : (y : Size) (region : ℕ) → region < blocks_in_region y * g.setup.gigabytes
      → (generation_word g words y region ≡ count_for g y region h)
      ⊎ ((generation_word g words y region + 1 ≡ count_for g y region h)
      × (lock_bit words (lock_number g.setup (region * size_bytes y)) ≡ 1))
  -- where each call is answered no lock is held, so that all words are canonical
  pub ended : AllAnswered tasks answers → (n : ℕ) → n < 128 → lock_bit words n ≡ 0
  pub whole : AllAnswered tasks answers
      → AreCanonical g.setup (l0_words g) (table_part g words) (map_after first h)
  -- where each call is answered no access is under way
  pub duty : AllAnswered tasks answers → (cpu : ℕ) → cpu < g.cpus
      → slice_index words (place_of g (Duty cpu)) ≡ 0
  -- a line beside a lock that isn't held is by the map and the allowed accesses since the last change
  pub cleaned : AreCleaned g words (map_after first h) h
  -- and each such line is resident while no access is under way
  pub touched : AreTouched g words (map_after first h) h
  -- where each call is answered the resident lines are exactly those
  pub lines : AllAnswered tasks answers → AreAtRest g words (map_after first h) h
