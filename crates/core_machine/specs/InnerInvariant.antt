-- The facts that hold between any two acts, each over what it reads.
use Rattle.std.specs.Prelude.{◌≡◌, ℕ, ◌+◌, ◌*◌, ◌<◌, ◌≤◌, true, false, ◌==◌, List, [], ◌∷◌, ◌++◌, length, map, count_by, slice_get, slice_index, Some}
use Rattle.std.specs.List.{All, filter, flat_map, list_any}
use Rattle.gpi_values.specs.declared.gpi.Gpi.{Gpi}
use Rattle.gpt_descriptors.specs.declared.size.Size.{Size}
use Rattle.gpt_descriptors.specs.Sizes.{SetupData, granule_bytes, space_granules}
use Rattle.gpt_descriptors.specs.Places.{GeometryData, IsGeometry, Duty, Level1, place_of, l0_words, word_count, blocks_in_region}
use Rattle.bit_locks.specs.Locks.{lock_bit}
use Rattle.table_meaning.specs.Meaning.{BlocksMean}
use Rattle.table_meaning.specs.Equation.{apart_by, AreWords}
use Rattle.history.specs.declared.call.Task.{Task}
use Rattle.history.specs.declared.call.Answer.{Answer}
use Rattle.history.specs.declared.entry.Entry.{Entry}
use Rattle.history.specs.Entries.{caller_in}
use Rattle.history.specs.States.{State, start, after_entry}
use Rattle.history.specs.Legality.{StateAllows}
use Rattle.history.specs.Calls.{entries_by}
use Rattle.history.specs.Counts.{is_by, count_of}
use Rattle.core_machine.specs.declared.caller.Caller.{Caller}
use Rattle.core_machine.specs.Facts.{AreUndisturbed, IsCounted, generation_word, is_on_block}
use Rattle.core_machine.specs.InnerCallers.{IsMade, call_of, caller_tasks, known_answers, own_of, holds, open_by, is_due, holder_by, number_by, duty_by, walks_by, HasLoaded, HasOwnStamps, Sees}
use Rattle.walk_cache.specs.declared.walk.Walk.{Walk}
use Rattle.core_machine.specs.InnerWalks.{In, WalkHolds, PairsNumbered}
use Rattle.core_machine.specs.InnerLines.{DecisionsHold, LinesHold, TouchesHold}
use Rattle.core_machine.specs.InnerScene.{Scene, state_in, map_in}

pub record HasShape (g : GeometryData) (s : Scene) : Type 0 where
  pub geometry : IsGeometry g
  pub size : length s.words ≡ word_count g
  pub granules : length s.first ≡ space_granules g.setup
  pub made : All (IsMade g) s.callers

-- ---- tables

-- the L1 word with this number among all L1 words
abbrev pub table_word : GeometryData → List ℕ → ℕ → ℕ
table_word g words i = slice_index words (place_of g (Level1 i))

-- Each L1 word is the canonical word of the map, apart from a granule or not by where the callers
-- are, and each granule below an L0 block has the block's GPI in the map.
pub record AreTables (g : GeometryData) (words : List ℕ) (callers : List Caller)
    (m : ℕ → Gpi) : Type 0 where
  pub level1 : AreWords g m (apart_by g.setup (map holder_by callers)) words
  pub blocks : BlocksMean g.setup (l0_words g) m

-- ---- locks

-- A lock bit is the number of its holders: it is clear where there is none, and there is never a
-- second one.
abbrev pub LocksAreHeld : List ℕ → List Caller → Type 0
LocksAreHeld words callers = (n : ℕ) → n < 128 → lock_bit words n ≡ count_by (holds n) callers

-- ---- changes that aren't complete

-- the pairs of a granule
abbrev pub pairs_of : ℕ → List (ℕ × Gpi) → List (ℕ × Gpi)
pairs_of granule pairs = filter (λ pair. pair.0 == granule) pairs

-- Of each granule, what is open is what the callers hold open.
abbrev pub OpenAreHeld : List (ℕ × Gpi) → List Caller → Type 0
OpenAreHeld opened callers =
    (granule : ℕ) → pairs_of granule opened ≡ pairs_of granule (flat_map open_by callers)

-- Each generation is the count of its region, less the changes whose callers haven't raised it yet.
abbrev pub GenerationsCount : GeometryData → List ℕ → List Caller → List Entry → Type 0
GenerationsCount g words callers h =
    (y : Size) (region : ℕ) → region < blocks_in_region y * g.setup.gigabytes
    → generation_word g words y region + count_by (is_due y region) callers
    ≡ count_of g.setup.first (granule_bytes g.setup) y region h

-- ---- duty words

-- The duty word of each processor is 1 between the first and the last act of an access, else 0.
abbrev pub DutyOfEach : GeometryData → List ℕ → List Caller → Type 0
DutyOfEach g words callers =
    (c p : ℕ) (caller : Caller) → slice_get callers c ≡ Some caller → number_by caller ≡ Some p
    → slice_index words (place_of g (Duty p)) ≡ duty_by caller

-- A duty word whose number no processor has is 0.
abbrev pub OthersAreOff : GeometryData → List ℕ → List Caller → Type 0
OthersAreOff g words callers =
    (p : ℕ) → p < g.cpus
    → ((c : ℕ) (caller : Caller) → slice_get callers c ≡ Some caller → number_by caller ≡ Some p → ⊥)
    → slice_index words (place_of g (Duty p)) ≡ 0

-- No two processors have one number.
abbrev pub NumbersDiffer : List Caller → Type 0
NumbersDiffer callers =
    (c d p : ℕ) (caller other : Caller)
    → slice_get callers c ≡ Some caller → slice_get callers d ≡ Some other
    → number_by caller ≡ Some p → number_by other ≡ Some p → c ≡ d

-- ---- generations

-- Each generation is at least the first one.
abbrev pub LeastGenerations : GeometryData → List ℕ → Type 0
LeastGenerations g words =
    (y : Size) (region : ℕ) → region < blocks_in_region y * g.setup.gigabytes
    → g.setup.first ≤ generation_word g words y region

-- ---- calls that are alone

-- since call k of caller c took lock n, no other has made an entry on its lock block
pub record IsAlone (s : SetupData) (n c k : ℕ) (h : List Entry) : Type 0 where
  pub before : List Entry
  pub since : List Entry
  pub parts : h ≡ before ++ since
  pub fresh : list_any (is_by c k) before ≡ false
  pub alone : All (λ e. is_on_block s n e ≡ true → is_by c k e ≡ true) since

abbrev pub HoldersAreAlone : SetupData → List Caller → List Entry → Type 0
HoldersAreAlone s callers h =
    (c n : ℕ) (caller : Caller) → slice_get callers c ≡ Some caller → holds n caller ≡ true
    → IsAlone s n c (call_of caller) h

-- ---- the history

-- answers are the counts of the history
abbrev pub AnswersCount : GeometryData → List Caller → List Entry → Type 0
AnswersCount g callers h =
    (c k : ℕ) (caller : Caller) (t : Task) (given : Answer) → slice_get callers c ≡ Some caller
    → slice_get (caller_tasks caller) k ≡ Some t
    → slice_get (known_answers caller) k ≡ Some given → IsCounted g c k t given h

-- each entry is allowed by the state that the entries before it leave
abbrev pub AreAllowed : State → List Entry → Type 0
AreAllowed s [] = Unit {0}
AreAllowed s (e ∷ h) = StateAllows s e × AreAllowed (after_entry s e) h

-- The history goes through states that allow it, and has each caller's own entries in their order,
-- and no others.
pub record IsHistoryOf (first : List Gpi) (callers : List Caller) (h : List Entry) : Type 0 where
  pub allowed : AreAllowed (start first) h
  pub own : (c : ℕ) (caller : Caller) → slice_get callers c ≡ Some caller
      → entries_by c h ≡ own_of c caller
  pub known : All (λ e. caller_in e < length callers) h

-- ---- the whole

-- The words and callers of a scene fit its history from its first map.
pub record HoldsIn (g : GeometryData) (s : Scene) : Type 0 where
  pub shape : HasShape g s
  pub tables : AreTables g s.words s.callers (map_in s)
  pub opened : OpenAreHeld (state_in s).opened s.callers
  pub locks : LocksAreHeld s.words s.callers
  pub seen : (c : ℕ) (caller : Caller) → slice_get s.callers c ≡ Some caller
      → Sees (map_in s) s.words caller
  pub generations : GenerationsCount g s.words s.callers s.history
  pub undisturbed : AreUndisturbed g.setup s.history
  pub alone : HoldersAreAlone g.setup s.callers s.history
  pub counted : AnswersCount g s.callers s.history
  pub history : IsHistoryOf s.first s.callers s.history
  pub duties : DutyOfEach g s.words s.callers
  pub others : OthersAreOff g s.words s.callers
  pub numbers : NumbersDiffer s.callers
  pub decisions : DecisionsHold (map_in s) s.history s.callers
  pub lines : LinesHold g s.words (map_in s) s.history s.callers
  pub touches : TouchesHold g s.words (map_in s) s.history s.callers
  pub least : LeastGenerations g s.words
  pub loads : (c : ℕ) (caller : Caller) → slice_get s.callers c ≡ Some caller
      → HasLoaded s.words caller
  pub stamps : (c : ℕ) (caller : Caller) → slice_get s.callers c ≡ Some caller
      → HasOwnStamps s.first s.history c caller
  pub walks : (c : ℕ) (caller : Caller) → slice_get s.callers c ≡ Some caller
      → (w : Walk) → In w (walks_by caller) → WalkHolds g s.words (map_in s) s.callers w
  pub pairs : PairsNumbered g s.first s.words s.callers s.history
