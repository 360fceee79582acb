-- An agent as a caller: what each fact of the core reads of it.
use Rattle.std.specs.Prelude.{◌≡◌, ℕ, ◌-◌, Bool, true, false, not, ◌&&◌, ◌==◌, nat_lt, List, [], ◌∷◌, ◌++◌, length, slice_index, Option, Some, None, if◌then◌else◌}
use Rattle.gpi_values.specs.declared.gpi.Gpi.{Gpi}
use Rattle.gpt_descriptors.specs.declared.size.Size.{Size}
use Rattle.gpt_descriptors.specs.declared.size.Size.TheVariants as size
use Rattle.gpt_descriptors.specs.declared.size.Generations.{Generations}
use Rattle.gpt_descriptors.specs.Sizes.{granule_bytes}
use Rattle.gpt_descriptors.specs.Places.{GeometryData, gen_place_of}
use Rattle.bit_locks.specs.Locks.{lock_number}
use Rattle.table_meaning.specs.Equation.{Holder}
use Rattle.table_meaning.specs.Facts as facts
use Rattle.table_meaning.specs.Facts.{Facts}
use Rattle.history.specs.declared.call.Task.{Task}
use Rattle.history.specs.declared.call.Answer.{Answer}
use Rattle.history.specs.declared.call.Answer.TheVariants as answer
use Rattle.history.specs.declared.entry.Entry.{Entry}
use Rattle.history.specs.Legality.{needed}
use Rattle.history.specs.Calls.{answered_entries}
use Rattle.history.specs.Counts.{region_of}
use Rattle.delegate_ops.specs.declared.stage.Change.{Change}
use Rattle.delegate_ops.specs.declared.stage.Change.TheVariants as change
use Rattle.delegate_ops.specs.declared.stage.Line.TheVariants as line
use Rattle.delegate_ops.specs.InnerStages.{Stage}
use Rattle.delegate_ops.specs.InnerStages as stage
use Rattle.delegate_ops.specs.Deciding.{address_of, generation_in}
use Rattle.delegate_ops.specs.Changing.{from_of, to_of}
use Rattle.delegate_ops.specs.Script.{granule_of_task}
use Rattle.history.specs.Events.{CallEvent}
use Rattle.delegate_ops.specs.InnerAgents.{AgentData, IsAgent, task_of, fresh}
use Rattle.delegate_ops.specs.InnerEntries.{entries_at, made_at}
use Rattle.delegate_ops.specs.InnerScript.{HasWalked}

-- ---- how it was made

-- with this geometry
abbrev pub IsAgentOf : GeometryData → AgentData → Type 0
IsAgentOf g a = (a.geometry ≡ g) × IsAgent a

-- and it has come to its stage by some events of its script
abbrev pub agent_made : GeometryData → AgentData → Type 0
agent_made g a =
    (a.geometry ≡ g) × IsAgent a × (c : ℕ) × (events : List CallEvent) × HasWalked c a events

-- it has made no act
abbrev pub agent_fresh : GeometryData → AgentData → Type 0
agent_fresh g a = (a ≡ fresh g a.tasks) × IsAgent a

-- ---- answers and entries

abbrev pub agent_left : AgentData → ℕ
agent_left a = length a.tasks - length a.answers

-- the answer of a call that has completed a change: where that is the last one it is done
abbrev pub done_after : Change → Generations → List Answer
done_after change.First k = []
done_after change.Last k = answer.Done k ∷ []

-- the answer that the call under way is to have, where it is known
abbrev pub coming_at : Stage → List Answer
coming_at (stage.Passing c d k) = done_after c k.generations
coming_at (stage.Cleaning c l k) = done_after c k.generations
coming_at (stage.Merging f k) = answer.Done k ∷ []
coming_at (stage.Releasing given) = given ∷ []
coming_at s = []

abbrev pub agent_known : AgentData → List Answer
agent_known a = a.answers ++ coming_at a.stage

-- the entries that its next act makes, and all that it has made
abbrev pub agent_makes : ℕ → AgentData → ℕ → List Entry
agent_makes c a old = made_at a.geometry c (length a.answers) a.stage (task_of a) old

abbrev pub agent_own : ℕ → AgentData → List Entry
agent_own c a =
    answered_entries (granule_bytes a.geometry.setup) c 0 a.tasks a.answers
    ++ entries_at a.geometry c (length a.answers) a.stage (task_of a)

-- ---- its lock

-- a call is between its lock and its unlock
abbrev pub is_inside : Stage → Bool
is_inside stage.Locking = false
is_inside s = true

abbrev pub is_lock_of : GeometryData → ℕ → Option Task → Bool
is_lock_of g n None = false
is_lock_of g n (Some t) = lock_number g.setup (address_of t) == n

abbrev pub agent_holds : ℕ → AgentData → Bool
agent_holds n a = is_inside a.stage && is_lock_of a.geometry n (task_of a)

-- ---- changes

-- generations are loaded and raised in rising order of size: y comes before z
abbrev pub comes_before : Size → Size → Bool
comes_before size.Two size.ThirtyTwo = true
comes_before size.Two size.FiveTwelve = true
comes_before size.ThirtyTwo size.FiveTwelve = true
comes_before y z = false

-- the granule and its former GPI, where the call under way has changed it and not yet raised all
-- generations
abbrev pub open_at : GeometryData → Stage → Option Task → List (ℕ × Gpi)
open_at g (stage.Raising c z k) (Some t) = (granule_of_task g t, from_of t c) ∷ []
open_at g s o = []

abbrev pub agent_opens : AgentData → List (ℕ × Gpi)
agent_opens a = open_at a.geometry a.stage (task_of a)

-- the call under way has changed its granule, and not yet raised the generation of size y
abbrev pub is_due_at : Stage → Size → Bool
is_due_at (stage.Raising c z k) y = not (comes_before y z)
is_due_at s y = false

-- the pair, where it hasn't raised the generation of size y yet
abbrev pub unraised_at : GeometryData → Size → Stage → Option Task → List (ℕ × Gpi)
unraised_at g y s o = if is_due_at s y then open_at g s o else []

abbrev pub agent_unraised : Size → AgentData → List (ℕ × Gpi)
agent_unraised y a = unraised_at a.geometry y a.stage (task_of a)

-- the pair, where the barrier after its change has yet to pass processor p
abbrev pub unpassed_at : GeometryData → ℕ → Stage → Option Task → List (ℕ × Gpi)
unpassed_at g p (stage.Raising c z k) (Some t) = (granule_of_task g t, from_of t c) ∷ []
unpassed_at g p (stage.Passing c d k) (Some t) =
    if nat_lt p d.passed then [] else (granule_of_task g t, from_of t c) ∷ []
unpassed_at g p s o = []

abbrev pub agent_unpassed : ℕ → AgentData → List (ℕ × Gpi)
agent_unpassed p a = unpassed_at a.geometry p a.stage (task_of a)

-- the pair, where the line of its granule and the space that the former GPI permits isn't cleaned yet
abbrev pub uncleaned_at : GeometryData → Stage → Option Task → List (ℕ × Gpi)
uncleaned_at g (stage.Raising c z k) (Some t) = (granule_of_task g t, from_of t c) ∷ []
uncleaned_at g (stage.Passing c d k) (Some t) = (granule_of_task g t, from_of t c) ∷ []
uncleaned_at g (stage.Cleaning c line.Former k) (Some t) =
    (granule_of_task g t, from_of t c) ∷ []
uncleaned_at g s o = []

abbrev pub agent_uncleaned : AgentData → List (ℕ × Gpi)
agent_uncleaned a = uncleaned_at a.geometry a.stage (task_of a)

abbrev pub is_around : GeometryData → Size → ℕ → Option Task → Bool
is_around g y region None = false
is_around g y region (Some t) = region_of (granule_bytes g.setup) y (granule_of_task g t) == region

abbrev pub agent_owes : Size → ℕ → AgentData → Bool
agent_owes y region a = is_due_at a.stage y && is_around a.geometry y region (task_of a)

-- ---- L1 words

-- what a call under way knows of the map, by its stage
abbrev pub known_at : Stage → facts.Stage
known_at (stage.Reading z k) = facts.Looked k.word
known_at (stage.Splitting z d k) = facts.Splits z d.gpi d.made
known_at (stage.Preparing k) = facts.Keeps k.word
known_at (stage.Changing c k) = facts.Keeps k.word
known_at (stage.Raising c z k) = facts.Keeps k.word
known_at (stage.Passing c d k) = facts.Keeps k.word
known_at (stage.Cleaning c l k) = facts.Keeps k.word
known_at (stage.Merging f k) = facts.Merges f.gpi f.step
known_at s = facts.Idle

-- the granule of the task under way, if there is one
abbrev pub granule_under_way : GeometryData → Option Task → ℕ
granule_under_way g None = 0
granule_under_way g (Some t) = granule_of_task g t

abbrev pub agent_holder : AgentData → Holder
agent_holder a = record {
  granule = granule_under_way a.geometry (task_of a);
  step = facts.step_of (known_at a.stage);
}

-- ---- what it keeps while it holds its lock is what is in the shared words and in the map

-- the GPI that the map gives its granule is the one that the call needs, that it changes, or that
-- it has made
abbrev pub GivesAt : Task → Stage → Gpi → Type 0
GivesAt t (stage.Reading z k) v = needed t ≡ Some v
GivesAt t (stage.Splitting z d k) v = needed t ≡ Some v
GivesAt t (stage.Preparing k) v = from_of t change.Last ≡ v
GivesAt t (stage.Changing c k) v = from_of t c ≡ v
GivesAt t (stage.Raising c z k) v = to_of t c ≡ v
GivesAt t (stage.Passing c d k) v = to_of t c ≡ v
GivesAt t (stage.Cleaning c l k) v = to_of t c ≡ v
GivesAt t s v = Unit {0}

-- the generation of this size around it is the kept one
abbrev pub SeesGeneration : GeometryData → List ℕ → Task → Generations → Size → Type 0
SeesGeneration g words t k y =
    slice_index words (gen_place_of g y (address_of t)) ≡ generation_in y k

-- all of them are; while they are loaded, those of the sizes before
abbrev pub SeesGenerations : GeometryData → List ℕ → Task → Stage → Type 0
SeesGenerations g words t (stage.Reading z k) =
    (y : Size) → comes_before y z ≡ true → SeesGeneration g words t k.generations y
SeesGenerations g words t (stage.Splitting z d k) = (y : Size) → SeesGeneration g words t k y
SeesGenerations g words t (stage.Preparing k) = (y : Size) → SeesGeneration g words t k.generations y
SeesGenerations g words t (stage.Changing c k) =
    (y : Size) → SeesGeneration g words t k.generations y
SeesGenerations g words t (stage.Raising c z k) =
    (y : Size) → SeesGeneration g words t k.generations y
SeesGenerations g words t (stage.Passing c d k) =
    (y : Size) → SeesGeneration g words t k.generations y
SeesGenerations g words t (stage.Cleaning c l k) =
    (y : Size) → SeesGeneration g words t k.generations y
SeesGenerations g words t s = Unit {0}

pub record SeesAt (g : GeometryData) (m : ℕ → Gpi) (words : List ℕ) (t : Task)
    (s : Stage) : Type 0 where
  pub known : Facts g.setup m (granule_of_task g t) (known_at s)
  pub gives : GivesAt t s (m (granule_of_task g t))
  pub generations : SeesGenerations g words t s

abbrev pub agent_sees : (ℕ → Gpi) → List ℕ → AgentData → Type 0
agent_sees m words a =
    (t : Task) → task_of a ≡ Some t → SeesAt a.geometry m words t a.stage
