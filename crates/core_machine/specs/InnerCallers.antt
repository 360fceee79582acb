-- Callers as plain data: what the facts of the core read of them, by their kind. What it is of an
-- agent is in InnerAgentCaller, what of a processor in InnerCpuCaller.
use Rattle.std.specs.Prelude.{◌≡◌, ℕ, zero, suc, ◌<◌, Bool, false, List, [], length, Option, Some, None}
use Rattle.gpi_values.specs.declared.gpi.Gpi.{Gpi}
use Rattle.gpi_values.specs.declared.gpi.Space.{Space}
use Rattle.gpt_descriptors.specs.declared.size.Size.{Size}
use Rattle.gpt_descriptors.specs.Places.{GeometryData}
use Rattle.shared_words.specs.declared.act.Act.{Act}
use Rattle.shared_words.specs.declared.act.StoreRun.{StoreRun}
use Rattle.shared_words.specs.Acts.{store_in}
use Rattle.shared_words.specs.Next.{old_by, words_after, MayBeMade}
use Rattle.table_meaning.specs.Equation.{Holder}
use Rattle.walk_cache.specs.declared.walk.Walk.{Walk}
use Rattle.history.specs.declared.call.Task.{Task}
use Rattle.history.specs.declared.call.Answer.{Answer}
use Rattle.history.specs.declared.entry.Entry.{Entry}
use Rattle.delegate_ops.specs.InnerAgents.{next_of, took_of, IsReadable}
use Rattle.delegate_ops.specs.InnerRuns.{IsStoring}
use Rattle.core_machine.specs.declared.caller.Caller.{Caller}
use Rattle.core_machine.specs.declared.caller.Caller.TheVariants as caller
use Rattle.core_machine.specs.InnerAgentCaller.{IsAgentOf, agent_made, agent_fresh, agent_left, agent_known, agent_makes, agent_own, agent_holds, agent_opens, agent_unraised, agent_unpassed, agent_uncleaned, agent_owes, agent_holder, agent_sees}
use Rattle.core_machine.specs.InnerCpuCaller.{IsCpuOf, cpu_made, cpu_fresh, cpu_may_take, cpu_duty, cpu_left, cpu_loads, cpu_stamps, cpu_next, cpu_took, cpu_known, cpu_makes, cpu_own, cpu_holds, cpu_opens, cpu_unraised, cpu_walks, Decision, cpu_decided, cpu_touching, cpu_owes, cpu_holder, cpu_sees}

-- ---- how a caller was made

-- with this geometry
abbrev pub IsCallerOf : GeometryData → Caller → Type 0
IsCallerOf g (caller.Agent a) = IsAgentOf g a
IsCallerOf g (caller.Cpu q) = IsCpuOf g q

-- and it has come to where it is by some events of its script
abbrev pub IsMade : GeometryData → Caller → Type 0
IsMade g (caller.Agent a) = agent_made g a
IsMade g (caller.Cpu q) = cpu_made g q

-- it has made no act
abbrev pub IsFresh : GeometryData → Caller → Type 0
IsFresh g (caller.Agent a) = agent_fresh g a
IsFresh g (caller.Cpu q) = cpu_fresh g q

-- ---- acts

abbrev pub caller_next : Caller → Option Act
caller_next (caller.Agent a) = next_of a
caller_next (caller.Cpu q) = cpu_next q

abbrev pub caller_took : Caller → ℕ → Caller
caller_took (caller.Agent a) old = caller.Agent (took_of a old)
caller_took (caller.Cpu q) old = caller.Cpu (cpu_took q old)

-- the caller can take this answer of its next act
abbrev pub MayTake : Caller → ℕ → Type 0
MayTake (caller.Agent a) old = IsReadable a.stage old
MayTake (caller.Cpu q) old = cpu_may_take q old

abbrev pub caller_waits : Caller → Bool
caller_waits (caller.Agent a) = a.waited
caller_waits (caller.Cpu q) = false

-- ---- tasks and answers

abbrev pub caller_tasks : Caller → List Task
caller_tasks (caller.Agent a) = a.tasks
caller_tasks (caller.Cpu q) = q.tasks

abbrev pub caller_answers : Caller → List Answer
caller_answers (caller.Agent a) = a.answers
caller_answers (caller.Cpu q) = q.answers

abbrev pub caller_left : Caller → ℕ
caller_left (caller.Agent a) = agent_left a
caller_left (caller.Cpu q) = cpu_left q

-- the number of the call under way
abbrev pub call_of : Caller → ℕ
call_of x = length (caller_answers x)

-- its answers, and that of the call under way where it is known
abbrev pub known_answers : Caller → List Answer
known_answers (caller.Agent a) = agent_known a
known_answers (caller.Cpu q) = cpu_known q

-- ---- processors

-- the number of a processor
abbrev pub number_by : Caller → Option ℕ
number_by (caller.Agent a) = None
number_by (caller.Cpu q) = Some q.number

-- what its duty word is
abbrev pub duty_by : Caller → ℕ
duty_by (caller.Agent a) = 0
duty_by (caller.Cpu q) = cpu_duty q

-- the generations that it has loaded
abbrev pub HasLoaded : List ℕ → Caller → Type 0
HasLoaded words (caller.Agent a) = Unit {0}
HasLoaded words (caller.Cpu q) = cpu_loads words q

-- the stamps of the accesses of caller number c, in a history from a first map
abbrev pub HasOwnStamps : List Gpi → List Entry → ℕ → Caller → Type 0
HasOwnStamps map h c (caller.Agent a) = Unit {0}
HasOwnStamps map h c (caller.Cpu q) = cpu_stamps map h c q

-- the walks that it keeps, and has found or made
abbrev pub walks_by : Caller → List Walk
walks_by (caller.Agent a) = []
walks_by (caller.Cpu q) = cpu_walks q

-- the accesses that it has decided and not ended, and the lines that it is about to touch
abbrev pub decided_by : Caller → List Decision
decided_by (caller.Agent a) = []
decided_by (caller.Cpu q) = cpu_decided q

abbrev pub touching_by : Caller → List (ℕ × Space)
touching_by (caller.Agent a) = []
touching_by (caller.Cpu q) = cpu_touching q

-- ---- runs of stores

-- the caller after its next n acts, which are stores
unfoldable pub caller_stored : ℕ → Caller → Caller
caller_stored zero x = x
caller_stored (suc n) x = caller_took (caller_stored n x) 0

-- the stores of this run are its next acts
abbrev pub AreNext : StoreRun → Caller → Type 0
AreNext run x =
    (k : ℕ) → k < run.count → caller_next (caller_stored k x) ≡ Some (store_in run k)

-- the next act is a store of a splitting or of merging
abbrev pub StoresNext : Caller → Type 0
StoresNext (caller.Agent a) = IsStoring a.stage
StoresNext (caller.Cpu q) = ⊥

-- ---- turns

-- a caller and the words after its next act, and after its next n acts
abbrev pub turned_once : Caller × List ℕ → Caller × List ℕ
turned_once s =
    (caller_took s.0 (old_by (caller_next s.0) s.1), words_after (caller_next s.0) s.1)

abbrev pub turned : ℕ → Caller × List ℕ → Caller × List ℕ
turned zero s = s
turned (suc n) s = turned_once (turned n s)

-- the next act may be made on these words
abbrev pub MayTurn : Caller × List ℕ → Type 0
MayTurn s = MayBeMade (caller_next s.0) s.1 × MayTake s.0 (old_by (caller_next s.0) s.1)

-- ---- entries

-- the entries that the next act of caller number c makes
abbrev pub made_by : ℕ → Caller → ℕ → List Entry
made_by c (caller.Agent a) old = agent_makes c a old
made_by c (caller.Cpu q) old = cpu_makes c q old

-- all entries that caller number c has made
abbrev pub own_of : ℕ → Caller → List Entry
own_of c (caller.Agent a) = agent_own c a
own_of c (caller.Cpu q) = cpu_own c q

-- ---- what it holds, has open, owes and sees

-- the caller holds lock n
abbrev pub holds : ℕ → Caller → Bool
holds n (caller.Agent a) = agent_holds n a
holds n (caller.Cpu q) = cpu_holds n q

-- the granules that it has changed and whose generations it hasn't raised, with their former GPIs
abbrev pub open_by : Caller → List (ℕ × Gpi)
open_by (caller.Agent a) = agent_opens a
open_by (caller.Cpu q) = cpu_opens q

-- those of them whose generation of this size it hasn't raised
abbrev pub unraised_by : Size → Caller → List (ℕ × Gpi)
unraised_by y (caller.Agent a) = agent_unraised y a
unraised_by y (caller.Cpu q) = cpu_unraised y q

-- those that haven't passed processor p in the barrier after them, and those of which the lines of
-- the former GPI aren't cleaned
abbrev pub unpassed_by : ℕ → Caller → List (ℕ × Gpi)
unpassed_by p (caller.Agent a) = agent_unpassed p a
unpassed_by p (caller.Cpu q) = []

abbrev pub uncleaned_by : Caller → List (ℕ × Gpi)
uncleaned_by (caller.Agent a) = agent_uncleaned a
uncleaned_by (caller.Cpu q) = []

-- it has changed a granule of this region, and not yet raised the generation of this size
abbrev pub is_due : Size → ℕ → Caller → Bool
is_due y region (caller.Agent a) = agent_owes y region a
is_due y region (caller.Cpu q) = cpu_owes y region q

-- where it is in what it does to the L1 words
abbrev pub holder_by : Caller → Holder
holder_by (caller.Agent a) = agent_holder a
holder_by (caller.Cpu q) = cpu_holder q

-- what it keeps is what is in the map and in the words
abbrev pub Sees : (ℕ → Gpi) → List ℕ → Caller → Type 0
Sees m words (caller.Agent a) = agent_sees m words a
Sees m words (caller.Cpu q) = cpu_sees m words q
