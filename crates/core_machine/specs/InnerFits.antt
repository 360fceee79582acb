-- What the facts of the core say of what callers leave, for whoever runs them without a schedule.
use Rattle.std.specs.Prelude.{◌≡◌, ℕ, List, [], map, slice_get, Some}
use Rattle.std.specs.List.{All}
use Rattle.gpi_values.specs.declared.gpi.Gpi.{Gpi}
use Rattle.gpt_descriptors.specs.Places.{GeometryData}
use Rattle.shared_words.specs.declared.act.Act.{Act}
use Rattle.history.specs.declared.call.Task.{Task}
use Rattle.history.specs.Events.{CallEvent}
use Rattle.delegate_ops.specs.InnerAgents.{IsAgent}
use Rattle.delegate_ops.specs.InnerScript.{HasWalked}
use Rattle.processor.specs.InnerCpus.{IsCpu}
use Rattle.processor.specs.InnerScript as cpus
use Rattle.core_machine.specs.declared.caller.Caller.{Caller}
use Rattle.core_machine.specs.declared.caller.Caller.TheVariants as caller
use Rattle.core_machine.specs.Facts.{FitsHistory}
use Rattle.core_machine.specs.InnerCallers.{IsFresh, MayTake, caller_answers, caller_next, caller_tasks, caller_took}
use Rattle.core_machine.specs.InnerScene.{Scene}
use Rattle.core_machine.specs.InnerInvariant.{HoldsIn, NumbersDiffer}
use Rattle.core_machine.specs.InnerOpening.{AreStarting}

-- caller c was made with this geometry, and has come to where it is by some events of its script
abbrev pub IsWalked : GeometryData → ℕ → Caller → Type 0
IsWalked g c (caller.Agent a) =
    (a.geometry ≡ g) × IsAgent a × (events : List CallEvent) × HasWalked c a events
IsWalked g c (caller.Cpu q) =
    (q.geometry ≡ g) × IsCpu q × (events : List CallEvent) × cpus.HasWalked c q events

abbrev pub AreMade : GeometryData → List Caller → Type 0
AreMade g callers =
    (c : ℕ) (x : Caller) → slice_get callers c ≡ Some x → IsWalked g c x

-- the tasks of each caller are among these
abbrev pub HaveTasks : List (List Task) → List Caller → Type 0
HaveTasks tasks callers =
    (c : ℕ) (x : Caller) → slice_get callers c ≡ Some x → slice_get tasks c ≡ Some (caller_tasks x)

-- callers that have made no act fit the words before the first act
abbrev pub ScenesBegin : Type 0
ScenesBegin =
    (g : GeometryData) (first : List Gpi) (callers : List Caller) (words : List ℕ)
    → All (IsFresh g) callers → NumbersDiffer callers → AreStarting g first words
    → HoldsIn g (record { first = first; words = words; callers = callers; history = [] })

abbrev pub FreshAreMade : Type 0
FreshAreMade =
    (g : GeometryData) (callers : List Caller) → All (IsFresh g) callers → AreMade g callers

-- an act takes a caller one event further in its script
abbrev pub ActsGoOn : Type 0
ActsGoOn =
    (g : GeometryData) (c : ℕ) (x : Caller) (t : Act) (old : ℕ) → IsWalked g c x
    → caller_next x ≡ Some t → MayTake x old → IsWalked g c (caller_took x old)

-- the answers of the callers and the words fit the history
abbrev pub ScenesFit : Type 0
ScenesFit =
    (g : GeometryData) (s : Scene) → HoldsIn g s → AreMade g s.callers
    → FitsHistory g s.first (map caller_tasks s.callers) (map caller_answers s.callers)
    s.words s.history
