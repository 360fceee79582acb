-- What a machine of running words needs to know of callers, beside the law of one act: what holds of
-- each by how it was made alone, and why an agent waits.
use Rattle.std.specs.Prelude.{◌≡◌, ◌≢◌, ◌⊎◌, ℕ, ◌<◌, true, false, List, is_some, slice_get, Some, None}
use Rattle.gpt_descriptors.specs.Places.{GeometryData, word_count}
use Rattle.shared_words.specs.declared.act.Act.{Act}
use Rattle.shared_words.specs.Acts.{place_in, answer_of}
use Rattle.bit_locks.specs.Locks.{lock_number, lock_bit}
use Rattle.invalidate.specs.Barrier.{BarrierData}
use Rattle.history.specs.declared.call.Task.{Task}
use Rattle.delegate_ops.specs.declared.stage.Change.{Change}
use Rattle.delegate_ops.specs.declared.stage.Kept.{Kept}
use Rattle.delegate_ops.specs.InnerStages as stage
use Rattle.delegate_ops.specs.Deciding.{address_of}
use Rattle.delegate_ops.specs.InnerAgents.{AgentData, IsAgent, task_of, next_of, took_of, has_ended}
use Rattle.processor.specs.InnerCpus as cpus
use Rattle.processor.specs.InnerCpus.{CpuData}
use Rattle.core_machine.specs.declared.caller.Caller.{Caller}
use Rattle.core_machine.specs.declared.caller.Caller.TheVariants as caller
use Rattle.core_machine.specs.InnerAgentCaller.{is_inside}
use Rattle.core_machine.specs.InnerCpuCaller.{cpu_duty}
use Rattle.core_machine.specs.InnerCallers.{IsCallerOf, caller_tasks, caller_next, caller_took, number_by}
use Rattle.core_machine.specs.InnerScene.{Scene}
use Rattle.core_machine.specs.InnerInvariant.{HoldsIn}

-- the place of a caller's next act is one of the shared words, by how the caller was made alone
abbrev pub ActsHavePlaces : Type 0
ActsHavePlaces =
    (g : GeometryData) (c : Caller) (t : Act) → IsCallerOf g c → caller_next c ≡ Some t
    → place_in t < word_count g

-- an act keeps the geometry, the tasks and the number of its caller, whatever it answers
abbrev pub ActsKeepTheirCaller : Type 0
ActsKeepTheirCaller =
    (g : GeometryData) (c : Caller) (old : ℕ) → IsCallerOf g c → IsCallerOf g (caller_took c old)
    × (caller_tasks (caller_took c old) ≡ caller_tasks c)
    × (number_by (caller_took c old) ≡ number_by c)

-- an agent has a next act unless each of its tasks is answered
abbrev pub AgentsGoOn : Type 0
AgentsGoOn =
    (a : AgentData) → IsAgent a → has_ended a ≡ false
    → is_some (caller_next (caller.Agent a)) ≡ true

-- ---- waiting

-- another caller is an agent between its lock and unlock, with a call under way on the lock block of
-- this task
pub record IsHeldByAnother (g : GeometryData) (callers : List Caller) (c : ℕ) (t : Task)
    : Type 0 where
  pub number : ℕ
  pub other : number ≢ c
  pub agent : AgentData
  pub at : slice_get callers number ≡ Some (caller.Agent agent)
  pub inside : is_inside agent.stage ≡ true
  pub task : Task
  pub under_way : task_of agent ≡ Some task
  pub block : lock_number g.setup (address_of task) ≡ lock_number g.setup (address_of t)

-- where the lock that an agent is about to take isn't free, such a caller holds it
abbrev pub LocksHaveHolders : Type 0
LocksHaveHolders =
    (g : GeometryData) (s : Scene) (c : ℕ) (a : AgentData) (t : Task) → HoldsIn g s
    → slice_get s.callers c ≡ Some (caller.Agent a) → a.stage ≡ stage.Locking → task_of a ≡ Some t
    → lock_bit s.words (lock_number g.setup (address_of t)) ≢ 0
    → IsHeldByAnother g s.callers c t

-- a caller is processor p, is between the first and the last act of an access, and has that access
-- left, which is at a granule of an L1 table
pub record IsInAccess (callers : List Caller) (p : ℕ) : Type 0 where
  pub number : ℕ
  pub cpu : CpuData
  pub at : slice_get callers number ≡ Some (caller.Cpu cpu)
  pub is : cpu.number ≡ p
  pub on : cpu_duty cpu ≡ 1
  pub access : Task
  pub left : cpus.task_of cpu ≡ Some access
  pub acts : cpus.idle_answer cpu.geometry access ≡ None

-- An agent is left waiting by its next act where that takes a lock that another holds, or where a
-- barrier has come to a processor that is between the first and the last act of an access, and for
-- no other cause.
abbrev pub WaitsHaveCauses : Type 0
WaitsHaveCauses =
    (g : GeometryData) (s : Scene) (c : ℕ) (a : AgentData) (t : Task) (next : Act) → HoldsIn g s
    → slice_get s.callers c ≡ Some (caller.Agent a) → task_of a ≡ Some t → next_of a ≡ Some next
    → (took_of a (answer_of next s.words)).waited ≡ true
    → ((a.stage ≡ stage.Locking) × IsHeldByAnother g s.callers c t)
    ⊎ ((ch : Change) × (d : BarrierData) × (k : Kept) × (a.stage ≡ stage.Passing ch d k)
    × IsInAccess s.callers d.passed)
