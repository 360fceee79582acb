-- What a turn of a caller on the shared words does, and why it is left waiting.
use Rattle.std.specs.Prelude.{◌≡◌, ◌≢◌, ◌⊎◌, ℕ, true, List, [], ◌∷◌, ◌++◌, map, slice_get, slice_set, Some, None}
use Rattle.gpi_values.specs.declared.gpi.Gpi.{Gpi}
use Rattle.shared_words.specs.declared.act.Act.{Act}
use Rattle.shared_words.specs.Acts.{after_act, answer_of}
use Rattle.bit_locks.specs.Locks.{lock_number}
use Rattle.invalidate.specs.Barrier.{BarrierData}
use Rattle.history.specs.declared.call.Task.{Task}
use Rattle.history.specs.declared.call.Answer.{Answer}
use Rattle.history.specs.declared.entry.Entry.{Entry}
use Rattle.history.specs.Calls.{entries_by}
use Rattle.delegate_ops.specs.declared.stage.Change.{Change}
use Rattle.delegate_ops.specs.declared.stage.Kept.{Kept}
use Rattle.delegate_ops.specs.InnerStages as stage
use Rattle.delegate_ops.specs.Deciding.{address_of}
use Rattle.delegate_ops.specs.Deciding as agents
use Rattle.delegate_ops.specs.InnerAgents.{AgentData, task_of}
use Rattle.processor.specs.InnerCpus.{CpuData, idle_answer}
use Rattle.core_machine.specs.declared.caller.Caller.{Caller}
use Rattle.core_machine.specs.declared.caller.Caller.TheVariants as caller
use Rattle.core_machine.specs.InnerCallers.{MayTake, caller_answers, caller_next, caller_tasks, caller_took, caller_waits, made_by, own_of}
use Rattle.core_machine.specs.InnerOpening.{AreStarting}
use Rattle.core_machine.specs.Facts.{FitsHistory}
use Rattle.race_run.specs.declared.view.Opening.{Opening}
use Rattle.race_run.specs.declared.view.View.{View}

-- A moment of a run: from each first map that the tables mean, and they mean one, the answers of all
-- callers and the shared words fit the history so far. Caller c is x, with the tasks that it was opened
-- with, and of its own entries the history has just those that it has made.
pub record IsMoment (o : Opening) (c : ℕ) (x : Caller) (h : List Entry) : Type 0 where
  pub answers : List (List Answer)
  pub words : List ℕ
  pub starting : (first : List Gpi) × AreStarting o.geometry first o.words
  pub tasks : slice_get (map caller_tasks o.callers) c ≡ Some (caller_tasks x)
  pub own : slice_get answers c ≡ Some (caller_answers x)
  pub entries : entries_by c h ≡ own_of c x
  pub fits : (first : List Gpi) → AreStarting o.geometry first o.words
      → FitsHistory o.geometry first (map caller_tasks o.callers) answers words h

-- ---- waiting

-- another of the callers is an agent with a call on lock block n, which isn't answered without acts
pub record HasCallOn (o : Opening) (c n : ℕ) : Type 0 where
  pub number : ℕ
  pub other : number ≢ c
  pub agent : AgentData
  pub at : slice_get o.callers number ≡ Some (caller.Agent agent)
  pub call : ℕ
  pub task : Task
  pub asked : slice_get agent.tasks call ≡ Some task
  pub acts : agents.idle_answer o.geometry task ≡ None
  pub block : lock_number o.geometry.setup (address_of task) ≡ n

-- one of the callers is processor p, and has an access at a granule of an L1 table
pub record HasAccessOf (o : Opening) (p : ℕ) : Type 0 where
  pub number : ℕ
  pub cpu : CpuData
  pub at : slice_get o.callers number ≡ Some (caller.Cpu cpu)
  pub is : cpu.number ≡ p
  pub call : ℕ
  pub task : Task
  pub asked : slice_get cpu.tasks call ≡ Some task
  pub acts : idle_answer o.geometry task ≡ None

-- Why the next act of an agent may leave it waiting: it takes a lock that another agent's calls use, or
-- its barrier has come to a processor that has an access.
abbrev pub HasCause : Opening → ℕ → Caller → Type 0
HasCause o c (caller.Agent a) =
    (t : Task) × (task_of a ≡ Some t)
    × (((a.stage ≡ stage.Locking) × HasCallOn o c (lock_number o.geometry.setup (address_of t)))
    ⊎ ((ch : Change) × (d : BarrierData) × (k : Kept) × (a.stage ≡ stage.Passing ch d k)
    × HasAccessOf o d.passed))
HasCause o c (caller.Cpu q) = ⊥

-- ---- a turn

-- The next act of caller c, which was x, answered old: the pass has seen what others have done since
-- its last act, and after it the entries of this act, and knows what the caller has become. The act found
-- the words of a moment with that history, and is all that tells the moment after it from that one.
pub record HasActed (o : Opening) (c : ℕ) (x : Caller) (old : ℕ) (v w : View) : Type 0 where
  pub next : Act
  pub is_next : caller_next x ≡ Some next
  pub between : List Entry
  pub view : w ≡ record {
    opening = v.opening;
    seen = (v.seen ++ between) ++ made_by c x old;
    others_seen = v.others_seen;
    held = (c, caller_took x old) ∷ [];
  }
  pub readable : MayTake x old
  pub found : IsMoment o c x (v.seen ++ between)
  pub moment : IsMoment o c (caller_took x old) w.seen
  pub answered : old ≡ answer_of next found.words
  pub wrote : moment.words ≡ after_act next found.words
  pub others : moment.answers ≡ slice_set found.answers c (caller_answers (caller_took x old))
  pub waits : caller_waits (caller_took x old) ≡ true → HasCause o c x
