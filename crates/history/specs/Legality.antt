-- Which entry is legal in a state, for the task and the answer of its call.
use Rattle.std.specs.Prelude.{◌≡◌, ◌≢◌, ℕ, ◌/◌, ◌<◌, ◌⊎◌, Bool, true, false, IsTrue, length, slice_get, Option, Some, None, Contains}
use Rattle.gpi_values.specs.declared.gpi.Gpi.{Gpi}
use Rattle.gpi_values.specs.declared.gpi.Gpi.TheVariants as gpi
use Rattle.gpi_values.specs.declared.gpi.Space.{Space}
use Rattle.gpi_values.specs.Values.{own_of, permits_of}
use Rattle.history.specs.declared.call.Task.{Task}
use Rattle.history.specs.declared.call.Task.TheVariants as task
use Rattle.history.specs.declared.call.Answer.{Answer}
use Rattle.history.specs.declared.call.Answer.TheVariants as answer
use Rattle.history.specs.declared.call.Via.{Via}
use Rattle.history.specs.declared.call.Via.TheVariants as via
use Rattle.history.specs.declared.entry.Entry.{Entry}
use Rattle.history.specs.declared.entry.Entry.TheVariants as entry
use Rattle.history.specs.Entries.{granule_in}
use Rattle.history.specs.States.{State, is_open}

-- the granule of a task's address, granules having this number of bytes
abbrev pub granule_of : ℕ → Task → Option ℕ
granule_of bytes (task.Delegate pa source) = Some (pa / bytes)
granule_of bytes (task.Undelegate pa source) = Some (pa / bytes)
granule_of bytes task.Unknown = None
granule_of bytes (task.Look pa space) = Some (pa / bytes)

-- the GPI that a transition needs: Non-secure for a delegate, the source's own for an undelegate
abbrev pub needed : Task → Option Gpi
needed (task.Delegate pa source) = Some gpi.NonSecure
needed (task.Undelegate pa source) = Some (own_of source)
needed task.Unknown = None
needed (task.Look pa space) = None

-- the task is a delegate or an undelegate
abbrev pub is_transition : Task → Bool
is_transition (task.Delegate pa source) = true
is_transition (task.Undelegate pa source) = true
is_transition task.Unknown = false
is_transition (task.Look pa space) = false

abbrev pub is_done : Answer → Bool
is_done (answer.Done generations) = true
is_done a = false

abbrev pub is_seen : Answer → Bool
is_seen (answer.Seen access) = true
is_seen a = false

-- a transition that found this GPI is answered so: Perm with another GPI than the needed one, Worn
-- with that one
abbrev pub IsRefusal : Task → Gpi → Answer → Type 0
IsRefusal t found (answer.Perm given) =
    IsTrue (is_transition t) × (needed t ≢ Some found) × (given ≡ found)
IsRefusal t found (answer.Worn size value) = needed t ≡ Some found
IsRefusal t found a = ⊥

-- the changes of a transition: one of a delegate, two of an undelegate, which passes through no
-- access
abbrev pub IsChange : Task → Gpi → Gpi → Type 0
IsChange (task.Delegate pa source) from to = (from ≡ gpi.NonSecure) × (to ≡ own_of source)
IsChange (task.Undelegate pa source) from to =
    ((from ≡ own_of source) × (to ≡ gpi.NoAccess)) ⊎ ((from ≡ gpi.NoAccess) × (to ≡ gpi.NonSecure))
IsChange t from to = ⊥

abbrev pub IsLookIn : Task → Space → Type 0
IsLookIn (task.Look pa asked) space = asked ≡ space
IsLookIn t space = ⊥

abbrev pub is_still : Via → Bool
is_still via.Still = true
is_still v = false

-- the answer is of an access at an L1 table with this GPI and this permission
abbrev pub IsSeen : Answer → Gpi → Bool → Type 0
IsSeen (answer.Seen access) gpi allowed =
    (access.gpi ≡ gpi) × (access.allowed ≡ allowed)
    × (access.level ≡ 1) × (is_still access.via ≡ false)
IsSeen a gpi allowed = ⊥

-- the map gives the granule this GPI, and no change of it is open
abbrev pub RestsWith : State → ℕ → Gpi → Type 0
RestsWith s granule gpi = (slice_get s.map granule ≡ Some gpi) × (is_open s granule ≡ false)

-- what the state must be for the entry
abbrev pub StateAllows : State → Entry → Type 0
StateAllows s (entry.Refused caller call granule found) = RestsWith s granule found
StateAllows s (entry.Changed caller call granule from to) = RestsWith s granule from
StateAllows s (entry.Settled caller call granule) = IsTrue (is_open s granule)
StateAllows s (entry.Looked caller call granule space gpi allowed) =
    (slice_get s.map granule ≡ Some gpi) ⊎ Contains s.opened (granule, gpi)

-- what the task and the answer of its call must be for the entry
abbrev pub CallAllows : Task → Answer → Entry → Type 0
CallAllows t a (entry.Refused caller call granule found) = IsRefusal t found a
CallAllows t a (entry.Changed caller call granule from to) = IsTrue (is_done a) × IsChange t from to
CallAllows t a (entry.Settled caller call granule) = IsTrue (is_done a) × IsTrue (is_transition t)
CallAllows t a (entry.Looked caller call granule space gpi allowed) =
    IsLookIn t space × (allowed ≡ permits_of gpi space) × IsSeen a gpi allowed

-- A legal entry: its granule is the task's and one of the map's, and the state and the call allow
-- it.
pub record IsLegal (bytes : ℕ) (s : State) (t : Task) (a : Answer) (e : Entry) : Type 0 where
  pub granule : granule_of bytes t ≡ Some (granule_in e)
  pub inside : granule_in e < length s.map
  pub state : StateAllows s e
  pub call : CallAllows t a e
