-- Calls and their entries: each call once, in the order of its caller's calls.
use Rattle.std.specs.Prelude.{◌≡◌, ℕ, ◌+◌, ◌/◌, ◌<◌, List, [], ◌∷◌, ◌++◌, length, take, ◌==◌, slice_get, Option, Some, None, option_and_then, if◌then◌else◌}
use Rattle.std.specs.List.{filter, All}
use Rattle.gpi_values.specs.declared.gpi.Space.{Space}
use Rattle.gpi_values.specs.declared.gpi.Gpi.TheVariants as gpi
use Rattle.gpi_values.specs.Values.{own_of}
use Rattle.history.specs.declared.call.Task.{Task}
use Rattle.history.specs.declared.call.Task.TheVariants as task
use Rattle.history.specs.declared.call.Answer.{Answer}
use Rattle.history.specs.declared.call.Answer.TheVariants as answer
use Rattle.history.specs.declared.call.Access.{Access}
use Rattle.history.specs.declared.entry.Entry.{Entry}
use Rattle.history.specs.declared.entry.Entry.TheVariants as entry
use Rattle.history.specs.Entries.{caller_in, call_in}
use Rattle.history.specs.States.{State, after_entry}
use Rattle.history.specs.Legality.{IsLegal, is_still}

-- ---- the entries of one call

-- the entries of an access
abbrev pub look_entries : ℕ → ℕ → ℕ → Space → Access → List Entry
look_entries caller call granule space access =
    if is_still access.via then []
    else entry.Looked caller call granule space access.gpi access.allowed ∷ []

-- the entries of call k of caller c with this task and this answer, granules having this number of
-- bytes
abbrev pub call_entries : ℕ → ℕ → ℕ → Task → Answer → List Entry
call_entries bytes c k (task.Delegate pa source) (answer.Perm found) =
    entry.Refused c k (pa / bytes) found ∷ []
call_entries bytes c k (task.Delegate pa source) (answer.Worn size value) =
    entry.Refused c k (pa / bytes) gpi.NonSecure ∷ []
call_entries bytes c k (task.Delegate pa source) (answer.Done generations) =
    entry.Changed c k (pa / bytes) gpi.NonSecure (own_of source)
    ∷ entry.Settled c k (pa / bytes) ∷ []
call_entries bytes c k (task.Undelegate pa source) (answer.Perm found) =
    entry.Refused c k (pa / bytes) found ∷ []
call_entries bytes c k (task.Undelegate pa source) (answer.Worn size value) =
    entry.Refused c k (pa / bytes) (own_of source) ∷ []
call_entries bytes c k (task.Undelegate pa source) (answer.Done generations) =
    entry.Changed c k (pa / bytes) (own_of source) gpi.NoAccess
    ∷ entry.Settled c k (pa / bytes)
    ∷ entry.Changed c k (pa / bytes) gpi.NoAccess gpi.NonSecure
    ∷ entry.Settled c k (pa / bytes) ∷ []
call_entries bytes c k (task.Look pa space) (answer.Seen access) =
    look_entries c k (pa / bytes) space access
call_entries bytes c k t a = []

-- ---- the entries of one caller

-- the entries that caller c made, in their order
abbrev pub entries_by : ℕ → List Entry → List Entry
entries_by c h = filter (λ e. caller_in e == c) h

-- the entries of the answered calls of caller c, from call k on, in the order of the calls
abbrev pub answered_entries : ℕ → ℕ → ℕ → List Task → List Answer → List Entry
answered_entries bytes c k [] answers = []
answered_entries bytes c k (t ∷ tasks) [] = []
answered_entries bytes c k (t ∷ tasks) (a ∷ answers) =
    call_entries bytes c k t a ++ answered_entries bytes c (k + 1) tasks answers

-- a call that isn't answered yet has made the first entries of some answer
abbrev pub IsUnderWay : ℕ → ℕ → ℕ → Option Task → List Entry → Type 0
IsUnderWay bytes c k None made = made ≡ []
IsUnderWay bytes c k (Some t) made =
    (a : Answer) × (n : ℕ) × (made ≡ take n (call_entries bytes c k t a))

-- The entries of caller c are those of its answered calls, each once and in their order, and after
-- them the first ones of its next call.
pub record AreCalls (bytes c : ℕ) (tasks : List Task) (answers : List Answer)
    (h : List Entry) : Type 0 where
  pub under_way : List Entry
  pub in_order : entries_by c h ≡ answered_entries bytes c 0 tasks answers ++ under_way
  pub beginning : IsUnderWay bytes c (length answers) (slice_get tasks (length answers)) under_way

-- ---- all callers

-- what call k of caller c asks, and what it is answered, if it is
abbrev pub task_at : List (List Task) → ℕ → ℕ → Option Task
task_at tasks c k = option_and_then (λ own. slice_get own k) (slice_get tasks c)

abbrev pub answer_at : List (List Answer) → ℕ → ℕ → Option Answer
answer_at answers c k = option_and_then (λ own. slice_get own k) (slice_get answers c)

-- a call without an answer may still be given any
abbrev pub Fits : Option Answer → Answer → Type 0
Fits None a = Unit {0}
Fits (Some given) a = given ≡ a

-- the entry is legal for the task of its call and its answer
pub record IsLegalFor (bytes : ℕ) (tasks : List (List Task)) (answers : List (List Answer))
    (s : State) (e : Entry) : Type 0 where
  pub asked : Task
  pub answered : Answer
  pub task : task_at tasks (caller_in e) (call_in e) ≡ Some asked
  pub answer : Fits (answer_at answers (caller_in e) (call_in e)) answered
  pub legal : IsLegal bytes s asked answered e

-- A legal history: each entry is legal in the state that the entries before it leave.
abbrev pub IsLegalHistory : ℕ → List (List Task) → List (List Answer) → State → List Entry → Type 0
IsLegalHistory bytes tasks answers s [] = Unit {0}
IsLegalHistory bytes tasks answers s (e ∷ h) =
    IsLegalFor bytes tasks answers s e × IsLegalHistory bytes tasks answers (after_entry s e) h

-- A history has each call once and in its caller's order, and nothing else.
pub record HasCalls (bytes : ℕ) (tasks : List (List Task)) (answers : List (List Answer))
    (h : List Entry) : Type 0 where
  pub callers : (c : ℕ) (own : List Task) (given : List Answer)
      → slice_get tasks c ≡ Some own → slice_get answers c ≡ Some given
      → AreCalls bytes c own given h
  pub known : All (λ e. caller_in e < length tasks) h
