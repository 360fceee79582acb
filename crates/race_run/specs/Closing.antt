-- What is left of a field when all its passes are joined.
use Rattle.std.specs.Prelude.{◌≡◌, ◌≤◌, ℕ, List, ◌++◌, [], length, map, slice_get, Some, None}
use Rattle.gpi_values.specs.declared.gpi.Gpi.{Gpi}
use Rattle.history.specs.declared.entry.Entry.{Entry}
use Rattle.history.specs.Calls.{entries_by}
use Rattle.core_machine.specs.declared.caller.Caller.{Caller}
use Rattle.core_machine.specs.InnerCallers.{caller_answers, caller_next, caller_tasks, own_of}
use Rattle.core_machine.specs.InnerOpening.{AreStarting}
use Rattle.core_machine.specs.Facts.{AllAnswered, FitsHistory}
use Rattle.race_run.specs.Passes.{AreOn, FieldData, PassData}

-- all passes of a field, each with its caller as it is now, in their order
pub record AreAll (f : FieldData) (passes : List PassData) (callers : List Caller) : Type 0 where
  pub on : AreOn f passes callers
  pub all : length callers ≡ length f.opening.callers

-- The pass that is left has seen one history. What each of the passes had seen is how it begins. From
-- each first map that the tables mean, and they mean one, the answers of all callers and the shared
-- words at the end fit it.
pub record HasClosed (f : FieldData) (passes : List PassData) (callers : List Caller)
    (words : List ℕ) (left : PassData) : Type 0 where
  pub field : left.id ≡ f.id
  pub opening : left.view.opening ≡ Some f.opening
  pub nobody : left.view.held ≡ []
  pub begins : (c : ℕ) (p : PassData) → slice_get passes c ≡ Some p
      → (rest : List Entry) × (left.view.seen ≡ p.view.seen ++ rest)
  -- and of each caller's entries it has just those that the caller has made
  pub own : (c : ℕ) (x : Caller) → slice_get callers c ≡ Some x
      → entries_by c left.view.seen ≡ own_of c x
  pub starting : (first : List Gpi) × AreStarting f.opening.geometry first f.opening.words
  pub fits : (first : List Gpi) → AreStarting f.opening.geometry first f.opening.words
      → FitsHistory f.opening.geometry first (map caller_tasks f.opening.callers)
      (map caller_answers callers) words left.view.seen
  pub tasks : map caller_tasks callers ≡ map caller_tasks f.opening.callers
  -- no caller has more answers than calls, and where none has an act left each call is answered
  pub within : (c : ℕ) (x : Caller) → slice_get callers c ≡ Some x
      → length (caller_answers x) ≤ length (caller_tasks x)
  pub answered : ((c : ℕ) (x : Caller) → slice_get callers c ≡ Some x → caller_next x ≡ None)
      → AllAnswered (map caller_tasks f.opening.callers) (map caller_answers callers)
