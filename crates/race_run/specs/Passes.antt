-- What contracts see of a field and of its passes.
use Rattle.std.specs.Prelude.{◌≡◌, ℕ, List, [], ◌∷◌, length, slice_get, Some}
use Rattle.atomic_table.specs.Seated.{TableId}
use Rattle.core_machine.specs.declared.caller.Caller.{Caller}
use Rattle.core_machine.specs.InnerCallers.{IsCallerOf}
use Rattle.race_run.specs.declared.view.Opening.{Opening}
use Rattle.race_run.specs.declared.view.View.{View}
use Rattle.race_run.specs.Turns.{IsMoment}

-- which shared words it has, and what it was opened with
pub record FieldData : Type 0 where
  pub id : TableId
  pub opening : Opening

-- of which field it is, which of its passes, and what it knows
pub record PassData : Type 0 where
  pub id : TableId
  pub number : ℕ
  pub view : View

-- the view of a pass with one caller, before its first act
abbrev pub fresh_view : Opening → ℕ × Caller → View
fresh_view o held = record { opening = Some o; seen = []; others_seen = []; held = held ∷ [] }

-- the pass is one that this field's opening made, or what its turns have made of it; this is its one
-- caller, made with the field's geometry; and what the pass has seen is the history of a moment
pub record IsPassOf (f : FieldData) (p : PassData) (c : ℕ) (x : Caller) : Type 0 where
  pub field : p.id ≡ f.id
  pub opening : p.view.opening ≡ Some f.opening
  pub held : p.view.held ≡ (c, x) ∷ []
  pub made : IsCallerOf f.opening.geometry x
  pub moment : IsMoment f.opening c x p.view.seen

-- a pass for each caller, in their order, before their first act
pub record AreOpened (f : FieldData) (passes : List PassData) (callers : List Caller)
    : Type 0 where
  pub many : length passes ≡ length callers
  pub each : (c : ℕ) (p : PassData) (x : Caller) → slice_get passes c ≡ Some p
      → slice_get callers c ≡ Some x
      → IsPassOf f p c x × (p.view ≡ fresh_view f.opening (c, x))

-- callers on a field, each with its pass
pub record OpenedData : Type 0 where
  pub field : FieldData
  pub passes : List PassData
  pub callers : List Caller

pub record AreOn (f : FieldData) (passes : List PassData) (callers : List Caller) : Type 0 where
  pub many : length passes ≡ length callers
  pub each : (c : ℕ) (p : PassData) (x : Caller) → slice_get passes c ≡ Some p
      → slice_get callers c ≡ Some x → IsPassOf f p c x
