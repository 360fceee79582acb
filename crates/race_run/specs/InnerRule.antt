-- The rule of the shared words, over the words and what all passes know.
use Rattle.std.specs.Prelude.{◌≡◌, ◌⊎◌, ℕ, List, [], ◌∷◌, ◌++◌, ◌+◌, take, drop, map, slice_get, Option, Some, None}
use Rattle.std.specs.List.{All}
use mathlib.Core.Option.{some}
use lib.ListN.{get_elem?}
use Rattle.atomic_table.specs.Table.{Me}
use Rattle.atomic_table.specs.Seated.{TableId}
use Rattle.gpi_values.specs.declared.gpi.Gpi.{Gpi}
use Rattle.gpt_descriptors.specs.Places.{word_count}
use Rattle.shared_words.specs.declared.act.Act.{Act}
use Rattle.shared_words.specs.Acts.{said}
use Rattle.history.specs.declared.call.Task.{Task}
use Rattle.history.specs.declared.entry.Entry.{Entry}
use Rattle.history.specs.Calls.{entries_by}
use Rattle.core_machine.specs.declared.caller.Caller.{Caller}
use Rattle.core_machine.specs.InnerCallers.{IsCallerOf, caller_next, caller_tasks, number_by, own_of}
use Rattle.core_machine.specs.InnerInvariant.{HoldsIn}
use Rattle.core_machine.specs.InnerOpening.{AreStarting}
use Rattle.core_machine.specs.InnerFits.{AreMade}
use Rattle.race_run.specs.declared.view.Opening.{Opening}
use Rattle.race_run.specs.declared.view.View.{View}
use Rattle.race_run.specs.declared.rule.FieldKey.{FieldKey}
use Rattle.race_run.specs.Passes.{PassData, FieldData, fresh_view}
use Rattle.race_run.specs.Turns.{HasActed}

-- ---- views

abbrev pub opening_of : FieldKey → Opening
opening_of start = record {
  geometry = start.geometry;
  words = start.words.value;
  callers = start.callers.value.items;
}

-- callers with their numbers, from this one on
abbrev pub numbered : ℕ → List Caller → List (ℕ × Caller)
numbered c [] = []
numbered c (x ∷ callers) = (c, x) ∷ numbered (c + 1) callers

-- all callers, before the first act
abbrev pub whole : Opening → View
whole o = record { opening = Some o; seen = []; others_seen = []; held = numbered 0 o.callers }

abbrev pub with_held : View → List (ℕ × Caller) → View
with_held v held = record { opening = v.opening; seen = v.seen; others_seen = v.others_seen; held = held }

-- a view without the first of its callers, and one with that caller alone
abbrev pub without_first : View → View
without_first v = with_held v (drop 1 v.held)

abbrev pub with_first : View → View
with_first v = with_held v (take 1 v.held)

-- of which field a pass is and what it knows, and the same of a pass of this field with this caller,
-- before its first act
abbrev pub seen_of : PassData → TableId × View
seen_of p = (p.id, p.view)

abbrev pub fresh_seen : FieldData → ℕ × Caller → TableId × View
fresh_seen f held = (f.id, fresh_view f.opening held)

-- a pass without callers that has seen this much
abbrev pub nobody : Opening → List Entry → View
nobody o seen = record { opening = Some o; seen = seen; others_seen = []; held = [] }

-- of two beginnings of one history, the longer one
abbrev pub longer : List Entry → List Entry → List Entry
longer [] b = b
longer (e ∷ a) [] = e ∷ a
longer (e ∷ a) (f ∷ b) = e ∷ longer a b

-- two passes made one, and what is left of the second
abbrev pub joined : View → View → View
joined v w = record {
  opening = v.opening;
  seen = longer v.seen w.seen;
  others_seen = v.others_seen ++ w.seen ∷ w.others_seen;
  held = v.held ++ w.held;
}

abbrev pub spent : View
spent = record { opening = None; seen = []; others_seen = []; held = [] }

-- each is a pass of this field
abbrev pub AreOf : FieldData → List PassData → Type 0
AreOf f passes =
    (i : ℕ) (p : PassData) → slice_get passes i ≡ Some p
    → (p.id ≡ f.id) × (p.view.opening ≡ Some f.opening)

-- a pass after others were joined into it, the last of them first
abbrev pub joined_back : View → List PassData → View
joined_back v [] = v
joined_back v (p ∷ passes) = joined (joined_back v passes) p.view

-- ---- the rule

-- the history begins with these entries
abbrev pub Begins : List Entry → List Entry → Type 0
Begins h seen = (rest : List Entry) × (h ≡ seen ++ rest)

-- what an act keeps of a caller: its tasks, and its number where it is a processor
abbrev pub role_of : Caller → List Task × Option ℕ
role_of x = (caller_tasks x, number_by x)

-- a caller that a pass holds is the one with its number, and of its entries the pass has seen all
abbrev pub IsHeld : List Caller → List Entry → ℕ × Caller → Type 0
IsHeld callers seen held =
    (slice_get callers held.0 ≡ Some held.1) × (entries_by held.0 seen ≡ own_of held.0 held.1)

-- what a pass knows fits the callers and the history
pub record KnowsOf (o : Opening) (callers : List Caller) (h : List Entry) (v : View) : Type 0 where
  pub opening : v.opening ≡ Some o
  pub seen : Begins h v.seen
  pub others_seen : All (Begins h) v.others_seen
  pub held : (p : ℕ) (held : ℕ × Caller) → slice_get v.held p ≡ Some held
      → IsHeld callers v.seen held

-- a pass that was joined into another
abbrev pub IsSpent : View → Type 0
IsSpent v = (v.opening ≡ None) × (v.held ≡ [])

-- no caller is held twice
abbrev pub HeldOnce : List View → Type 0
HeldOnce views =
    (i j p q c : ℕ) (v w : View) (x y : Caller)
    → get_elem? views i ≡ some v → get_elem? views j ≡ some w
    → slice_get v.held p ≡ Some (c, x) → slice_get w.held q ≡ Some (c, y) → (i ≡ j) × (p ≡ q)

-- Callers and words have the facts of the core with one history, from each first map that the tables
-- mean. The callers are those that the field was opened with, after some acts. Each pass fits them.
pub record IsRunning (o : Opening) (words : List ℕ) (views : List View) : Type 0 where
  pub callers : List Caller
  pub history : List Entry
  pub starting : (first : List Gpi) × AreStarting o.geometry first o.words
  pub holds : (first : List Gpi) → AreStarting o.geometry first o.words
      → HoldsIn o.geometry
      (record { first = first; words = words; callers = callers; history = history })
  pub made : AreMade o.geometry callers
  pub given : map role_of callers ≡ map role_of o.callers
  pub fits : (id : ℕ) (v : View) → get_elem? views id ≡ some v
      → IsSpent v ⊎ KnowsOf o callers history v
  pub once : HeldOnce views

-- ---- what a step tells

-- the one caller of a view has this next act, which is made on one of this number of words
pub record IsReady (words : ℕ) (o : Opening) (v : View) (c : ℕ) (x : Caller) (t : Act)
    : Type 0 where
  pub size : words ≡ word_count o.geometry
  pub opening : v.opening ≡ Some o
  pub held : v.held ≡ (c, x) ∷ []
  pub made : IsCallerOf o.geometry x
  pub next : caller_next x ≡ Some t

-- a pass that comes to the field has no callers, and is of its opening
abbrev pub Entered : Me ℕ View → Me ℕ View → Type 0
Entered me after =
    (o : Opening) → me.0.opening ≡ Some o
    → (seen : List Entry) × (after ≡ (nobody o seen, []))

-- where a pass has one caller, which has a next act, that act was made
abbrev pub Acted : Me ℕ View → ℕ → Me ℕ View → Type 0
Acted me n after =
    (o : Opening) (c : ℕ) (x : Caller) (t : Act) → me.0.opening ≡ Some o → me.0.held ≡ (c, x) ∷ []
    → caller_next x ≡ Some t
    → HasActed o c x (said t n) me.0 after.0 × (after.1 ≡ me.1)
