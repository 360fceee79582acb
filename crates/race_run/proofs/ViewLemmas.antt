-- Views: what each of them knows stays so while others act, and no caller is held twice.
use Rattle.std.proofs.Common.{◌≡◌, ◌≢◌, ℕ, zero, suc, List, [], ◌∷◌, ◌++◌, set, Option, Some, None, refl, sym, ap, ◌∙◌, subst, inl, inr}
use Rattle.std.specs.Prelude.{slice_get}
use Rattle.std.proofs.lemmas.List.{append_assoc}
use Rattle.std.proofs.lemmas.List.Elements.{All-weaker}
use mathlib.Core.Option.{some}
use lib.ListN.{get_elem?}
use Rattle.atomic_table.proofs.Lists.{at_set}
use Rattle.history.specs.declared.entry.Entry.{Entry}
use Rattle.core_machine.specs.declared.caller.Caller.{Caller}
use Rattle.core_machine.proofs.ListLemmas.{get_set_other}
use Rattle.race_run.specs.declared.view.Opening.{Opening}
use Rattle.race_run.specs.declared.view.View.{View}
use Rattle.race_run.specs.InnerRule.{Begins, HeldOnce, KnowsOf}

-- ---- prefixes

pub begins_longer : (h made seen : List Entry) → Begins h seen → Begins (h ++ made) seen
begins_longer h made seen begins = (begins.0 ++ made, ap (λ (es : List Entry). es ++ made) begins.1 ∙ append_assoc seen begins.0 made)

-- ---- what a view knows

-- another caller has acted, and the history is longer
pub knows_still : (o : Opening) (callers : List Caller) (h made : List Entry) (c : ℕ) (x : Caller) (v : View) → KnowsOf o callers h v → ((p : ℕ) (held : ℕ × Caller) → slice_get v.held p ≡ Some held → held.0 ≢ c)
    → KnowsOf o (set callers c x) (h ++ made) v
knows_still o callers h made c x v knows others =
    record {
      opening = knows.opening;
      seen = begins_longer h made v.seen knows.seen;
      others_seen = All-weaker (Begins h) (Begins (h ++ made)) (begins_longer h made) v.others_seen knows.others_seen;
      held = λ p held at. (get_set_other callers c held.0 x (others p held at) ∙ (knows.held p held at).0, (knows.held p held at).1);
    }

-- ---- no caller is held twice

-- what holds of the one caller of a view
pub alone_held : (P : ℕ × Caller → Type 0) (a : ℕ × Caller) → P a → (p : ℕ) (held : ℕ × Caller) → slice_get (a ∷ []) p ≡ Some held → P held
alone_held P a here zero held at = subst P (let both : Some a ≡ Some held = at in cc) here
alone_held P a here (suc p) held at = absurd cc

-- the number of a caller
abbrev number_in : Option (ℕ × Caller) → ℕ
number_in None = 0
number_in (Some a) = a.0

pub one_held : (p c d : ℕ) (x y : Caller) (held : List (ℕ × Caller)) → held ≡ (c, x) ∷ [] → slice_get held p ≡ Some (d, y) → (p ≡ 0) × (d ≡ c)
one_held p c d x y [] is at = absurd cc
one_held zero c d x y (a ∷ held) is at = (refl, ap number_in (sym at ∙ ap (λ (l : List (ℕ × Caller)). slice_get l 0) is))
one_held (suc p) c d x y (a ∷ held) is at =
    absurd (let both : Some (d, y) ≡ None = sym at ∙ ap (λ (l : List (ℕ × Caller)). slice_get l (suc p)) is in cc)

-- where a caller of some view is held in the views before, of which one has changed
abbrev pub Before : List View → ℕ → ℕ → ℕ → Type 0
Before views i p d = (v : View) × (y : Caller) × (get_elem? views i ≡ some v) × (slice_get v.held p ≡ Some (d, y))

held_before : (views : List View) (id c : ℕ) (x x' : Caller) (v w : View) → get_elem? views id ≡ some v → v.held ≡ (c, x) ∷ [] → w.held ≡ (c, x') ∷ []
    → (i p d : ℕ) (u : View) (y : Caller) → get_elem? (set views id w) i ≡ some u → slice_get u.held p ≡ Some (d, y) → Before views i p d
held_before views id c x x' v w at held new i p d u y there holds =
    elim (at_set views id i w u there) [
      | inl same ↦
          (let one = one_held p c d x' y w.held new (subst (λ (n : View). slice_get n.held p ≡ Some (d, y)) (sym same.1) holds) in
          (v, x, ap (get_elem? views) same.0 ∙ at, ap (λ (l : List (ℕ × Caller)). slice_get l p) held ∙ ap (λ (n : ℕ). slice_get ((c, x) ∷ []) n) one.0 ∙ ap (λ (n : ℕ). Some (n, x)) (sym one.1)))
      | inr other ↦ (u, y, other.1, holds)
    ]

-- where each caller is held as it was before, none is held twice
pub once_before : (views after : List View) → ((i p d : ℕ) (u : View) (y : Caller) → get_elem? after i ≡ some u → slice_get u.held p ≡ Some (d, y) → Before views i p d) → HeldOnce views → HeldOnce after
once_before views after were once i j p q d u t y z first second holds also =
    let a = were i p d u y first holds in
    let b = were j q d t z second also in
    once i j p q d a.0 b.0 a.1 b.1 a.2 b.2 a.3 b.3

pub once_after : (views : List View) (id c : ℕ) (x x' : Caller) (v w : View) → get_elem? views id ≡ some v → v.held ≡ (c, x) ∷ [] → w.held ≡ (c, x') ∷ [] → HeldOnce views → HeldOnce (set views id w)
once_after views id c x x' v w at held new once = once_before views (set views id w) (held_before views id c x x' v w at held new) once
