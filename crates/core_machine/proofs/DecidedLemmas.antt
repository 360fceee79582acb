-- Decided accesses: what their answers, their stages and their lists are.
use Rattle.std.proofs.Common.{◌≡◌, ℕ, ◌∷◌, [], List, Bool, true, false, eqb, Option, Some, None, refl, sym, ap, ◌∙◌, subst, inl, inr, if◌then◌else◌}
use Rattle.std.proofs.lemmas.Bool.{cases_Bool, and_parts, eqb-true, eq-eqb}
use Rattle.core_machine.proofs.Names.{Gpi, GeometryData, Entry, Task}
use Rattle.core_machine.proofs.Names.task
use Rattle.gpi_values.specs.declared.gpi.Space.{Space}
use Rattle.gpi_values.specs.Values.{permits_of}
use Rattle.gpt_descriptors.specs.Sizes.{granule_number}
use Rattle.gpt_descriptors.specs.declared.size.Reach.{Reach}
use Rattle.walk_cache.specs.declared.walk.Walk.{Walk}
use Rattle.history.specs.declared.call.Access.{Access}
use Rattle.history.specs.declared.call.OldWalk.{OldWalk}
use Rattle.history.specs.declared.call.Via.{Via}
use Rattle.history.specs.declared.call.Via.TheVariants as via
use Rattle.history.specs.Events.{CallEvent}
use Rattle.history.specs.Legality.{is_still}
use Rattle.history.specs.Stamps.{walked}
use Rattle.processor.specs.Accesses.{looked_entry, table_access}
use Rattle.processor.specs.InnerProgress.{Stage, decided_stage}
use Rattle.processor.specs.InnerProgress as stage
use Rattle.processor.specs.InnerCpus.{duty_at}
use Rattle.processor.specs.InnerScript.{IsPartOf, IsPrefix}
use Rattle.processor.specs.Script.{Decides}
use Rattle.core_machine.specs.Lines.{is_allowed_look}
use Rattle.core_machine.specs.InnerCpuCaller.{Decision, StampedBy, decided_at, decision_of, loads_at, stamps_at, touch_by, touching_at, walk_at}
use Rattle.core_machine.specs.InnerWalks.{In}
use Rattle.core_machine.proofs.LineLemmas.{own_permits, permitted_space}
use Rattle.core_machine.proofs.WalkLemmas.{in_if}

-- ---- answers

-- an access at an L1 table is answered by the GPI that decided it
pub record IsTableAccess (space : Space) (given : Access) : Type 0 where
  pub allowed : given.allowed ≡ permits_of given.gpi space
  pub level : given.level ≡ 1
  pub walked : is_still given.via ≡ false

walked_way : (m : Option OldWalk) (r : Reach) (lo hi : ℕ) → is_still (walked m r lo hi) ≡ false
walked_way None r lo hi = refl
walked_way (Some old) r lo hi = refl

table_one : (space : Space) (gpi : Gpi) (v : Via) (given : Access) → is_still v ≡ false → given ≡ table_access space gpi v → IsTableAccess space given
table_one space gpi v given walked is = subst (IsTableAccess space) (sym is) (record { allowed = refl; level = refl; walked = walked })

pub decided_access : (g : GeometryData) (p c n pa : ℕ) (space : Space) (kept : List Walk) (given : Access) (later : List Walk) (events : List CallEvent) → Decides g p c n pa space kept given later events → IsTableAccess space given
decided_access g p c n pa space kept given later events (inl hits) = table_one space hits.0.gpi (via.Hit hits.0.walk.reach hits.0.walk.tag) given refl hits.0.is
decided_access g p c n pa space kept given later events (inr walks) = table_one space walks.gpi _ given (walked_way walks.missed walks.walk.reach walks.walk.tag walks.hi) walks.is

-- one that is about to touch its line is permitted
abbrev pub IsPermitted : Space → Stage → Type 0
IsPermitted space (stage.Touching a) = permits_of a.gpi space ≡ true
IsPermitted space s = Unit {0}

part_permits : (g : GeometryData) (p c n pa : ℕ) (space : Space) (kept now : List Walk) (s : Stage) (events : List CallEvent) → IsPartOf g p c n pa space kept now s events → IsPermitted space s
part_permits g p c n pa space kept now (stage.Touching a) events part = sym (decided_access g p c n pa space kept a now events part.0).allowed ∙ part.1
part_permits g p c n pa space kept now s events part = tt

pub prefix_permits : (g : GeometryData) (p c n pa : ℕ) (space : Space) (kept now : List Walk) (s : Stage) (o : Option Task) (events : List CallEvent) → o ≡ Some (task.Look pa space) → IsPrefix g p c n kept now s o events → IsPermitted space s
prefix_permits g p c n pa space kept now s o events is prefix = part_permits g p c n pa space kept now s events (subst (λ (u : Option Task). IsPrefix g p c n kept now s u events) is prefix)

-- ---- the stage of a decided access

abbrev pair_at : ℕ → Space → ℕ × Space
pair_at k s = (k, s)

either_stage : (P : Stage → Type 0) (b : Bool) (x y : Stage) → P x → P y → P (if b then x else y)
either_stage P true x y of_x of_y = of_x
either_stage P false x y of_x of_y = of_y

-- what holds at the touch and at the end
pub decided_at_either : (P : Stage → Type 0) (a : Access) → P (stage.Touching a) → P (stage.Leaving a) → P (decided_stage a)
decided_at_either P a touching leaving = either_stage P a.allowed (stage.Touching a) (stage.Leaving a) touching leaving

pub decided_on : (a : Access) → duty_at (decided_stage a) ≡ 1
decided_on a = decided_at_either (λ s. duty_at s ≡ 1) a refl refl

pub decided_loads : (g : GeometryData) (words : List ℕ) (pa : ℕ) (a : Access) → loads_at g words pa (decided_stage a)
decided_loads g words pa a = decided_at_either (loads_at g words pa) a tt tt

pub decided_stamps : (g : GeometryData) (map : List Gpi) (c k pa : ℕ) (space : Space) (a : Access) (h : List Entry) → StampedBy g map c k pa space a h → stamps_at g map c k pa space (decided_stage a) h
decided_stamps g map c k pa space a h stamped = decided_at_either (λ s. stamps_at g map c k pa space s h) a stamped stamped

pub decided_walks : (a : Access) → walk_at (decided_stage a) ≡ []
decided_walks a = decided_at_either (λ s. walk_at s ≡ []) a refl refl

pub decided_list : (g : GeometryData) (pa : ℕ) (space : Space) (a : Access) → decided_at g pa space (decided_stage a) ≡ decision_of g pa space (Some a.gpi)
decided_list g pa space a = decided_at_either (λ s. decided_at g pa space s ≡ decision_of g pa space (Some a.gpi)) a refl refl

pub decided_touching : (g : GeometryData) (pa : ℕ) (space : Space) (gpi : Gpi) (v : Via) → touching_at g pa space (decided_stage (table_access space gpi v)) ≡ touch_by g pa space (Some gpi)
decided_touching g pa space gpi v =
    let a : Access = table_access space gpi v in
    let at : Bool → List (ℕ × Space) = λ b. touching_at g pa space (if b then stage.Touching a else stage.Leaving a) in
    elim (cases_Bool (permits_of gpi space)) [
      | inl is ↦ ap at is
      | inr other ↦ ap at other ∙ sym (ap (λ (b : Bool). if b then pair_at (granule_number g.setup pa) space ∷ [] else []) other)
    ]

-- ---- the look that it makes

pub one_decision : (g : GeometryData) (pa : ℕ) (space : Space) (gpi : Gpi) (d : Decision) → In d (decision_of g pa space (Some gpi)) → record { granule = granule_number g.setup pa; space = space; gpi = gpi } ≡ d
one_decision g pa space gpi d (inl is) = is
one_decision g pa space gpi d (inr none) = absurd none

-- an allowed look is of its granule and space, which it is about to touch
pub look_touches : (g : GeometryData) (c n pa k : ℕ) (space sp : Space) (gpi : Gpi) → is_allowed_look k sp (looked_entry g c n pa space gpi) ≡ true → In {A = ℕ × Space} (k, sp) (touch_by g pa space (Some gpi))
look_touches g c n pa k space sp gpi is =
    let parts = and_parts (permits_of gpi space) _ is in
    let both = and_parts (eqb (granule_number g.setup pa) k) _ parts.1 in
    let granule : granule_number g.setup pa ≡ k = eqb-true _ _ both.0 in
    let same : space ≡ sp = permitted_space space sp both.1 in
    rw parts.0 (inl (ap (λ (j : ℕ). pair_at j space) granule ∙ ap (pair_at k) same))

-- and one that is permitted is allowed
pub look_is : (g : GeometryData) (c n pa : ℕ) (space : Space) (gpi : Gpi) → permits_of gpi space ≡ true → is_allowed_look (granule_number g.setup pa) space (looked_entry g c n pa space gpi) ≡ true
look_is g c n pa space gpi permits = rw (permits, eq-eqb (granule_number g.setup pa) (granule_number g.setup pa) refl, own_permits space) refl

-- a line that is about to be touched is this one
pub one_touch : (g : GeometryData) (pa : ℕ) (space : Space) (gpi : Gpi) (k : ℕ) (sp : Space) → In {A = ℕ × Space} (k, sp) (touch_by g pa space (Some gpi)) → (granule_number g.setup pa ≡ k) × (space ≡ sp)
one_touch g pa space gpi k sp has =
    let here : In {A = ℕ × Space} (k, sp) (pair_at (granule_number g.setup pa) space ∷ []) = (in_if (pair_at k sp) (permits_of gpi space) _ has).1 in
    elim here [ inl is ↦ (ap (λ (p : ℕ × Space). p.0) is, ap (λ (p : ℕ × Space). p.1) is) | inr none ↦ absurd none ]
