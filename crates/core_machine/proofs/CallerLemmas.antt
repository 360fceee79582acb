-- What a caller holds, has open, owes and sees is in the lock blocks that it holds: of an agent, of a processor, and of a
-- caller among others.
use Rattle.std.proofs.Common.{◌≡◌, ◌≢◌, ◌⊎◌, ℕ, ◌*◌, ◌/◌, ◌<◌, ◌≤◌, [], List, map, true, false, ◌&&◌, Option, Some, None, refl, sym, ap, ◌∙◌, subst, inl, inr, arith}
use Rattle.std.specs.Prelude.{slice_get, slice_index}
use Rattle.std.specs.List.{count_by}
use Rattle.std.proofs.lemmas.Bool.{cases_Bool, cases_eq, eqb-true, eq-eqb, ne_eqb, and_parts, and_right}
use Rattle.std.proofs.lemmas.Option.{slice_get-map, slice_get_within, get_or_from_slice_get}
use Rattle.core_machine.proofs.Names.{Gpi, Size, granule_bytes, size_bytes, space_bytes, words_of, GeometryData, gen_place_of, lock_number, Holder, Whole, step_of, Task, Stage, address_of, idle_answer, granule_of_task, AgentData, HasActs, IsAgent, IsStage, task_of, Caller, SeesAt, is_around, is_due_at, is_inside, known_at, open_at, IsMade, Sees, holder_by, holds, is_due, open_by, HoldsIn, pairs_of, Scene}
use Rattle.core_machine.proofs.Names.size
use Rattle.core_machine.proofs.Names.stage
use Rattle.core_machine.proofs.Names.caller
use Rattle.table_meaning.proofs.FactLemmas.{facts_local}
use Rattle.delegate_ops.proofs.DecidingLemmas.{acts_inside}
use Rattle.delegate_ops.proofs.ScriptLemmas.{some_mapped}
use Rattle.core_machine.specs.InnerAgentCaller.{GivesAt, SeesGenerations, unraised_at, agent_holds, agent_sees, granule_under_way, is_lock_of}
use Rattle.core_machine.proofs.AddressLemmas.{lock_by_granule, lock_of, region_lock, task_lock, task_low}
use Rattle.core_machine.proofs.ListLemmas.{count_alone, one}
use Rattle.core_machine.proofs.LockLemmas.{one_holder}
use Rattle.std.proofs.Math.Nat.{div-mul-le_self}
use Rattle.core_machine.proofs.WordLemmas.{LeavesBlock}
use Rattle.core_machine.specs.InnerCallers.{unraised_by}
use Rattle.core_machine.specs.InnerWalks.{In}
use Rattle.delegate_ops.specs.Changing.{from_of}
use Rattle.core_machine.proofs.WalkLemmas.{in_pairs, one_pair}

-- what a caller has is in the blocks of the locks that it holds
pub record IsPlaced (g : GeometryData) (x : Caller) : Type 0 where
  pub low : (n : ℕ) → holds n x ≡ true → n < 128
  pub opened : (granule : ℕ) → (pairs_of granule (open_by x) ≡ []) ⊎ (holds (lock_of g.setup granule) x ≡ true)
  pub unraised : (y : Size) (granule : ℕ) (v : Gpi) → In (granule, v) (unraised_by y x) → (holds (lock_of g.setup granule) x ≡ true) × (granule * granule_bytes g.setup < space_bytes g.setup)
  pub due : (y : Size) (region : ℕ) → (is_due y region x ≡ false) ⊎ (holds (lock_number g.setup (region * size_bytes y)) x ≡ true)
  pub holder : ((holder_by x).step ≡ Whole) ⊎ (holds (lock_of g.setup (holder_by x).granule) x ≡ true)
  pub sees : (k l : ℕ → Gpi) (words after : List ℕ) → ((n : ℕ) → holds n x ≡ true → LeavesBlock g k l words after n) → Sees k words x → Sees l after x

-- ---- an agent

-- an agent outside is at its first stage
outside_stage : (s : Stage) → is_inside s ≡ false → s ≡ stage.Locking
outside_stage stage.Locking outside = refl
outside_stage s outside = absurd cc

-- inside a task it holds that task's lock
pub agent_has : (a : AgentData) (t : Task) → task_of a ≡ Some t → is_inside a.stage ≡ true → agent_holds (lock_number a.geometry.setup (address_of t)) a ≡ true
agent_has a t under_way inside = rw (inside, under_way) (eq-eqb _ _ refl)

lock_task : (g : GeometryData) (n : ℕ) (o : Option Task) → is_lock_of g n o ≡ true → (t : Task) × (o ≡ Some t) × (lock_number g.setup (address_of t) ≡ n)
lock_task g n None has = absurd cc
lock_task g n (Some t) has = (t, refl, eqb-true _ _ has)

-- and where it holds a lock it is inside a task of that lock
pub agent_inside : (a : AgentData) (n : ℕ) → agent_holds n a ≡ true → (t : Task) × (task_of a ≡ Some t) × (lock_number a.geometry.setup (address_of t) ≡ n) × (is_inside a.stage ≡ true)
agent_inside a n has =
    let parts = and_parts (is_inside a.stage) (is_lock_of a.geometry n (task_of a)) has in
    let task = lock_task a.geometry n (task_of a) parts.1 in
    (task.0, task.1, task.2, parts.0)

open_in : (g : GeometryData) (s : Stage) (o : Option Task) (granule : ℕ) → HasActs g o → (pairs_of granule (open_at g s o) ≡ []) ⊎ ((is_inside s && is_lock_of g (lock_of g.setup granule) o) ≡ true)
open_in g (stage.Raising c z k) (Some t) granule acts =
    elim (cases_eq (granule_of_task g t) granule) [
      | inl same ↦ inr (eq-eqb _ _ (sym (task_lock g t acts) ∙ ap (lock_of g.setup) same))
      | inr apart ↦ inl (rw (ne_eqb _ _ apart) refl)
    ]
open_in g s o granule acts = inl refl

unraised_in : (g : GeometryData) (s : Stage) (o : Option Task) (y : Size) (granule : ℕ) (v : Gpi) → HasActs g o → In (granule, v) (unraised_at g y s o)
    → ((is_inside s && is_lock_of g (lock_of g.setup granule) o) ≡ true) × (granule * granule_bytes g.setup < space_bytes g.setup)
unraised_in g (stage.Raising c z k) (Some t) y granule v acts has =
    let same = (one_pair (granule_of_task g t) granule (from_of t c) v (in_pairs granule v (is_due_at (stage.Raising c z k) y) _ has).1).0 in
    let low : address_of t / granule_bytes g.setup * granule_bytes g.setup ≤ address_of t = div-mul-le_self (address_of t) (granule_bytes g.setup) in (
      eq-eqb _ _ (sym (task_lock g t acts) ∙ ap (lock_of g.setup) same),
      subst (λ (n : ℕ). n * granule_bytes g.setup < space_bytes g.setup) same (omega (arith, low, acts_inside g t acts)),
    )
unraised_in g (stage.Raising c z k) None y granule v acts has = absurd (in_pairs granule v (is_due_at (stage.Raising c z k) y) [] has).1
unraised_in g s o y granule v acts has = absurd (in_pairs granule v (is_due_at s y) [] has).1

due_in : (g : GeometryData) (s : Stage) (o : Option Task) (y : Size) (region : ℕ) → HasActs g o
    → ((is_due_at s y && is_around g y region o) ≡ false) ⊎ ((is_inside s && is_lock_of g (lock_number g.setup (region * size_bytes y)) o) ≡ true)
due_in g (stage.Raising c z k) None y region acts = inl (and_right (is_due_at (stage.Raising c z k) y) false refl)
due_in g (stage.Raising c z k) (Some t) y region acts =
    elim (cases_Bool (is_around g y region (Some t))) [
      | inl around ↦ inr (eq-eqb _ _ (sym (region_lock g t acts y region (eqb-true _ _ around))))
      | inr away ↦ inl (and_right (is_due_at (stage.Raising c z k) y) (is_around g y region (Some t)) away)
    ]
due_in g s o y region acts = inl refl

holder_in : (g : GeometryData) (s : Stage) (o : Option Task) → HasActs g o → IsStage g s o → (step_of (known_at s) ≡ Whole) ⊎ ((is_inside s && is_lock_of g (lock_of g.setup (granule_under_way g o)) o) ≡ true)
holder_in g s None acts is = inl (ap (λ (x : Stage). step_of (known_at x)) is)
holder_in g stage.Locking (Some t) acts is = inl refl
holder_in g s (Some t) acts is = inr (eq-eqb _ _ (sym (task_lock g t acts)))

pub generations_stay : (g : GeometryData) (words after : List ℕ) (t : Task) (s : Stage) → ((y : Size) → slice_index after (gen_place_of g y (address_of t)) ≡ slice_index words (gen_place_of g y (address_of t)))
    → SeesGenerations g words t s → SeesGenerations g after t s
generations_stay g words after t (stage.Reading z k) same sees = λ y before. same y ∙ sees y before
generations_stay g words after t (stage.Splitting z d k) same sees = λ y. same y ∙ sees y
generations_stay g words after t (stage.Preparing k) same sees = λ y. same y ∙ sees y
generations_stay g words after t (stage.Changing c k) same sees = λ y. same y ∙ sees y
generations_stay g words after t (stage.Raising c z k) same sees = λ y. same y ∙ sees y
generations_stay g words after t (stage.Passing c d k) same sees = λ y. same y ∙ sees y
generations_stay g words after t (stage.Cleaning c l k) same sees = λ y. same y ∙ sees y
generations_stay g words after t s same sees = tt

sees_in : (a : AgentData) (k l : ℕ → Gpi) (words after : List ℕ) → IsAgent a → ((n : ℕ) → agent_holds n a ≡ true → LeavesBlock a.geometry k l words after n) → agent_sees k words a → agent_sees l after a
sees_in a k l words after is left sees t under_way =
    elim (cases_Bool (is_inside a.stage)) [
      | inr outside ↦ subst (SeesAt a.geometry l after t) (sym (outside_stage a.stage outside)) (record { known = tt; gives = tt; generations = tt })
      | inl inside ↦
          (let g = a.geometry in
          let before = sees t under_way in
          let acts : idle_answer g t ≡ None = subst (HasActs g) under_way is.acts in
          let block = left (lock_number g.setup (address_of t)) (agent_has a t under_way inside) in
          record {
            known = facts_local g.setup k l (granule_of_task g t) (known_at a.stage) (λ granule near. block.map granule (lock_by_granule g.setup granule (granule_of_task g t) near ∙ task_lock g t acts)) before.known;
            gives = subst (GivesAt t a.stage) (block.map (granule_of_task g t) (task_lock g t acts)) before.gives;
            generations = generations_stay g words after t a.stage (λ y. block.generations y (address_of t) (acts_inside g t acts) refl) before.generations;
          })
    ]

agent_placed : (a : AgentData) → IsAgent a → IsPlaced a.geometry (caller.Agent a)
agent_placed a is = record {
  low = λ n has. let task = agent_inside a n has in subst (λ (m : ℕ). m < 128) task.2 (task_low a.geometry task.0 (subst (HasActs a.geometry) task.1 is.acts) is.geometry.setup);
  opened = λ granule. open_in a.geometry a.stage (task_of a) granule is.acts;
  unraised = λ y granule v. unraised_in a.geometry a.stage (task_of a) y granule v is.acts;
  due = λ y region. due_in a.geometry a.stage (task_of a) y region is.acts;
  holder = holder_in a.geometry a.stage (task_of a) is.acts is.stage;
  sees = λ k l words after left sees. sees_in a k l words after is left sees;
}

-- ---- a caller

pub placed : (g : GeometryData) (x : Caller) → IsMade g x → IsPlaced g x
placed g (caller.Agent a) made = subst (λ (k : GeometryData). IsPlaced k (caller.Agent a)) made.0 (agent_placed a made.1)
placed g (caller.Cpu q) made = record { low = λ n has. absurd cc; opened = λ granule. inl refl; unraised = λ y granule v has. absurd has; due = λ y region. inl refl; holder = inl refl; sees = λ k l words after left sees. tt }

-- what holds of a caller of the list
pub made_at_place : (g : GeometryData) (s : Scene) (d : ℕ) (y : Caller) → HoldsIn g s → slice_get s.callers d ≡ Some y → IsMade g y
made_at_place g s d y stands at =
    subst (IsMade g) (get_or_from_slice_get s.callers d y y at) (stands.shape.made d y (slice_get_within s.callers d y at))

pub placed_at : (g : GeometryData) (s : Scene) (d : ℕ) (y : Caller) → HoldsIn g s → slice_get s.callers d ≡ Some y → IsPlaced g y
placed_at g s d y stands at = placed g y (made_at_place g s d y stands at)

-- the caller of a holder
pub holder_there : (callers : List Caller) (d : ℕ) (h : Holder) → slice_get (map holder_by callers) d ≡ Some h → (y : Caller) × (slice_get callers d ≡ Some y) × (holder_by y ≡ h)
holder_there callers d h there = some_mapped holder_by (slice_get callers d) h (sym (slice_get-map holder_by callers d) ∙ there)

-- ---- a caller that holds a lock, and the others

pub record Owner (g : GeometryData) (s : Scene) (c : ℕ) (me : Caller) (n : ℕ) : Type 0 where
  pub stands : HoldsIn g s
  pub at : slice_get s.callers c ≡ Some me
  pub has : holds n me ≡ true

module _ {g : GeometryData} {s : Scene} {c : ℕ} {me : Caller} {n : ℕ} (own : Owner g s c me n) where
  -- it alone
  pub held_once : (d : ℕ) (y : Caller) → d ≢ c → slice_get s.callers d ≡ Some y → holds n y ≡ true → ⊥
  held_once d y apart there has = apart (one_holder s.words s.callers c d n me y own.stands.locks ((placed_at g s c me own.stands own.at).low n own.has) own.at there own.has has)

  -- the others have no granule of its block open, owe none of its generations, and leave its words whole
  pub others_closed : (granule : ℕ) → lock_of g.setup granule ≡ n → (d : ℕ) (y : Caller) → d ≢ c → slice_get s.callers d ≡ Some y → pairs_of granule (open_by y) ≡ []
  others_closed granule lock d y apart there =
      elim ((placed_at g s d y own.stands there).opened granule) [ inl none ↦ none | inr has ↦ absurd (held_once d y apart there (subst (λ (m : ℕ). holds m y ≡ true) lock has)) ]

  pub others_raised : (z : Size) (region : ℕ) → lock_number g.setup (region * size_bytes z) ≡ n → (d : ℕ) (y : Caller) → d ≢ c → slice_get s.callers d ≡ Some y → is_due z region y ≡ false
  others_raised z region lock d y apart there =
      elim ((placed_at g s d y own.stands there).due z region) [ inl none ↦ none | inr has ↦ absurd (held_once d y apart there (subst (λ (m : ℕ). holds m y ≡ true) lock has)) ]

  pub others_whole : (granule : ℕ) → lock_of g.setup granule ≡ n → (d : ℕ) (y : Caller) → d ≢ c → slice_get s.callers d ≡ Some y
      → ((holder_by y).step ≡ Whole) ⊎ ((holder_by y).granule / 16 / words_of g.setup size.FiveTwelve ≢ granule / 16 / words_of g.setup size.FiveTwelve)
  others_whole granule lock d y apart there =
      elim ((placed_at g s d y own.stands there).holder) [
        | inl whole ↦ inl whole
        | inr has ↦ inr (λ near. held_once d y apart there (subst (λ (m : ℕ). holds m y ≡ true) (lock_by_granule g.setup (holder_by y).granule granule near ∙ lock) has))
      ]

  -- so what is due of a generation of its block is due of it
  pub due_alone : (z : Size) (region : ℕ) → lock_number g.setup (region * size_bytes z) ≡ n → count_by (is_due z region) s.callers ≡ one (is_due z region me)
  due_alone z region lock = count_alone (is_due z region) s.callers c me own.at (others_raised z region lock)
