-- Callers and those that a field was opened with: an act keeps their tasks and numbers, so that what one waits for was given.
use Rattle.std.proofs.Common.{◌≡◌, ℕ, zero, suc, List, [], ◌∷◌, length, map, set, Option, Some, None, true, refl, sym, ap, ◌∙◌, subst, inl, inr}
use Rattle.std.specs.Prelude.{slice_get, option_and_then}
use Rattle.std.specs.Option.{option_map}
use Rattle.std.proofs.lemmas.Option.{slice_get-map}
use Rattle.bit_locks.specs.Locks.{lock_number}
use Rattle.gpt_descriptors.specs.Places.{GeometryData}
use Rattle.shared_words.specs.declared.act.Act.{Act}
use Rattle.shared_words.specs.Acts.{answer_of}
use Rattle.history.specs.declared.call.Task.{Task}
use Rattle.delegate_ops.specs.Deciding.{address_of}
use Rattle.delegate_ops.specs.Deciding as agents
use Rattle.delegate_ops.specs.InnerAgents.{AgentData, HasActs, act_at, task_of}
use Rattle.processor.specs.InnerCpus.{CpuData, idle_answer}
use Rattle.processor.proofs.CpuLemmas.{some_mapped}
use Rattle.core_machine.specs.declared.caller.Caller.{Caller}
use Rattle.core_machine.specs.declared.caller.Caller.TheVariants as caller
use Rattle.core_machine.specs.InnerCallers.{caller_next, caller_took, caller_waits}
use Rattle.core_machine.specs.InnerCallerLaws.{IsHeldByAnother, IsInAccess}
use Rattle.core_machine.specs.InnerInvariant.{HoldsIn}
use Rattle.core_machine.specs.InnerScene.{Scene}
use Rattle.core_machine.specs.InnerFits.{AreMade}
use Rattle.core_machine.proofs.CallerLaws.{waits_have_causes}
use Rattle.race_run.specs.declared.view.Opening.{Opening}
use Rattle.race_run.specs.Turns.{HasAccessOf, HasCallOn, HasCause}
use Rattle.race_run.specs.InnerRule.{role_of}

-- ---- roles

-- what each item of a list keeps, the list keeps
pub map_kept : {X Y : Type 0} (f : X → Y) (xs : List X) (c : ℕ) (x y : X) → slice_get xs c ≡ Some x → f y ≡ f x → map f (set xs c y) ≡ map f xs
map_kept f [] c x y at same = absurd cc
map_kept f (w ∷ xs) zero x y at same = ap (λ v. v ∷ map f xs) (same ∙ ap f (let both : w ≡ x = cc in sym both))
map_kept f (w ∷ xs) (suc c) x y at same = ap (λ vs. f w ∷ vs) (map_kept f xs c x y at same)

-- the caller with a number that was given
given_at : (callers given : List Caller) (c : ℕ) (x : Caller) → map role_of callers ≡ map role_of given → slice_get callers c ≡ Some x → (y : Caller) × (slice_get given c ≡ Some y) × (role_of y ≡ role_of x)
given_at callers given c x same at =
    some_mapped role_of (slice_get given c) (role_of x)
    (sym (slice_get-map role_of given c) ∙ ap (λ (roles : List (List Task × Option ℕ)). slice_get roles c) (sym same) ∙ slice_get-map role_of callers c
    ∙ ap (λ (o : Option Caller). option_map role_of o) at)

agent_given : (o : Opening) (d : ℕ) (y : Caller) (a : AgentData) → slice_get o.callers d ≡ Some y → role_of y ≡ role_of (caller.Agent a)
    → (b : AgentData) × (slice_get o.callers d ≡ Some (caller.Agent b)) × (b.tasks ≡ a.tasks)
agent_given o d (caller.Agent b) a at same = (b, at, ap (λ (r : List Task × Option ℕ). r.0) same)
agent_given o d (caller.Cpu q) a at same = absurd (let both : Some q.number ≡ None = ap (λ (r : List Task × Option ℕ). r.1) same in cc)

cpu_given : (o : Opening) (d : ℕ) (y : Caller) (q : CpuData) → slice_get o.callers d ≡ Some y → role_of y ≡ role_of (caller.Cpu q)
    → (r : CpuData) × (slice_get o.callers d ≡ Some (caller.Cpu r)) × (r.tasks ≡ q.tasks) × (r.number ≡ q.number)
cpu_given o d (caller.Agent b) q at same = absurd (let both : None ≡ Some q.number = ap (λ (r : List Task × Option ℕ). r.1) same in cc)
cpu_given o d (caller.Cpu r) q at same =
    (r, at, ap (λ (v : List Task × Option ℕ). v.0) same, (let both : Some r.number ≡ Some q.number = ap (λ (v : List Task × Option ℕ). v.1) same in cc))

-- ---- waiting

-- what is made of a task has a task
task_there : {X : Type 0} (f : Task → Option X) (task : Option Task) (x : X) → option_and_then f task ≡ Some x → (t : Task) × (task ≡ Some t)
task_there f None x there = absurd cc
task_there f (Some t) x there = (t, refl)

held_given : (o : Opening) (callers : List Caller) (c : ℕ) (t : Task) → map role_of callers ≡ map role_of o.callers → AreMade o.geometry callers → IsHeldByAnother o.geometry callers c t
    → HasCallOn o c (lock_number o.geometry.setup (address_of t))
held_given o callers c t same made held =
    let there = given_at callers o.callers held.number (caller.Agent held.agent) same held.at in
    let agent = agent_given o held.number there.0 held.agent there.1 there.2 in
    let is = made held.number (caller.Agent held.agent) held.at in
    record {
      number = held.number;
      other = held.other;
      agent = agent.0;
      at = agent.1;
      call = length held.agent.answers;
      task = held.task;
      asked = subst (λ (tasks : List Task). slice_get tasks (length held.agent.answers) ≡ Some held.task) (sym agent.2) held.under_way;
      acts = subst (λ (g : GeometryData). agents.idle_answer g held.task ≡ None) is.0 (subst (HasActs held.agent.geometry) held.under_way is.1.acts);
      block = held.block;
    }

access_given : (o : Opening) (callers : List Caller) (p : ℕ) → map role_of callers ≡ map role_of o.callers → AreMade o.geometry callers → IsInAccess callers p → HasAccessOf o p
access_given o callers p same made access =
    let there = given_at callers o.callers access.number (caller.Cpu access.cpu) same access.at in
    let cpu = cpu_given o access.number there.0 access.cpu there.1 there.2 in
    record {
      number = access.number;
      cpu = cpu.0;
      at = cpu.1;
      is = cpu.3 ∙ access.is;
      call = length access.cpu.answers;
      task = access.access;
      asked = subst (λ (tasks : List Task). slice_get tasks (length access.cpu.answers) ≡ Some access.access) (sym cpu.2) access.left;
      acts = subst (λ (g : GeometryData). idle_answer g access.access ≡ None) (made access.number (caller.Cpu access.cpu) access.at).0 access.acts;
    }

pub cause_given : (o : Opening) (s : Scene) (c : ℕ) (x : Caller) (t : Act) → HoldsIn o.geometry s → AreMade o.geometry s.callers → map role_of s.callers ≡ map role_of o.callers → slice_get s.callers c ≡ Some x
    → caller_next x ≡ Some t → caller_waits (caller_took x (answer_of t s.words)) ≡ true → HasCause o c x
cause_given o s c (caller.Cpu q) t holds made same at next waits = absurd cc
cause_given o s c (caller.Agent a) t holds made same at next waits =
    let there = task_there (act_at a.geometry a.stage) (task_of a) t next in (
      there.0,
      there.1,
      elim (waits_have_causes o.geometry s c a there.0 t holds at there.1 next waits) [
        | inl held ↦ inl (held.0, held_given o s.callers c there.0 same made held.1)
        | inr busy ↦ inr (busy.0, busy.1, busy.2, busy.3, access_given o s.callers busy.1.passed same made busy.4)
      ],
    )
