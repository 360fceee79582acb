-- The laws of callers that running words need.
use Rattle.std.proofs.Common.{◌≡◌, ◌≢◌, ◌⊎◌, ℕ, ◌*◌, ◌/◌, ◌%◌, ◌^◌, ◌<◌, List, Bool, true, false, not, eqb, Option, Some, None, sym, refl, ap, ◌∙◌, subst, inl, inr}
use Rattle.std.specs.Prelude.{slice_get, slice_index}
use Rattle.std.specs.Int.Bits.{bit_and}
use Rattle.std.proofs.Math.Nat.{zero-mul}
use Rattle.std.proofs.lemmas.Bool.{eqb-true, eq-eqb, ltb-true}
use Rattle.std.proofs.lemmas.Nat.Bits.{and_pow}
use Rattle.core_machine.proofs.Names.{GeometryData, Duty, place_of, lock_bit, lock_number, take_act, Act, answer_of, Task, Change, Kept, Stage, address_of, idle_answer, lock_bit_of, AgentData, CpuData, HasActs, IsStage, task_of, Caller, number_by, is_inside, holds, HoldsIn, Scene}
use Rattle.core_machine.proofs.Names.caller
use Rattle.core_machine.proofs.Names.stage
use Rattle.invalidate.specs.Barrier.{BarrierData}
use Rattle.invalidate.specs.Duty.{barrier_load}
use Rattle.delegate_ops.specs.InnerAgents.{act_at, is_held}
use Rattle.processor.specs.InnerCpus as cpus
use Rattle.processor.specs.InnerProgress as progress
use Rattle.delegate_ops.proofs.AgentLemmas.{took_is_agent}
use Rattle.delegate_ops.proofs.NextLemmas.{next_there}
use Rattle.processor.proofs.CpuLemmas.{took_is_cpu, took_keeps}
use Rattle.core_machine.specs.InnerCpuCaller.{duty_at}
use Rattle.core_machine.specs.InnerCallerLaws.{ActsKeepTheirCaller, AgentsGoOn, IsHeldByAnother, IsInAccess, LocksHaveHolders, WaitsHaveCauses}
use Rattle.core_machine.proofs.AddressLemmas.{task_low}
use Rattle.core_machine.proofs.CallerLemmas.{agent_inside, made_at_place}
use Rattle.core_machine.proofs.LawLemmas.{took_leaves}
use Rattle.core_machine.proofs.NumberLemmas.{took_number, took_tasks}
use Rattle.core_machine.proofs.ListLemmas.{none_passes, some_or_none}
use Rattle.core_machine.proofs.StillLemmas.{waits_so}

-- ---- what an act keeps

pub acts_keep : ActsKeepTheirCaller
acts_keep g (caller.Agent a) old made = (((took_leaves a (task_of a) old).0 ∙ made.0, took_is_agent a old made.1), took_tasks (caller.Agent a) old, refl)
acts_keep g (caller.Cpu q) old made = (((took_keeps q old).0 ∙ made.0, took_is_cpu q old made.1), took_tasks (caller.Cpu q) old, took_number (caller.Cpu q) old)

pub agents_go_on : AgentsGoOn
agents_go_on a is left = rw (next_there a is, left) refl

-- ---- waiting

-- whoever holds a lock is an agent inside a task of that lock
held_by : (n : ℕ) (y : Caller) → holds n y ≡ true → (b : AgentData) × (u : Task) × (y ≡ caller.Agent b) × (task_of b ≡ Some u) × (lock_number b.geometry.setup (address_of u) ≡ n) × (is_inside b.stage ≡ true)
held_by n (caller.Cpu q) has = absurd cc
held_by n (caller.Agent b) has = let inside = agent_inside b n has in (b, inside.0, refl, inside.1, inside.2, inside.3)

pub locks_have_holders : LocksHaveHolders
locks_have_holders g s c a t stands at locking under_way bit =
    let n = lock_number g.setup (address_of t) in
    let made = made_at_place g s c (caller.Agent a) stands at in
    let acts : idle_answer g t ≡ None = subst (λ (k : GeometryData). idle_answer k t ≡ None) made.0 (subst (HasActs a.geometry) under_way made.1.acts) in
    elim (some_or_none (holds n) s.callers) [
      | inl none ↦ absurd (bit (stands.locks n (task_low g t acts stands.shape.geometry.setup) ∙ none))
      | inr some ↦
          (let holder = held_by n some.1 some.3 in
          let there : slice_get s.callers some.0 ≡ Some (caller.Agent holder.0) = some.2 ∙ ap Some holder.2 in
          let theirs = made_at_place g s some.0 (caller.Agent holder.0) stands there in
          record {
            number = some.0;
            other = λ same.
                let mine : a ≡ holder.0 = (let both : Some (caller.Agent a) ≡ Some (caller.Agent holder.0) = sym at ∙ ap (slice_get s.callers) (sym same) ∙ there in cc) in
                let outside : is_inside a.stage ≡ false = rw locking refl in
                let both : true ≡ false = sym holder.5 ∙ ap (λ (x : AgentData). is_inside x.stage) (sym mine) ∙ outside in
                cc;
            agent = holder.0;
            at = there;
            inside = holder.5;
            task = holder.1;
            under_way = holder.3;
            block = ap (λ (k : GeometryData). lock_number k.setup (address_of holder.1)) (sym theirs.0) ∙ holder.4;
          })
    ]

-- a lock that wasn't free has its bit set
bit_set : (words : List ℕ) (n : ℕ) → not (eqb (bit_and (slice_index words (n / 64)) (2 ^ (n % 64))) 0) ≡ true → lock_bit words n ≢ 0
bit_set words n held none =
    let clear : bit_and (slice_index words (n / 64)) (2 ^ (n % 64)) ≡ 0 = and_pow (slice_index words (n / 64)) (n % 64) ∙ ap (λ (b : ℕ). b * 2 ^ (n % 64)) none ∙ zero-mul (2 ^ (n % 64)) in
    let both : true ≡ false = sym held ∙ ap not (eq-eqb (bit_and (slice_index words (n / 64)) (2 ^ (n % 64))) 0 clear) in
    cc

-- the caller is processor p
abbrev is_numbered : ℕ → Caller → Bool
is_numbered p (caller.Agent a) = false
is_numbered p (caller.Cpu q) = eqb q.number p

numbered_cpu : (p : ℕ) (x : Caller) → is_numbered p x ≡ true → (q : CpuData) × (x ≡ caller.Cpu q) × (q.number ≡ p)
numbered_cpu p (caller.Agent a) is = absurd cc
numbered_cpu p (caller.Cpu q) is = (q, refl, eqb-true _ _ is)

is_number : (p : ℕ) (x : Caller) → number_by x ≡ Some p → is_numbered p x ≡ true
is_number p (caller.Agent a) is = absurd cc
is_number p (caller.Cpu q) is = eq-eqb q.number p cc

duty_one : (st : progress.Stage) → duty_at st ≢ 0 → duty_at st ≡ 1
duty_one progress.Starting on = absurd (on refl)
duty_one st on = refl

-- a processor whose duty word isn't 0 has an access left
access_left : (q : CpuData) (o : Option Task) → cpus.IsAt q.geometry o q.stage → duty_at q.stage ≢ 0 → (u : Task) × (o ≡ Some u)
access_left q None is on = absurd (on (ap duty_at is))
access_left q (Some u) is on = (u, refl)

duty_held : (g : GeometryData) (s : Scene) (p : ℕ) → HoldsIn g s → p < g.cpus → slice_index s.words (place_of g (Duty p)) ≢ 0 → IsInAccess s.callers p
duty_held g s p stands low busy =
    elim (some_or_none (is_numbered p) s.callers) [
      | inl none ↦ absurd (busy (stands.others p low (λ d x there is. let both : true ≡ false = sym (is_number p x is) ∙ none_passes (is_numbered p) s.callers d x none there in cc)))
      | inr some ↦
          (let own = numbered_cpu p some.1 some.3 in
          let there : slice_get s.callers some.0 ≡ Some (caller.Cpu own.0) = some.2 ∙ ap Some own.1 in
          let made = made_at_place g s some.0 (caller.Cpu own.0) stands there in
          let on : duty_at own.0.stage ≢ 0 = λ off. busy (stands.duties some.0 p (caller.Cpu own.0) there (ap Some own.2) ∙ off) in
          let access = access_left own.0 (cpus.task_of own.0) made.1.stage on in
          record { number = some.0; cpu = own.0; at = there; is = own.2; on = duty_one own.0.stage on; access = access.0; left = access.1; acts = subst (cpus.HasActs own.0.geometry) access.1 made.1.acts })
    ]

abbrev Cause : GeometryData → Scene → ℕ → Task → Stage → Type 0
Cause g s c t st =
    ((st ≡ stage.Locking) × IsHeldByAnother g s.callers c t) ⊎ ((ch : Change) × (d : BarrierData) × (k : Kept) × (st ≡ stage.Passing ch d k) × IsInAccess s.callers d.passed)

waits_by : (g : GeometryData) (s : Scene) (c : ℕ) (a : AgentData) (t : Task) (st : Stage) (next : Act) → a.geometry ≡ g → HoldsIn g s → slice_get s.callers c ≡ Some (caller.Agent a) → task_of a ≡ Some t → a.stage ≡ st → IsStage a.geometry st (Some t)
    → act_at a.geometry st t ≡ Some next → is_held a.geometry t st (answer_of next s.words) ≡ true → Cause g s c t st
waits_by g s c a t stage.Locking next geometry stands at under_way here fits acts held =
    let same : take_act (lock_bit_of a.geometry t) ≡ next = cc in
    let bit = bit_set s.words (lock_number a.geometry.setup (address_of t)) (subst (λ (x : Act). is_held a.geometry t stage.Locking (answer_of x s.words) ≡ true) (sym same) held) in
    inl (refl, locks_have_holders g s c a t stands at here under_way (subst (λ (k : GeometryData). lock_bit s.words (lock_number k.setup (address_of t)) ≢ 0) geometry bit))
waits_by g s c a t (stage.Passing ch d k) next geometry stands at under_way here fits acts held =
    let load : barrier_load a.geometry d.passed ≡ next = let both : Some (barrier_load a.geometry d.passed) ≡ Some next = rw fits.1.low at acts in cc in
    let low : d.passed < a.geometry.cpus = subst (λ (n : ℕ). d.passed < n) fits.1.cpus (ltb-true _ _ fits.1.low) in
    let word : ℕ = slice_index s.words (place_of a.geometry (Duty d.passed)) in
    let busy : not (eqb word 0) ≡ true = subst (λ (x : Act). not (eqb (answer_of x s.words) 0) ≡ true) (sym load) held in
    let on : word ≢ 0 = λ off. let both : true ≡ false = sym busy ∙ ap not (eq-eqb word 0 off) in cc in
    inr (ch, d, k, refl, duty_held g s d.passed stands (subst (λ (n : GeometryData). d.passed < n.cpus) geometry low) (subst (λ (n : GeometryData). slice_index s.words (place_of n (Duty d.passed)) ≢ 0) geometry on))
waits_by g s c a t st next geometry stands at under_way here fits acts held = absurd cc

pub waits_have_causes : WaitsHaveCauses
waits_have_causes g s c a t next stands at under_way acts waited =
    let made = made_at_place g s c (caller.Agent a) stands at in
    let so = waits_so a t a.stage (answer_of next s.words) (rw under_way at waited) in
    waits_by g s c a t a.stage next made.0 stands at under_way refl (subst (IsStage a.geometry a.stage) under_way made.1.stage) (rw under_way at acts) so.held
