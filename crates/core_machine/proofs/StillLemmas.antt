-- Turns that change nothing: those of a caller without a next act, and a wait after a wait.
use Rattle.std.proofs.Common.{◌≡◌, ◌≢◌, ℕ, zero, suc, ◌+◌, ◌*◌, ◌/◌, ◌%◌, ◌^◌, ◌<◌, ◌-◌, ◌∷◌, [], List, Bool, true, not, eqb, ltb, Option, Some, None, length, get_or, set, replicate, refl, sym, ap, ◌∙◌, subst, arith, inl, inr}
use Rattle.std.specs.Prelude.{slice_get, slice_index}
use Rattle.std.specs.Int.{bit_at}
use Rattle.std.specs.Int.Bits.{bit_and, bit_or, or_add_and}
use Rattle.std.specs.List.{flat_map, range_with_len}
use Rattle.std.proofs.Math.Nat.{zero-mul}
use Rattle.std.proofs.lemmas.Bool.{cases_Bool, eq-eqb}
use Rattle.std.proofs.lemmas.Option.{slice_get-get_or}
use Rattle.std.proofs.lemmas.List.{set-get_or}
use Rattle.std.proofs.lemmas.Nat.Bits.{and_pow, bit_at-lt}
use Rattle.core_machine.proofs.Names.{GeometryData, Duty, place_of, Act, answer_of, after_act, take_act, Task, Stage, lock_bit_of, AgentData, task_of, next_of, took_at, Caller, caller_next, caller_took, MachineData, after_turn, after_turns}
use Rattle.core_machine.proofs.Names.stage
use Rattle.core_machine.proofs.Names.caller
use Rattle.bit_locks.specs.Locks.{bit_with}
use Rattle.invalidate.specs.Barrier.{BarrierData, next_load}
use Rattle.invalidate.specs.Duty.{barrier_load}
use Rattle.delegate_ops.specs.InnerAgents.{act_at, is_held, waits_at, took_under_way}
use Rattle.core_machine.specs.InnerCallers.{caller_waits}
use Rattle.core_machine.proofs.MachineLemmas.{after_turns-append, replicate_more, range_front}

-- ---- a held lock

-- to set a bit that is set changes nothing
set_again : (word k : ℕ) → bit_and word (2 ^ k) ≢ 0 → bit_or word (2 ^ k) ≡ word
set_again word k held =
    let and = and_pow word k in
    let low = bit_at-lt word k in
    let clear : bit_at word k ≢ 0 = λ none. held (and ∙ ap (λ (b : ℕ). b * 2 ^ k) none ∙ zero-mul (2 ^ k)) in
    let one : bit_at word k ≡ 1 = omega (arith, low, clear) in
    let mask : bit_and word (2 ^ k) ≡ 1 * 2 ^ k = and ∙ ap (λ (b : ℕ). b * 2 ^ k) one in
    omega (arith, or_add_and word (2 ^ k), mask)

take_again : (words : List ℕ) (n : ℕ) → not (eqb (bit_and (answer_of (take_act (bit_with n)) words) (2 ^ (n % 64))) 0) ≡ true → after_act (take_act (bit_with n)) words ≡ words
take_again words n held =
    let word = slice_index words (n / 64) in
    let same : bit_or word (2 ^ (n % 64)) ≡ word = set_again word (n % 64) (λ free. absurd (let both = eq-eqb _ _ free in cc)) in
    ap (set words (n / 64)) same ∙ set-get_or words (n / 64) 0

-- ---- an agent that waits

-- an act after which an agent has waited is a lock that was held, or a load of a duty word that wasn't 0
pub record Waits (a : AgentData) (t : Task) (s : Stage) (old : ℕ) : Type 0 where
  pub held : is_held a.geometry t s old ≡ true
  pub after : took_at a t s old ≡ waits_at a

pub waits_so : (a : AgentData) (t : Task) (s : Stage) (old : ℕ) → (took_at a t s old).waited ≡ true → Waits a t s old
waits_so a t stage.Locking old waited =
    elim (cases_Bool (is_held a.geometry t stage.Locking old)) [
      | inl held ↦ record { held = held; after = rw held refl }
      | inr free ↦ absurd (let never = rw free at waited in cc)
    ]
waits_so a t (stage.Passing ch d k) old waited =
    elim (cases_Bool (is_held a.geometry t (stage.Passing ch d k) old)) [
      | inl held ↦ record { held = held; after = rw held refl }
      | inr free ↦ absurd (let never = rw free at waited in cc)
    ]
waits_so a t (stage.Releasing answer) old waited = absurd cc
waits_so a t s old waited = absurd cc

waiting_is : (a : AgentData) → a.waited ≡ true → waits_at a ≡ a
waiting_is a waited =
    ap (λ (b : Bool). record { geometry = a.geometry; tasks = a.tasks; answers = a.answers; stage = a.stage; waited = b }) (sym waited)

agent_again : (a : AgentData) (o : Option Task) (old : ℕ) → a.waited ≡ true → (took_under_way a o old).waited ≡ true → took_under_way a o old ≡ a
agent_again a None old waited again = refl
agent_again a (Some t) old waited again = (waits_so a t a.stage old again).after ∙ waiting_is a waited

caller_again : (x : Caller) (old : ℕ) → caller_waits x ≡ true → caller_waits (caller_took x old) ≡ true → caller_took x old ≡ x
caller_again (caller.Agent a) old waited again = ap caller.Agent (agent_again a (task_of a) old waited again)
caller_again (caller.Cpu q) old waited again = absurd cc

-- ---- the words after it

locked_words : (g : GeometryData) (u : Task) (s : Stage) (t : Act) (words : List ℕ) → act_at g s u ≡ Some t → is_held g u s (answer_of t words) ≡ true → after_act t words ≡ words
locked_words g u stage.Locking t words next held =
    let same : take_act (lock_bit_of g u) ≡ t = cc in
    subst (λ (x : Act). after_act x words ≡ words) same
    (take_again words _ (subst (λ (x : Act). is_held g u stage.Locking (answer_of x words) ≡ true) (sym same) held))
locked_words g u (stage.Passing ch d k) t words next held = subst (λ (x : Act). after_act x words ≡ words) (loads g d t next) (set-get_or words (place_of g (Duty d.passed)) 0)
  where
    loads : (g : GeometryData) (d : BarrierData) (t : Act) → next_load g d ≡ Some t → barrier_load g d.passed ≡ t
    loads g d t next =
        elim (cases_Bool (ltb d.passed d.cpus)) [ inl more ↦ (let both : Some (barrier_load g d.passed) ≡ Some t = rw more at next in cc) | inr over ↦ absurd (let none : None ≡ Some t = rw over at next in cc) ]
locked_words g u s t words next held = absurd cc

agent_words : (a : AgentData) (o : Option Task) (t : Act) (words : List ℕ) → task_of a ≡ o → next_of a ≡ Some t → (took_under_way a o (answer_of t words)).waited ≡ true → after_act t words ≡ words
agent_words a None t words under_way next waited = absurd (let never = rw under_way at next in cc)
agent_words a (Some u) t words under_way next waited =
    let so = waits_so a u a.stage (answer_of t words) waited in
    locked_words a.geometry u a.stage t words (rw under_way at next) so.held

caller_words : (x : Caller) (t : Act) (words : List ℕ) → caller_next x ≡ Some t → caller_waits (caller_took x (answer_of t words)) ≡ true → after_act t words ≡ words
caller_words (caller.Agent a) t words next waited = agent_words a (task_of a) t words refl next waited
caller_words (caller.Cpu q) t words next waited = absurd cc

-- ---- one turn

-- a caller that had waited waits again: its turn changes nothing
pub waits_still : (m : MachineData) (c : ℕ) (a : Caller) (t : Act) → c < length m.callers → a ≡ get_or m.callers c a → caller_next a ≡ Some t → caller_waits a ≡ true
    → caller_waits (caller_took a (answer_of t m.words)) ≡ true → after_turn m c ≡ m
waits_still m c a t within here next waited again =
    let at : slice_get m.callers c ≡ Some a = slice_get-get_or m.callers c a within ∙ ap Some (sym here) in
    let same : caller_took a (answer_of t m.words) ≡ a = caller_again a (answer_of t m.words) waited again in
    let callers : set m.callers c (caller_took a (answer_of t m.words)) ≡ m.callers = ap (set m.callers c) (same ∙ here) ∙ set-get_or m.callers c a in
    let words : after_act t m.words ≡ m.words = caller_words a t m.words next again in
    rw (at, next) (λ i. record { geometry = m.geometry; callers = callers i; words = words i })

-- ---- many turns

-- where some turns change nothing, no number of them does
still_turns : (m n : MachineData) (c k d : ℕ) → n ≡ after_turns m (replicate k c) → after_turn n c ≡ n → n ≡ after_turns m (replicate (k + d) c)
still_turns m n c k zero so same = so ∙ ap (λ (x : ℕ). after_turns m (replicate x c)) (let sum : k ≡ k + 0 = omega arith in sum)
still_turns m n c k (suc d) so same =
    let before = still_turns m n c k d so same in
    let sum : k + d + 1 ≡ k + suc d = omega arith in
    sym same ∙ ap (λ (x : MachineData). after_turn x c) before
    ∙ sym (after_turns-append m (replicate (k + d) c) (c ∷ [])) ∙ ap (after_turns m) (sym (replicate_more c (k + d)))
    ∙ ap (λ (x : ℕ). after_turns m (replicate x c)) sum

-- the turns that were asked for, where the last one that was made changed nothing
pub turns_end : (m n p : MachineData) (c k count : ℕ) → n ≡ after_turns m (replicate k c) → p ≡ after_turn n c → p ≡ n → k < count → p ≡ after_turns m (replicate count c)
turns_end m n p c k count so turned same before =
    same ∙ still_turns m n c k (count - k) so (sym turned ∙ same) ∙ ap (λ (x : ℕ). after_turns m (replicate x c)) (let sum : k + (count - k) ≡ count = omega (arith, before) in sum)

still_rounds : (m n : MachineData) (f : ℕ → List ℕ) (turns : List ℕ) (k d : ℕ) → ((x : ℕ) → f x ≡ turns) → n ≡ after_turns m (flat_map f (range_with_len 0 k)) → after_turns n turns ≡ n
    → n ≡ after_turns m (flat_map f (range_with_len 0 (k + d)))
still_rounds m n f turns k zero each so same = so ∙ ap (λ (x : ℕ). after_turns m (flat_map f (range_with_len 0 x))) (let sum : k ≡ k + 0 = omega arith in sum)
still_rounds m n f turns k (suc d) each so same =
    let before = still_rounds m n f turns k d each so same in
    let sum : k + d + 1 ≡ k + suc d = omega arith in
    sym same ∙ ap (after_turns n) (sym (each (k + d))) ∙ ap (λ (x : MachineData). after_turns x (f (k + d))) before
    ∙ sym (after_turns-append m (flat_map f (range_with_len 0 (k + d))) (f (k + d))) ∙ ap (after_turns m) (sym (range_front f (k + d)))
    ∙ ap (λ (x : ℕ). after_turns m (flat_map f (range_with_len 0 x))) sum

pub rounds_end : (m n p : MachineData) (turns : List ℕ) (k times : ℕ) → n ≡ after_turns m (flat_map (λ (x : ℕ). turns) (range_with_len 0 k)) → p ≡ after_turns n turns → p ≡ n → k < times
    → p ≡ after_turns m (flat_map (λ (x : ℕ). turns) (range_with_len 0 times))
rounds_end m n p turns k times so turned same before =
    same ∙ still_rounds m n (λ (x : ℕ). turns) turns k (times - k) (λ x. refl) so (sym turned ∙ same)
    ∙ ap (λ (x : ℕ). after_turns m (flat_map (λ (y : ℕ). turns) (range_with_len 0 x))) (let sum : k + (times - k) ≡ times = omega (arith, before) in sum)
