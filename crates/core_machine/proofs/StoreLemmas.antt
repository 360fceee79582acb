-- Runs of stores, and the turns that they are.
use Rattle.std.proofs.Common.{◌≡◌, ℕ, zero, suc, ◌+◌, ◌-◌, ◌≤◌, ◌<◌, ◌∷◌, ◌++◌, [], List, get_or, set, Some, length, replicate, refl, sym, ap, ◌∙◌, subst, arith, add-one}
use Rattle.std.specs.Prelude.{slice_get}
use Rattle.std.proofs.lemmas.List.{set-get_or, set-set, replicate-append-replicate}
use Rattle.gpt_descriptors.specs.Places.{GeometryData, word_count}
use Rattle.shared_words.specs.declared.act.StoreRun.{StoreRun}
use Rattle.shared_words.specs.Acts.{store_in, after_stores}
use Rattle.shared_words.proofs.StoreLemmas.{stores_more}
use Rattle.shared_words.proofs.StoreLemmas as shared
use Rattle.delegate_ops.specs.InnerAgents.{AgentData}
use Rattle.delegate_ops.specs.InnerRuns.{stored_by}
use Rattle.core_machine.specs.declared.caller.Caller.{Caller}
use Rattle.core_machine.specs.declared.caller.Caller.TheVariants as caller
use Rattle.core_machine.specs.InnerCallers.{caller_took, caller_stored, AreNext, StoresNext, IsCallerOf, IsMade}
use Rattle.core_machine.specs.InnerMachine.{MachineData, InvariantFor, HasInvariant, KeepsInvariant, after_turn, after_turns, trace_of}
use Rattle.core_machine.specs.Trace.{history_of}
use Rattle.core_machine.proofs.CallerLaws.{acts_keep}
use Rattle.core_machine.proofs.LawLemmas.{acts_have_places}
use Rattle.core_machine.proofs.ListLemmas.{get_set_same}
use Rattle.core_machine.proofs.MachineLemmas.{after_turns-append, replicate_more, turns_more, turns_hold, found_at}

-- ---- a caller

pub stored_agent : (n : ℕ) (a : AgentData) → caller_stored n (caller.Agent a) ≡ caller.Agent (stored_by n a)
unfolding caller_stored stored_by
stored_agent zero a = refl
stored_agent (suc n) a = ap (λ (x : Caller). caller_took x 0) (stored_agent n a)

pub stored_none : (x : Caller) → caller_stored 0 x ≡ x
unfolding caller_stored
stored_none x = refl

pub ruleset caller_runs = (stored_agent, stored_none)

caller_made : (g : GeometryData) (n : ℕ) (x : Caller) → IsCallerOf g x → IsCallerOf g (caller_stored n x)
unfolding caller_stored
caller_made g zero x made = made
caller_made g (suc n) x made = (acts_keep g (caller_stored n x) 0 (caller_made g n x made)).0

-- the places of a run are among the words
run_low : (g : GeometryData) (x : Caller) (run : StoreRun) (n : ℕ) → IsCallerOf g x → AreNext run x → run.count ≡ suc n → run.first + run.count ≤ word_count g
run_low g x run n made next last =
    let low : run.first + n < word_count g = acts_have_places g (caller_stored n x) (store_in run n) (caller_made g n x made) (next n (omega (arith, last))) in
    omega (arith, low, last)

run_within : (g : GeometryData) (x : Caller) (run : StoreRun) (words : List ℕ) → IsCallerOf g x → AreNext run x → length words ≡ word_count g → 0 < run.count → run.first + run.count ≤ length words
run_within g x run words made next size some =
    let last : run.count ≡ suc (run.count - 1) = omega (arith, some) in
    omega (arith, run_low g x run (run.count - 1) made next last, size)

-- ---- a machine

called : (g : GeometryData) (x : Caller) → IsMade g x → IsCallerOf g x
called g (caller.Agent a) made = (made.0, made.1)
called g (caller.Cpu q) made = (made.0, made.1)

pub run_fits : (m : MachineData) (c : ℕ) (x : Caller) (run : StoreRun) → HasInvariant m → c < length m.callers → x ≡ get_or m.callers c x → AreNext run x → 0 < run.count
    → run.first + run.count ≤ length m.words
run_fits m c x run has within here next some =
    let shape = has.2.shape in
    run_within m.geometry x run m.words (called m.geometry x (subst (IsMade m.geometry) (sym here) (shape.made c x within))) next shape.size some

stored_more : (n : ℕ) (x : Caller) → caller_took (caller_stored n x) 0 ≡ caller_stored (n + 1) x
unfolding caller_stored
stored_more n x = ap (λ (k : ℕ). caller_stored k x) (sym (add-one n))

abbrev pub stored_machine : MachineData → ℕ → Caller → StoreRun → ℕ → MachineData
stored_machine m c x run n = record { geometry = m.geometry; callers = set m.callers c (caller_stored n x); words = after_stores run n m.words }

stored_step : (m : MachineData) (c : ℕ) (x : Caller) (run : StoreRun) (n : ℕ) → c < length m.callers → AreNext run x → n < run.count
    → after_turn (stored_machine m c x run n) c ≡ stored_machine m c x run (n + 1)
stored_step m c x run n within next low =
    let at : slice_get (set m.callers c (caller_stored n x)) c ≡ Some (caller_stored n x) = get_set_same m.callers c (caller_stored n x) within in
    rw (at, next n low, set-set m.callers c (caller_stored n x) (caller_took (caller_stored n x) 0), stored_more n x, stores_more run n m.words) refl

pub run_turns : (m : MachineData) (c : ℕ) (x : Caller) (run : StoreRun) (n : ℕ) → c < length m.callers → x ≡ get_or m.callers c x → AreNext run x → n ≤ run.count
    → after_turns m (replicate n c) ≡ stored_machine m c x run n
run_turns m c x run zero within here next low =
    let callers : set m.callers c (caller_stored 0 x) ≡ m.callers = ap (set m.callers c) (stored_none x ∙ here) ∙ set-get_or m.callers c x in
    sym (λ i. record { geometry = m.geometry; callers = callers i; words = shared.stores_none run m.words i })
run_turns m c x run (suc n) within here next low =
    ap (λ (k : ℕ). after_turns m (replicate k c)) (sym (add-one n)) ∙ ap (after_turns m) (replicate_more c n) ∙ after_turns-append m (replicate n c) (c ∷ [])
    ∙ ap (λ (k : MachineData). after_turn k c) (run_turns m c x run n within here next (omega (arith, low))) ∙ stored_step m c x run n within next (omega (arith, low))
    ∙ ap (stored_machine m c x run) (add-one n)

-- the machine after the run
pub run_made : (m : MachineData) (c : ℕ) (x y : Caller) (run : StoreRun) (words : List ℕ) → c < length m.callers → x ≡ get_or m.callers c x → AreNext run x → y ≡ caller_stored run.count x
    → words ≡ after_stores run run.count m.words → record { geometry = m.geometry; callers = set m.callers c y; words = words } ≡ after_turns m (replicate run.count c)
run_made m c x y run words within here next took made =
    rw (took, made) (sym (run_turns m c x run run.count within here next (omega arith)))

pub run_empty : (m : MachineData) (c : ℕ) (x y : Caller) (run : StoreRun) → x ≡ get_or m.callers c x → y ≡ caller_stored run.count x → run.count ≡ 0
    → record { geometry = m.geometry; callers = set m.callers c y; words = m.words } ≡ m
run_empty m c x y run here took none =
    let same : y ≡ get_or m.callers c x = took ∙ ap (λ (n : ℕ). caller_stored n x) none ∙ stored_none x ∙ here in
    ap (λ (callers : List Caller). record { geometry = m.geometry; callers = callers; words = m.words }) (ap (set m.callers c) same ∙ set-get_or m.callers c x)

found_same : (callers : List Caller) (c : ℕ) (a x : Caller) → c < length callers → a ≡ get_or callers c a → slice_get callers c ≡ Some x → StoresNext a → StoresNext x
found_same callers c a x within here at stores = let same = found_at callers c a within here in subst StoresNext (let e : a ≡ x = cc in e) stores

pub stores_here : (callers : List Caller) (c : ℕ) (a : Caller) → c < length callers → a ≡ get_or callers c a → StoresNext a → (x : Caller) → slice_get callers c ≡ Some x → StoresNext x
stores_here callers c a within here stores x at = found_same callers c a x within here at stores

caller_there : (callers : List Caller) (c : ℕ) → c < length callers → (x : Caller) × (slice_get callers c ≡ Some x)
caller_there [] c within = absurd (omega arith)
caller_there (x ∷ callers) zero within = (x, refl)
caller_there (x ∷ callers) (suc c) within = caller_there callers c (omega (arith, within))

-- a run of a caller whose next act is a store isn't empty
pub run_some : (m : MachineData) (c k most : ℕ) → c < length m.callers → 0 < most → ((x : Caller) → slice_get m.callers c ≡ Some x → StoresNext x)
    → ((x : Caller) → slice_get m.callers c ≡ Some x → 0 < most → StoresNext x → 0 < k) → 0 < k
run_some m c k most within low stores some = let there = caller_there m.callers c within in some there.0 there.1 low (stores there.0 there.1)

-- ---- turns that are none, and turns after others

pub no_turns : (m n : MachineData) (c k : ℕ) → n ≡ after_turns m (replicate k c) → k ≡ 0 → n ≡ m
no_turns m n c k so none = so ∙ ap (λ (j : ℕ). after_turns m (replicate j c)) none

pub turns_on : (m n p : MachineData) (c k j : ℕ) → n ≡ after_turns m (replicate k c) → p ≡ after_turns n (replicate j c) → p ≡ after_turns m (replicate (k + j) c)
turns_on m n p c k j so turned = turned ∙ turns_more m n (replicate k c) (replicate j c) (replicate (k + j) c) so (sym (replicate-append-replicate k j c))

pub keeps_turns : (m n : MachineData) (turns : List ℕ) → n ≡ after_turns m turns → KeepsInvariant m n (history_of (trace_of m turns))
keeps_turns m n turns so first h holds = subst (λ (k : MachineData). InvariantFor first k (h ++ history_of (trace_of m turns))) (sym so) (turns_hold first m h turns holds)
