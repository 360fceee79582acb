-- Turns of one caller in a row, as its acts on the words.
use Rattle.std.proofs.Common.{◌≡◌, ℕ, zero, suc, ◌<◌, ◌∷◌, [], List, get_or, set, length, replicate, refl, sym, ap, ◌∙◌, subst, add-one}
use Rattle.std.proofs.lemmas.Option.{get_or_from_slice_get}
use Rattle.std.proofs.lemmas.List.{set-get_or, set-set, length-set}
use Rattle.delegate_ops.specs.InnerAgents.{AgentData}
use Rattle.delegate_ops.specs.InnerTurns as agents
use Rattle.processor.specs.InnerCpus.{CpuData}
use Rattle.processor.specs.InnerCpus as cpus
use Rattle.core_machine.specs.declared.caller.Caller.{Caller}
use Rattle.core_machine.specs.declared.caller.Caller.TheVariants as caller
use Rattle.core_machine.specs.InnerCallers.{turned_once, turned, MayTurn}
use Rattle.core_machine.specs.InnerMachine.{MachineData, HasInvariant, after_turn, after_turns}
use Rattle.core_machine.proofs.ListLemmas.{get_set_same}
use Rattle.core_machine.proofs.MachineLemmas.{after_turns-append, replicate_more, holds_after}
use Rattle.core_machine.proofs.TurnLemmas.{may_turn}
use Rattle.core_machine.proofs.TurnLemmas as turns

-- ---- an agent

abbrev of_agent : AgentData × List ℕ → Caller × List ℕ
of_agent s = (caller.Agent s.0, s.1)

agent_turned : (n : ℕ) (a : AgentData) (words : List ℕ) → turned n (caller.Agent a, words) ≡ of_agent (agents.turned n (a, words))
agent_turned zero a words = refl
agent_turned (suc n) a words = ap turned_once (agent_turned n a words)

pub agent_may : (a : AgentData) (words : List ℕ) (most : ℕ) → ((n : ℕ) → n < most → MayTurn (turned n (caller.Agent a, words))) → (n : ℕ) → n < most → agents.MayTurn (agents.turned n (a, words))
agent_may a words most may n low = subst MayTurn (agent_turned n a words) (may n low)

pub agent_goes : (n : ℕ) (a b : AgentData) (words later : List ℕ) → ◌≡◌ {A = AgentData × List ℕ} (b, later) (agents.turned n (a, words)) → ◌≡◌ {A = Caller × List ℕ} (caller.Agent b, later) (turned n (caller.Agent a, words))
agent_goes n a b words later so = ap of_agent so ∙ sym (agent_turned n a words)

-- ---- a processor

abbrev of_cpu : CpuData × List ℕ → Caller × List ℕ
of_cpu s = (caller.Cpu s.0, s.1)

cpu_turned : (n : ℕ) (q : CpuData) (words : List ℕ) → turned n (caller.Cpu q, words) ≡ of_cpu (cpus.turned n (q, words))
cpu_turned zero q words = refl
cpu_turned (suc n) q words = ap turned_once (cpu_turned n q words)

pub cpu_may : (q : CpuData) (words : List ℕ) (most : ℕ) → ((n : ℕ) → n < most → MayTurn (turned n (caller.Cpu q, words))) → (n : ℕ) → n < most → cpus.MayTurn (cpus.turned n (q, words))
cpu_may q words most may n low = subst MayTurn (cpu_turned n q words) (may n low)

pub cpu_looks : (n : ℕ) (q r : CpuData) (words later : List ℕ) → ◌≡◌ {A = CpuData × List ℕ} (r, later) (cpus.turned n (q, words)) → ◌≡◌ {A = Caller × List ℕ} (caller.Cpu r, later) (turned n (caller.Cpu q, words))
cpu_looks n q r words later so = ap of_cpu so ∙ sym (cpu_turned n q words)

-- ---- a machine

abbrev pub turned_machine : MachineData → ℕ → Caller × List ℕ → MachineData
turned_machine m c s = record { geometry = m.geometry; callers = set m.callers c s.0; words = s.1 }

here_of : (m : MachineData) (c : ℕ) (s : Caller × List ℕ) → c < length m.callers → s.0 ≡ get_or (set m.callers c s.0) c s.0
here_of m c s within = sym (get_or_from_slice_get (set m.callers c s.0) c s.0 s.0 (get_set_same m.callers c s.0 within))

within_of : (m : MachineData) (c : ℕ) (s : Caller × List ℕ) → c < length m.callers → c < length (set m.callers c s.0)
within_of m c s within = subst (λ (n : ℕ). c < n) (sym (length-set m.callers c s.0)) within

-- after n acts of its caller it is that after n turns
pub went : (m : MachineData) (c : ℕ) (a : Caller) (n : ℕ) → HasInvariant m → c < length m.callers → a ≡ get_or m.callers c a → turned_machine m c (turned n (a, m.words)) ≡ after_turns m (replicate n c)
went m c a zero has within here =
    ap (λ (callers : List Caller). record { geometry = m.geometry; callers = callers; words = m.words }) (ap (set m.callers c) here ∙ set-get_or m.callers c a)
went m c a (suc n) has within here =
    let s = turned n (a, m.words) in
    let before = went m c a n has within here in
    let after = turned_once s in
    ap (λ (callers : List Caller). record { geometry = m.geometry; callers = callers; words = after.1 }) (sym (set-set m.callers c s.0 after.0))
    ∙ turns.turned (turned_machine m c s) c s.0 after.0 after.1 (holds_after m (turned_machine m c s) (replicate n c) before has) (within_of m c s within) (here_of m c s within) refl refl
    ∙ ap (λ (k : MachineData). after_turn k c) before
    ∙ sym (ap (λ (k : ℕ). after_turns m (replicate k c)) (sym (add-one n)) ∙ ap (after_turns m) (replicate_more c n) ∙ after_turns-append m (replicate n c) (c ∷ []))

pub may_go : (m : MachineData) (c : ℕ) (a : Caller) (n : ℕ) → HasInvariant m → c < length m.callers → a ≡ get_or m.callers c a → MayTurn (turned n (a, m.words))
may_go m c a n has within here =
    let s = turned n (a, m.words) in
    may_turn (turned_machine m c s) c s.0 (holds_after m (turned_machine m c s) (replicate n c) (went m c a n has within here) has) (within_of m c s within) (here_of m c s within)
