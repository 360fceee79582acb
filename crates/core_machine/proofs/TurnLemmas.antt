-- A turn of a machine by that of its caller, whether or not it has a next act.
use Rattle.std.proofs.Common.{◌≡◌, ℕ, ◌<◌, true, List, Option, Some, None, length, get_or, set, refl, sym, ap, ◌∙◌, subst}
use Rattle.std.specs.Prelude.{is_some, not}
use Rattle.std.proofs.lemmas.List.{set-get_or}
use Rattle.std.proofs.lemmas.List.Elements.{All-get_or}
use Rattle.gpi_values.specs.declared.gpi.Gpi.{Gpi}
use Rattle.gpt_descriptors.specs.Places.{GeometryData}
use Rattle.shared_words.specs.declared.act.Act.{Act}
use Rattle.shared_words.specs.Acts.{answer_of}
use Rattle.shared_words.specs.Next.{old_by, words_after, MayBeMade}
use Rattle.history.specs.declared.call.Task.{Task}
use Rattle.history.specs.declared.entry.Entry.{Entry}
use Rattle.delegate_ops.specs.InnerAgents.{AgentData, task_of, next_of, has_ended, took_under_way, IsAgent, IsStage, IsReadable, IsStill}
use Rattle.delegate_ops.specs.InnerStages.{Stage}
use Rattle.delegate_ops.specs.InnerStages as stage
use Rattle.delegate_ops.proofs.NextLemmas.{next_there}
use Rattle.processor.specs.InnerCpus.{CpuData, IsCpu}
use Rattle.processor.specs.InnerCpus as cpus
use Rattle.processor.specs.InnerProgress as progress
use Rattle.processor.proofs.CpuLemmas.{next_there as cpu_next_there}
use Rattle.core_machine.specs.declared.caller.Caller.{Caller}
use Rattle.core_machine.specs.declared.caller.Caller.TheVariants as caller
use Rattle.core_machine.specs.InnerCallers.{caller_next, caller_took, caller_waits, MayTake, IsMade}
use Rattle.core_machine.specs.InnerMachine.{MachineData, InvariantFor, HasInvariant, after_turn}
use Rattle.core_machine.proofs.MachineLemmas.{may_act, acted, kept}
use Rattle.core_machine.proofs.StillLemmas.{waits_still}

no_task : (a : AgentData) (o : Option Task) → task_of a ≡ o → is_some (next_of a) ≡ not (has_ended a) → next_of a ≡ None → o ≡ None
no_task a None under_way there none = refl
no_task a (Some t) under_way there none = absurd (let ended = rw under_way at there in let gone = ap is_some none in cc)

-- an agent without a next act has no task under way
ended_of : (a : AgentData) → IsAgent a → next_of a ≡ None → task_of a ≡ None
ended_of a is none =
    no_task a (task_of a) refl (next_there a is) none

no_access : (o : Option Task) (next : Option Act) → is_some next ≡ not (not (is_some o)) → next ≡ None → o ≡ None
no_access None next there none = refl
no_access (Some t) next there none = absurd (let both : is_some {T = Act} None ≡ true = ap (λ (n : Option Act). is_some n) (sym none) ∙ there in cc)

-- nor has a processor an access
cpu_ended_of : (q : CpuData) → IsCpu q → cpus.next_of q ≡ None → cpus.task_of q ≡ None
cpu_ended_of q is none = no_access (cpus.task_of q) (cpus.next_of q) (cpu_next_there q is) none

-- a caller without a next act stays as it is
stays_ended : (g : GeometryData) (x : Caller) (old : ℕ) → IsMade g x → caller_next x ≡ None → caller_took x old ≡ x
stays_ended g (caller.Agent a) old made none = ap (λ (o : Option Task). caller.Agent (took_under_way a o old)) (ended_of a made.1 none)
stays_ended g (caller.Cpu q) old made none = ap (λ (o : Option Task). caller.Cpu (cpus.took_at q o old)) (cpu_ended_of q made.1 none)

may_rest : (g : GeometryData) (x : Caller) → IsMade g x → caller_next x ≡ None → MayTake x 0
may_rest g (caller.Agent a) made none =
    let locking : a.stage ≡ stage.Locking = subst (IsStage a.geometry a.stage) (ended_of a made.1 none) made.1.stage in
    subst (λ (s : Stage). IsReadable s 0) (sym locking) tt
may_rest g (caller.Cpu q) made none =
    let starting : q.stage ≡ progress.Starting = subst (λ (o : Option Task). cpus.IsAt q.geometry o q.stage) (cpu_ended_of q made.1 none) made.1.stage in
    subst (λ (s : progress.Stage). cpus.IsReadable s 0) (sym starting) tt

made_at : (first : List Gpi) (h : List Entry) (m : MachineData) (c : ℕ) (a : Caller) → InvariantFor first m h → c < length m.callers → a ≡ get_or m.callers c a → IsMade m.geometry a
made_at first h m c a holds within here = subst (IsMade m.geometry) (sym here) (All-get_or (IsMade m.geometry) m.callers c a within holds.shape.made)

-- what a turn asks of its caller and the words
may_turn_by : (first : List Gpi) (h : List Entry) (m : MachineData) (c : ℕ) (a : Caller) (o : Option Act) → InvariantFor first m h → c < length m.callers → a ≡ get_or m.callers c a → caller_next a ≡ o
    → MayBeMade o m.words × MayTake a (old_by o m.words)
may_turn_by first h m c a None holds within here next = (tt, may_rest m.geometry a (made_at first h m c a holds within here) next)
may_turn_by first h m c a (Some t) holds within here next = may_act first h m c a t holds within here next

pub may_turn : (m : MachineData) (c : ℕ) (a : Caller) → HasInvariant m → c < length m.callers → a ≡ get_or m.callers c a
    → MayBeMade (caller_next a) m.words × MayTake a (old_by (caller_next a) m.words)
may_turn m c a has within here = may_turn_by has.0 has.1 m c a (caller_next a) has.2 within here refl

-- the machine after it
turned_by : (first : List Gpi) (h : List Entry) (m : MachineData) (c : ℕ) (a x : Caller) (words : List ℕ) (o : Option Act) → InvariantFor first m h → c < length m.callers → a ≡ get_or m.callers c a → caller_next a ≡ o
    → words ≡ words_after o m.words → x ≡ caller_took a (old_by o m.words)
    → record { geometry = m.geometry; callers = set m.callers c x; words = words } ≡ after_turn m c
turned_by first h m c a x words None holds within here next made took =
    ap (λ (y : Caller). record { geometry = m.geometry; callers = set m.callers c y; words = words }) (took ∙ stays_ended m.geometry a 0 (made_at first h m c a holds within here) next)
    ∙ ap (λ (w : List ℕ). record { geometry = m.geometry; callers = set m.callers c a; words = w }) made ∙ kept m c a within here next
turned_by first h m c a x words (Some t) holds within here next made took = acted m c a x t (answer_of t m.words) words within here next refl made took

pub turned : (m : MachineData) (c : ℕ) (a x : Caller) (words : List ℕ) → HasInvariant m → c < length m.callers → a ≡ get_or m.callers c a
    → words ≡ words_after (caller_next a) m.words → x ≡ caller_took a (old_by (caller_next a) m.words)
    → record { geometry = m.geometry; callers = set m.callers c x; words = words } ≡ after_turn m c
turned m c a x words has within here made took = turned_by has.0 has.1 m c a x words (caller_next a) has.2 within here refl made took

-- a turn that changed nothing
still_by : (m : MachineData) (c : ℕ) (a x : Caller) (o : Option Act) → c < length m.callers → a ≡ get_or m.callers c a → caller_next a ≡ o → x ≡ caller_took a (old_by o m.words)
    → IsStill o (caller_waits a) (caller_waits x) → after_turn m c ≡ m
still_by m c a x None within here next took still =
    sym (kept m c a within here next) ∙ ap (λ (callers : List Caller). record { geometry = m.geometry; callers = callers; words = m.words }) (ap (set m.callers c) here ∙ set-get_or m.callers c a)
still_by m c a x (Some t) within here next took still = waits_still m c a t within here next still.0 (ap caller_waits (sym took) ∙ still.1)

pub still : (m : MachineData) (c : ℕ) (a x : Caller) → c < length m.callers → a ≡ get_or m.callers c a → x ≡ caller_took a (old_by (caller_next a) m.words)
    → IsStill (caller_next a) (caller_waits a) (caller_waits x) → after_turn m c ≡ m
still m c a x within here took is = still_by m c a x (caller_next a) within here refl took is
