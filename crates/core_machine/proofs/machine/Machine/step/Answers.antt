use Rattle.std.proofs.Common.{◌≡◌, ◌<◌, ◌++◌, length, sym, ap, ◌∙◌, subst}
use Rattle.core_machine.specs.InnerMachine.{MachineData, InvariantFor, HasInvariant, after_turn, turn_entries}
use Rattle.core_machine.proofs.MachineLemmas.{turn_holds}
use Rattle.core_machine.proofs.TurnLemmas.{may_turn, turned, still}
use Rattle.core_machine.proofs.machine.Machine.step.Goals as goal

pub turn-requires-clause-place : goal.turn-requires-clause-place
turn-requires-clause-place g c =
    let m : MachineData = record { geometry = c.self.inside.geometry; callers = c.self.inside.callers.items; words = g.W.Words.words c.self.inside.words } in
    (may_turn m c.args.caller c.index_mut.result.now (subst HasInvariant (sym c.self.view_is) c.requires.invariant)
    (subst (λ (n : MachineData). c.args.caller < length n.callers) (sym c.self.view_is) c.requires.caller) c.index_mut.ensures.value).0

pub turn-requires-clause-readable : goal.turn-requires-clause-readable
turn-requires-clause-readable g c =
    let m : MachineData = record { geometry = c.self.inside.geometry; callers = c.self.inside.callers.items; words = g.W.Words.words c.self.inside.words } in
    (may_turn m c.args.caller c.index_mut.result.now (subst HasInvariant (sym c.self.view_is) c.requires.invariant)
    (subst (λ (n : MachineData). c.args.caller < length n.callers) (sym c.self.view_is) c.requires.caller) c.index_mut.ensures.value).1

pub returns-clause-turn : goal.returns-clause-turn
returns-clause-turn g c =
    let m : MachineData = record { geometry = c.self.inside.geometry; callers = c.self.inside.callers.items; words = g.W.Words.words c.self.inside.words } in
    turned m c.args.caller c.index_mut.result.now c.turn.new.self (g.W.Words.words c.turn.new.words) (subst HasInvariant (sym c.self.view_is) c.requires.invariant)
    (subst (λ (n : MachineData). c.args.caller < length n.callers) (sym c.self.view_is) c.requires.caller) c.index_mut.ensures.value c.turn.ensures.words c.turn.ensures.after
    ∙ ap (λ (n : MachineData). after_turn n c.args.caller) c.self.view_is

pub returns-clause-invariant : goal.returns-clause-invariant
returns-clause-invariant g c = λ first h holds.
    subst (λ (n : MachineData). InvariantFor first n (h ++ turn_entries c.args.self.now c.args.caller)) (sym (returns-clause-turn g c))
    (turn_holds first c.args.self.now h c.args.caller holds)

pub returns-clause-still : goal.returns-clause-still
returns-clause-still g c = λ no.
    let m : MachineData = record { geometry = c.self.inside.geometry; callers = c.self.inside.callers.items; words = g.W.Words.words c.self.inside.words } in
    returns-clause-turn g c
    ∙ subst (λ (n : MachineData). after_turn n c.args.caller ≡ n) c.self.view_is
    (still m c.args.caller c.index_mut.result.now c.turn.new.self
    (subst (λ (n : MachineData). c.args.caller < length n.callers) (sym c.self.view_is) c.requires.caller) c.index_mut.ensures.value c.turn.ensures.after (c.turn.ensures.still no))
