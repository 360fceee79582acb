use Rattle.std.proofs.Common.{◌<◌, length, replicate, sym, ap, ◌∙◌, subst}
use Rattle.core_machine.specs.InnerMachine.{MachineData, HasInvariant, after_turns}
use Rattle.core_machine.proofs.GoLemmas.{turned_machine, went, may_go}
use Rattle.core_machine.proofs.machine.Machine.go.Goals as goal

pub go-requires : goal.go-requires
go-requires g c n low =
    let m : MachineData = record { geometry = c.self.inside.geometry; callers = c.self.inside.callers.items; words = g.W.Words.words c.self.inside.words } in
    may_go m c.args.caller c.index_mut.result.now n (subst HasInvariant (sym c.self.view_is) c.requires.invariant)
    (subst (λ (n : MachineData). c.args.caller < length n.callers) (sym c.self.view_is) c.requires.caller) c.index_mut.ensures.value

pub returns-clause-turns : goal.returns-clause-turns
returns-clause-turns g c =
    let m : MachineData = record { geometry = c.self.inside.geometry; callers = c.self.inside.callers.items; words = g.W.Words.words c.self.inside.words } in
    ap (turned_machine m c.args.caller) c.go.ensures.turned
    ∙ went m c.args.caller c.index_mut.result.now c.go.result (subst HasInvariant (sym c.self.view_is) c.requires.invariant)
    (subst (λ (n : MachineData). c.args.caller < length n.callers) (sym c.self.view_is) c.requires.caller) c.index_mut.ensures.value
    ∙ ap (λ (n : MachineData). after_turns n (replicate c.go.result c.args.caller)) c.self.view_is
