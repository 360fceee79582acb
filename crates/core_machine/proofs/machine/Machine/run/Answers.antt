use Rattle.std.proofs.Common.{◌<◌, [], length, replicate, sym, ap, ◌∙◌, subst, arith}
use Rattle.core_machine.specs.InnerMachine.{MachineData, HasInvariant, after_turns}
use Rattle.core_machine.proofs.StoreLemmas.{run_fits, run_made, run_empty, keeps_turns}
use Rattle.core_machine.proofs.machine.Machine.run.Goals as goal

pub fill-requires-clause-within : goal.fill-requires-clause-within
fill-requires-clause-within g c =
    let m : MachineData = record { geometry = c.self.inside.geometry; callers = c.self.inside.callers.items; words = g.W.Words.words c.self.inside.words } in
    run_fits m c.args.caller c.index_mut.result.now c.take_run-run.result (subst HasInvariant (sym c.self.view_is) c.requires.invariant)
    (subst (λ (n : MachineData). c.args.caller < length n.callers) (sym c.self.view_is) c.requires.caller) c.index_mut.ensures.value c.take_run-run.ensures.next (omega (arith, c.if-run-eq0.false))

pub returns-clause-turns : goal.returns-clause-turns
returns-clause-turns g c =
    let m : MachineData = record { geometry = c.self.inside.geometry; callers = c.self.inside.callers.items; words = g.W.Words.words c.self.inside.words } in
    run_made m c.args.caller c.index_mut.result.now c.take_run-run.new.self c.take_run-run.result (g.W.Words.words c.fill.new.self)
    (subst (λ (n : MachineData). c.args.caller < length n.callers) (sym c.self.view_is) c.requires.caller) c.index_mut.ensures.value c.take_run-run.ensures.next c.take_run-run.ensures.after c.fill.ensures
    ∙ ap (λ (n : MachineData). after_turns n (replicate c.take_run-run.result.count c.args.caller)) c.self.view_is

pub returns-then-run-eq0-clause-turns : goal.returns-then-run-eq0-clause-turns
returns-then-run-eq0-clause-turns g c =
    let m : MachineData = record { geometry = c.self.inside.geometry; callers = c.self.inside.callers.items; words = g.W.Words.words c.self.inside.words } in
    run_empty m c.args.caller c.index_mut.result.now c.take_run-run.new.self c.take_run-run.result c.index_mut.ensures.value c.take_run-run.ensures.after c.if-run-eq0.true ∙ c.self.view_is

pub returns-clause-invariant : goal.returns-clause-invariant
returns-clause-invariant g c = keeps_turns c.args.self.now _ (replicate c.take_run-run.result.count c.args.caller) (returns-clause-turns g c)

pub returns-then-run-eq0-clause-invariant : goal.returns-then-run-eq0-clause-invariant
returns-then-run-eq0-clause-invariant g c = keeps_turns c.args.self.now _ [] (returns-then-run-eq0-clause-turns g c)
