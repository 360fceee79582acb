use Rattle.std.proofs.Common.{◌<◌, length, sym, ap, ◌∙◌, subst, arith}
use Rattle.core_machine.specs.InnerMachine.{MachineData, HasInvariant, after_turn}
use Rattle.core_machine.proofs.StoreLemmas.{run_some, no_turns}
use Rattle.core_machine.proofs.machine.Machine.stride.Goals as goal

pub returns-then-stores-clause-still : goal.returns-then-stores-clause-still
returns-then-stores-clause-still g c = λ none.
    let some : 0 < c.run.result = run_some c.args.self.now c.args.caller c.run.result c.args.most c.requires.caller c.requires.some (c.stores.ensures c.if-stores.true) c.run.ensures.some in
    absurd (omega (arith, none, some))

pub step-requires-clause-caller : goal.step-requires-clause-caller
step-requires-clause-caller g c =
    let same = no_turns c.args.self.now c.go-made.new.self c.args.caller c.go-made.result c.go-made.ensures.turns (omega (arith, c.if-made-gt0.false)) in
    subst (λ (m : MachineData). c.args.caller < length m.callers) (sym same) c.requires.caller

pub step-requires-clause-invariant : goal.step-requires-clause-invariant
step-requires-clause-invariant g c =
    let same = no_turns c.args.self.now c.go-made.new.self c.args.caller c.go-made.result c.go-made.ensures.turns (omega (arith, c.if-made-gt0.false)) in
    subst HasInvariant (sym same) c.requires.invariant

pub returns-then-step-clause-turns : goal.returns-then-step-clause-turns
returns-then-step-clause-turns g c =
    let same = no_turns c.args.self.now c.go-made.new.self c.args.caller c.go-made.result c.go-made.ensures.turns (omega (arith, c.if-made-gt0.false)) in
    c.step.ensures.turn ∙ ap (λ (m : MachineData). after_turn m c.args.caller) same

pub returns-else-step-clause-turns : goal.returns-else-step-clause-turns
returns-else-step-clause-turns g c =
    let same = no_turns c.args.self.now c.go-made.new.self c.args.caller c.go-made.result c.go-made.ensures.turns (omega (arith, c.if-made-gt0.false)) in
    c.step.ensures.still c.if-step.false ∙ same

pub returns-else-step-clause-still : goal.returns-else-step-clause-still
returns-else-step-clause-still g c = λ none.
    let same = no_turns c.args.self.now c.go-made.new.self c.args.caller c.go-made.result c.go-made.ensures.turns (omega (arith, c.if-made-gt0.false)) in
    ap (λ (m : MachineData). after_turn m c.args.caller) (sym same) ∙ sym c.step.ensures.turn ∙ c.step.ensures.still c.if-step.false ∙ same
