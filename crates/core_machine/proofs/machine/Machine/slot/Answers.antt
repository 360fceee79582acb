use Rattle.std.proofs.Common.{length, sym, ap, ◌∙◌}
use Rattle.scenario_text.specs.declared.scenario.Slot.{Slot}
use Rattle.core_machine.specs.InnerMachine.{after_turns}
use Rattle.core_machine.proofs.machine.Machine.slot.Goals as goal
use Rattle.core_machine.specs.Scenarios.{slot_turns}

pub returns-in-Round : goal.returns-in-Round
returns-in-Round g c =
    c.rounds.ensures ∙ ap (λ (s : Slot). after_turns c.args.self.now (slot_turns (length c.args.self.now.callers) s)) (sym c.in-Round.is)
