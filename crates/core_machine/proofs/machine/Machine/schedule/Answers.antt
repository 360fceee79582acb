use Rattle.std.proofs.Common.{◌+◌, ℕ, length, take, get_or, sym, ap, ◌∙◌, subst}
use Rattle.std.specs.List.{flat_map}
use Rattle.scenario_text.specs.declared.scenario.Slot.TheVariants as slot
use Rattle.core_machine.specs.InnerMachine.{after_turns}
use Rattle.core_machine.specs.InnerPlay.{NamesCaller}
use Rattle.core_machine.proofs.MachineLemmas.{holds_after, length_so, turns_more, slots_more}
use Rattle.core_machine.proofs.machine.Machine.schedule.Goals as goal
use Rattle.core_machine.specs.Scenarios.{slot_turns}

pub slot-requires-clause-invariant : goal.slot-requires-clause-invariant
slot-requires-clause-invariant g c =
    holds_after c.args.self.now c.loop-slot.self (flat_map (slot_turns (length c.args.self.now.callers)) (take c.loop-slot.slot-index c.args.schedule.now)) c.loop-slot.invariant c.requires.invariant

pub slot-requires-clause-names : goal.slot-requires-clause-names
slot-requires-clause-names g c =
    subst (λ (n : ℕ). NamesCaller n (get_or c.args.schedule.now c.loop-slot.slot-index (slot.Turn 0 0)))
    (sym (length_so c.args.self.now c.loop-slot.self (flat_map (slot_turns (length c.args.self.now.callers)) (take c.loop-slot.slot-index c.args.schedule.now)) c.loop-slot.invariant))
    (c.requires.names c.loop-slot.slot-index (slot.Turn 0 0) c.loop-slot-test.true)

pub loop-slot-preserved : goal.loop-slot-preserved
loop-slot-preserved g c =
    let front = flat_map (slot_turns (length c.args.self.now.callers)) (take c.loop-slot.slot-index c.args.schedule.now) in
    let here = get_or c.args.schedule.now c.loop-slot.slot-index (slot.Turn 0 0) in
    c.slot.ensures
    ∙ ap (λ (n : ℕ). after_turns c.loop-slot.self (slot_turns n here)) (length_so c.args.self.now c.loop-slot.self front c.loop-slot.invariant)
    ∙ turns_more c.args.self.now c.loop-slot.self front (slot_turns (length c.args.self.now.callers) here)
    (flat_map (slot_turns (length c.args.self.now.callers)) (take (c.loop-slot.slot-index + 1) c.args.schedule.now)) c.loop-slot.invariant
    (slots_more (slot_turns (length c.args.self.now.callers)) c.args.schedule.now c.loop-slot.slot-index (slot.Turn 0 0) c.loop-slot-test.true)
