use Rattle.std.proofs.Common.{◌≡◌, ℕ, List, [], length, sym, ap, ◌∙◌, subst, arith}
use Rattle.std.specs.Prelude.{Result, Ok}
use Rattle.core_machine.proofs.NumberLemmas.{callers_count}
use Rattle.scenario_text.specs.declared.scenario.Script.{Script}
use Rattle.history.specs.declared.outcome.Outcome.{Outcome}
use Rattle.std.specs.List.{All, flat_map}
use Rattle.scenario_text.specs.declared.scenario.Slot.{Slot}
use Rattle.core_machine.specs.InnerMachine.{MachineData, InvariantFor, after_turns}
use Rattle.core_machine.specs.Trace.{history_of}
use Rattle.core_machine.specs.InnerPlay.{NamesCaller, played_trace, outcome_of}
use Rattle.core_machine.proofs.PlayLemmas.{names_at, played_is, played_stands}
use Rattle.core_machine.proofs.MachineLemmas.{length_so}
use Rattle.core_machine.proofs.RunLemmas.{run_left, run_size}
use Rattle.core_machine.proofs.FitLemmas.{answers_of}
use Rattle.core_machine.proofs.played.play.Goals as goal
use Rattle.core_machine.specs.Scenarios.{first_map, geometry_of, slot_turns}

pub schedule-requires-clause-names : goal.schedule-requires-clause-names
schedule-requires-clause-names c =
    subst (All (NamesCaller (length c.in_ok-machine.machine.callers))) (sym c.as_slice-2.ensures)
    (names_at c.args.scenario.now c.in_ok-machine.machine c.in_ok-machine.ensures.machine c.requires.wellformed)

pub leave-requires-clause-room : goal.leave-requires-clause-room
leave-requires-clause-room c =
    let turned = length_so c.in_ok-machine.machine c.schedule.new.self (flat_map (slot_turns (length c.in_ok-machine.machine.callers)) c.as_slice-2.result.now) c.schedule.ensures in
    let opened : length c.in_ok-machine.machine.callers ≡ length c.args.scenario.now.scripts =
    ap (λ (m : MachineData). length m.callers) c.in_ok-machine.ensures.machine ∙ callers_count (geometry_of c.args.scenario.now) 0 c.args.scenario.now.scripts in
    let lent : length c.as_slice.result.now ≡ length c.args.scenario.now.scripts = ap (λ (scripts : List Script). length scripts) c.as_slice.ensures in
    omega (arith, turned, opened, lent, c.in_ok-room.ensures.capacity)

pub returns-clause-trace : goal.returns-clause-trace
returns-clause-trace c =
    c.leave.ensures
    ∙ ap outcome_of (played_is c.args.scenario.now c.in_ok-machine.machine c.schedule.new.self c.in_ok-machine.ensures.machine
    (c.schedule.ensures ∙ ap (λ (slots : List Slot). after_turns c.in_ok-machine.machine (flat_map (slot_turns (length c.in_ok-machine.machine.callers)) slots)) c.as_slice-2.ensures))

pub returns-clause-run : goal.returns-clause-run
returns-clause-run c =
    run_left c.args.scenario.now (let r : Result Outcome ℕ = Ok c.leave.result in r) (subst (λ (m : MachineData). InvariantFor (first_map c.args.scenario.now) m []) c.in_ok-machine.ensures.machine c.in_ok-machine.ensures.invariant)
    (returns-clause-trace c)

pub returns-clause-size : goal.returns-clause-size
returns-clause-size c =
    run_size c.args.scenario.now (let r : Result Outcome ℕ = Ok c.leave.result in r) (returns-clause-run c)

pub returns-clause-answered : goal.returns-clause-answered
returns-clause-answered c =
    answers_of c.args.scenario.now (first_map c.args.scenario.now) (history_of (played_trace c.args.scenario.now)) (let r : Result Outcome ℕ = Ok c.leave.result in r)
    (played_stands c.args.scenario.now c.in_ok-machine.machine c.in_ok-machine.ensures.machine c.in_ok-machine.ensures.invariant) (returns-clause-trace c)
