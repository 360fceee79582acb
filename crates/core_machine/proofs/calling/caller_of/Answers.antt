use Rattle.std.proofs.Common.{◌≡◌, false, sym, ap, ◌∙◌, subst}
use Rattle.std.specs.List.{All}
use Rattle.scenario_text.specs.declared.scenario.Script.TheVariants as script
use Rattle.scenario_text.specs.Spelling.{IsScript}
use Rattle.processor.specs.Accesses.{IsAccess}
use Rattle.history.specs.declared.call.Task.{Task}
use Rattle.delegate_ops.specs.InnerAgents.{is_look}
use Rattle.core_machine.proofs.CallLemmas.{asks_no_looks}
use Rattle.core_machine.proofs.PlayLemmas.{looks_inside}
use Rattle.core_machine.proofs.calling.caller_of.Goals as goal

pub new-requires : goal.new-requires
new-requires c = record { no_looks = subst (All (λ (t : Task). is_look t ≡ false)) (sym c.in_ok-tasks-in-Agent.ensures) (asks_no_looks _) }

pub new-requires-in-Cpu-clause-accesses : goal.new-requires-in-Cpu-clause-accesses
new-requires-in-Cpu-clause-accesses c =
    let looks = subst (IsScript c.args.geometry.setup) (c.in-Cpu.is ∙ ap script.Cpu (sym c.as_slice-in-Cpu.ensures)) c.requires.script in
    subst (All (IsAccess c.args.geometry)) (sym c.in_ok-tasks-in-Cpu.ensures) (looks_inside c.args.geometry c.as_slice-in-Cpu.result.now looks)
