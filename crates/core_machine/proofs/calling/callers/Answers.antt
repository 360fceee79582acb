use Rattle.std.proofs.Common.{◌≡◌, sym, refl, ap, ◌∙◌, arith}
use Rattle.std.specs.List.{count_by}
use Rattle.gpt_descriptors.specs.Places.{GeometryData}
use Rattle.core_machine.specs.InnerPlay.{next_number}
use Rattle.core_machine.specs.Scenarios.{is_cpu}
use Rattle.core_machine.proofs.NumberLemmas.{callers_more, number_more}
use Rattle.core_machine.proofs.calling.callers.Goals as goal

pub caller_of-requires-clause-number : goal.caller_of-requires-clause-number
caller_of-requires-clause-number c =
    let scripts = c.as_slice-scripts.result.now in
    let rest = number_more scripts c.loop-script.number c.loop-script.script-index c.script-item.result c.loop-script-test.true c.script-item.is c.loop-script.invariant.1 (next_number c.loop-script.number c.script-item.result) refl in
    let cpus : c.args.geometry.cpus ≡ count_by is_cpu scripts = ap (λ (g : GeometryData). g.cpus) c.requires.geometry ∙ ap (count_by is_cpu) (sym c.as_slice-scripts.ensures) in
    omega (arith, rest, cpus)

pub loop-script-preserved : goal.loop-script-preserved
loop-script-preserved c =
    let scripts = c.as_slice-scripts.result.now in (
      callers_more c.args.geometry scripts c.loop-script.number c.loop-script.script-index c.script-item.result c.loop-script.callers.items c.push.new.self.items c.in_ok-caller_of.field-0 c.loop-script-test.true c.script-item.is
          c.loop-script.invariant.0 c.in_ok-caller_of.ensures c.in_ok-push.ensures.items c.next_number-number.result c.next_number-number.ensures,
      number_more scripts c.loop-script.number c.loop-script.script-index c.script-item.result c.loop-script-test.true c.script-item.is c.loop-script.invariant.1 c.next_number-number.result c.next_number-number.ensures,
    )
