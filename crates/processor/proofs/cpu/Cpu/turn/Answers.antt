use Rattle.std.proofs.Common.{Some, sym, ap, subst, ◌∙◌}
use Rattle.processor.specs.InnerCpus.{IsCpu, task_of}
use Rattle.processor.proofs.CpuLemmas.{look_acts, look_made, goes_is_cpu}
use Rattle.processor.proofs.cpu.Cpu.turn.Goals as goal

pub turn-requires-clause-next : goal.turn-requires-clause-next
turn-requires-clause-next g c =
    look_acts _ c.in-Some-Look.pa c.in-Some-Look.space c.self.invariant.0
    (ap task_of c.self.view_is ∙ sym c.task.ensures.task ∙ c.in-Some-Look.is ∙ ap Some c.in-Some-Look.field-0-is)

pub returns-else-turn-clause-made : goal.returns-else-turn-clause-made
returns-else-turn-clause-made g c =
    sym (look_made c.args.self.now c.in-Some-Look.pa c.in-Some-Look.space (subst IsCpu c.self.view_is c.self.invariant.0)
    (sym c.task.ensures.task ∙ c.in-Some-Look.is ∙ ap Some c.in-Some-Look.field-0-is))

pub invariant_of-self : goal.invariant_of-self
invariant_of-self g c = (
  goes_is_cpu _ c.in-Some-Look.pa c.in-Some-Look.space _ _ _ c.self.invariant.0
      (ap task_of c.self.view_is ∙ sym c.task.ensures.task ∙ c.in-Some-Look.is ∙ ap Some c.in-Some-Look.field-0-is) c.turn.ensures.ring c.turn.ensures.after,
  c.self.invariant.1,
)

pub invariant_of-self-else-turn : goal.invariant_of-self-else-turn
invariant_of-self-else-turn g c = (
  goes_is_cpu _ c.in-Some-Look.pa c.in-Some-Look.space _ _ _ c.self.invariant.0
      (ap task_of c.self.view_is ∙ sym c.task.ensures.task ∙ c.in-Some-Look.is ∙ ap Some c.in-Some-Look.field-0-is) c.turn.ensures.ring c.turn.ensures.after,
  c.self.invariant.1,
)
