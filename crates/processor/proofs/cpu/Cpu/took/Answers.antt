use Rattle.std.proofs.Common.{Some, sym, ap, ◌∙◌}
use Rattle.processor.specs.InnerCpus.{task_of}
use Rattle.processor.proofs.CpuLemmas.{goes_is_cpu}
use Rattle.processor.proofs.cpu.Cpu.took.Goals as goal

pub invariant_of-self : goal.invariant_of-self
invariant_of-self c = (
  goes_is_cpu _ c.in-Some-Look.pa c.in-Some-Look.space _ _ _ c.self.invariant.0
      (ap task_of c.self.view_is ∙ sym c.task.ensures.task ∙ c.in-Some-Look.is ∙ ap Some c.in-Some-Look.field-0-is) c.took.ensures.ring c.took.ensures.after,
  c.self.invariant.1,
)
