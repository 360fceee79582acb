use Rattle.std.proofs.Common.{◌≡◌, Some, sym, ap, subst, ◌∙◌}
use Rattle.std.specs.Prelude.{is_some}
use Rattle.history.specs.declared.call.Task.TheVariants as task
use Rattle.processor.specs.InnerProgress.{act_at}
use Rattle.processor.specs.InnerCpus.{CpuData, IsCpu, task_of}
use Rattle.processor.proofs.CpuLemmas.{next_there, look_next}
use Rattle.processor.proofs.cpu.Cpu.next.Goals as goal

pub returns-in-Look-clause-there : goal.returns-in-Look-clause-there
returns-in-Look-clause-there c =
    let q = c.args.self.now in
    let under_way : task_of q ≡ Some (task.Look c.in-Look.pa c.in-Look.space) = sym c.task.ensures.task ∙ c.in_ok-pa.was ∙ ap Some c.in-Look.is in
    let next = c.next.ensures ∙ ap (λ (d : CpuData). act_at d.geometry d.number c.in-Look.pa c.in-Look.space d.stage) c.self.view_is in
    ap is_some (next ∙ sym (look_next q c.in-Look.pa c.in-Look.space under_way)) ∙ next_there q (subst IsCpu c.self.view_is c.self.invariant.0)
