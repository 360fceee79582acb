use Rattle.std.proofs.Common.{◌≡◌, ap, ◌∙◌}
use Rattle.processor.specs.InnerCpus.{task_of}
use Rattle.processor.proofs.LookLemmas.{touches_there}
use Rattle.processor.proofs.cpu.Cpu.touches.Goals as goal

pub returns-in-None-clause-turned : goal.returns-in-None-clause-turned
returns-in-None-clause-turned g c = absurd (touches_there _ c.args.pa c.args.space c.touch.result c.self.invariant.0 (ap task_of c.self.view_is ∙ c.requires.task) c.touch.ensures.act c.in-None.is)
