use Rattle.std.proofs.Common.{◌≡◌, ◌<◌, ◌+◌, ℕ, List, ap, ◌∙◌, subst, arith}
use Rattle.shared_words.specs.declared.act.Act.{Act}
use Rattle.shared_words.specs.Acts.{after_act}
use Rattle.invalidate.specs.Duty.{off_act}
use Rattle.processor.specs.InnerCpus.{CpuData, turned, decided}
use Rattle.processor.proofs.LookLemmas.{leaves}
use Rattle.processor.proofs.cpu.Cpu.leave.Goals as goal

pub touches-touches-requires-clause-may : goal.touches-touches-requires-clause-may
touches-touches-requires-clause-may g c = c.requires.may 0 (omega arith)

pub returns-clause-turned : goal.returns-clause-turned
returns-clause-turned g c =
    leaves c.args.self.now c.end.new.self c.args.pa c.args.space _ (g.W.Words.words c.touches-touches.new.words) _ c.args.access c.touches-touches.result c.requires.task c.touches-touches.ensures.turned
    (c.apply.ensures.after ∙ ap (λ (t : Act). after_act t (g.W.Words.words c.touches-touches.new.words)) (c.off.ensures ∙ ap (λ (q : CpuData). off_act q.geometry q.number) c.self.view_is))
    c.end.ensures
