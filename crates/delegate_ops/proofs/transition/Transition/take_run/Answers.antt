use Rattle.std.proofs.Common.{sym, subst}
use Rattle.delegate_ops.specs.InnerRuns.{IsStoring}
use Rattle.delegate_ops.specs.InnerTransition.{TransitionData, IsTransition}
use Rattle.delegate_ops.proofs.transition.Transition.take_run.Goals as goal

pub returns-clause-some : goal.returns-clause-some
returns-clause-some c = λ g is more storing.
    c.take_run.ensures.some g c.self.inside.places (subst (IsTransition g) (sym c.self.view_is) is) more (subst (λ (d : TransitionData). IsStoring d.stage) (sym c.self.view_is) storing)
