use Rattle.std.proofs.Common.{subst, ap, ◌∙◌}
use Rattle.std.specs.Prelude.{is_some}
use Rattle.delegate_ops.specs.InnerAgents.{IsAgent, next_of}
use Rattle.delegate_ops.proofs.NextLemmas.{next_there}
use Rattle.delegate_ops.proofs.TransitionLemmas.{is_under_way, next_is}
use Rattle.delegate_ops.proofs.agent.Agent.next.Goals as goal

pub returns-in-Some-clause-next : goal.returns-in-Some-clause-next
returns-in-Some-clause-next c =
    let a = c.self.inside in
    c.next.ensures ∙ next_is a.geometry a.tasks.items a.answers.items a.transition c.in-Some.transition c.self.invariant.2 c.in-Some.is ∙ ap next_of c.self.view_is

pub returns-in-Some-clause-there : goal.returns-in-Some-clause-there
returns-in-Some-clause-there c =
    ap is_some (returns-in-Some-clause-next c) ∙ next_there c.args.self.now (subst IsAgent c.self.view_is c.self.invariant.0)

pub next-requires : goal.next-requires
next-requires c = is_under_way c.self.inside.geometry _ c.self.inside.transition c.in-Some.transition c.self.invariant.2 c.in-Some.is
