use Rattle.std.proofs.Common.{sym, subst, ap, ◌∙◌}
use Rattle.shared_words.specs.declared.act.StoreRun.{StoreRun}
use Rattle.delegate_ops.specs.InnerAgents.{AgentData}
use Rattle.delegate_ops.specs.InnerTransition.{stage_in}
use Rattle.delegate_ops.specs.InnerRuns.{stored_by, AreNext, IsStoring}
use Rattle.delegate_ops.proofs.TransitionLemmas.{is_under_way}
use Rattle.delegate_ops.proofs.RunLemmas.{run_is, none_made, run_invariant}
use Rattle.delegate_ops.proofs.agent.Agent.take_run.Goals as goal

pub returns-in_default-clause-after : goal.returns-in_default-clause-after
returns-in_default-clause-after c = c.self.view_is ∙ (none_made c.args.self.now c.empty.result (ap (λ (r : StoreRun). r.count) c.empty.ensures)).1

pub invariant_of-self-2 : goal.invariant_of-self-2
invariant_of-self-2 c =
    let a = c.self.inside in
    let kept = run_invariant a.geometry a.tasks.items a.answers.items a.transition c.in-Some.transition c.take_run.new.self c.take_run.result c.self.invariant.0 c.self.invariant.2 c.in-Some.is c.take_run.ensures.run in
    (kept.0, c.self.invariant.1, kept.1)

pub returns-clause-next : goal.returns-clause-next
returns-clause-next c =
    let a = c.self.inside in
    subst (AreNext c.take_run.result) c.self.view_is
    (run_is a.geometry a.tasks.items a.answers.items a.transition c.in-Some.transition c.take_run.new.self c.take_run.result c.self.invariant.2 c.in-Some.is c.take_run.ensures.run).0

pub returns-clause-after : goal.returns-clause-after
returns-clause-after c =
    let a = c.self.inside in
    (run_is a.geometry a.tasks.items a.answers.items a.transition c.in-Some.transition c.take_run.new.self c.take_run.result c.self.invariant.2 c.in-Some.is c.take_run.ensures.run).1
    ∙ ap (stored_by c.take_run.result.count) c.self.view_is

pub returns-clause-some : goal.returns-clause-some
returns-clause-some c = λ most storing.
    c.take_run.ensures.some c.self.inside.geometry (is_under_way c.self.inside.geometry _ c.self.inside.transition c.in-Some.transition c.self.invariant.2 c.in-Some.is) most
    (subst IsStoring (sym (ap (λ (a : AgentData). a.stage) c.self.view_is) ∙ ap stage_in c.in-Some.is) storing)
