use Rattle.std.proofs.Common.{sym, subst, ap, ◌∙◌}
use Rattle.delegate_ops.specs.InnerAgents.{AgentData, IsAgent, took_of}
use Rattle.delegate_ops.proofs.AgentLemmas.{took_is_agent}
use Rattle.delegate_ops.proofs.TransitionLemmas.{is_under_way, some_under_way, agent_of, goes_is, ends_is, still_under_way}
use Rattle.delegate_ops.proofs.agent.Agent.took.Goals as goal

pub invariant_of-self-in_default-took : goal.invariant_of-self-in_default-took
invariant_of-self-in_default-took c =
    let a = c.self.inside in (
      subst IsAgent (sym (goes_is a.geometry a.tasks.items a.answers.items a.transition c.in-Some.transition c.took.new.self c.args.old c.self.invariant.2 c.in-Some.is c.took.ensures.after (sym c.took.ensures.answer ∙ c.in_default-took.is)))
          (took_is_agent (agent_of a.geometry a.tasks.items a.answers.items a.transition) c.args.old c.self.invariant.0),
      c.self.invariant.1,
      still_under_way a.geometry _ a.transition c.in-Some.transition c.took.new.self c.args.old c.self.invariant.2 c.in-Some.is c.took.ensures.after c.took.ensures.transition,
    )

pub returns-in-Some-took : goal.returns-in-Some-took
returns-in-Some-took c =
    let a = c.self.inside in
    c.end.ensures ∙ ends_is a.geometry a.tasks.items a.answers.items a.transition c.in-Some.transition c.took.new.self c.in-Some-took.answer c.args.old c.self.invariant.2 c.in-Some.is (sym c.took.ensures.answer ∙ c.in-Some-took.is)
    ∙ ap (λ (x : AgentData). took_of x c.args.old) c.self.view_is

pub returns-in_default-took : goal.returns-in_default-took
returns-in_default-took c =
    let a = c.self.inside in
    goes_is a.geometry a.tasks.items a.answers.items a.transition c.in-Some.transition c.took.new.self c.args.old c.self.invariant.2 c.in-Some.is c.took.ensures.after (sym c.took.ensures.answer ∙ c.in_default-took.is)
    ∙ ap (λ (x : AgentData). took_of x c.args.old) c.self.view_is

pub took-requires-clause-transition : goal.took-requires-clause-transition
took-requires-clause-transition c = is_under_way c.self.inside.geometry _ c.self.inside.transition c.in-Some.transition c.self.invariant.2 c.in-Some.is

pub end-requires : goal.end-requires
end-requires c = some_under_way c.self.inside.geometry _ c.self.inside.transition c.in-Some.transition c.self.invariant.2 c.in-Some.is
