use Rattle.std.proofs.Common.{◌≡◌, ◌≤◌, ℕ, List, length, sym, subst}
use Rattle.std.specs.Prelude.{slice_get}
use Rattle.std.specs.Option.{option_map}
use Rattle.history.specs.declared.call.Task.{Task}
use Rattle.history.specs.declared.call.Answer.{Answer}
use Rattle.delegate_ops.specs.InnerAgents.{HasActs}
use Rattle.delegate_ops.specs.InnerTransition.{IsUnderWay, begun}
use Rattle.delegate_ops.proofs.AgainLemmas.{again_answered, answered_within, again_is_agent}
use Rattle.delegate_ops.proofs.agent.Agent.end.Goals as goal

-- the next task has acts, and the transition is that of the next task
acts : (c : goal.Then-begin_again) → HasActs c.self.inside.geometry (slice_get c.self.inside.tasks.items (length c.push_reserved.new.self.items))
acts c =
    subst (λ (tasks : List Task). HasActs c.self.inside.geometry (slice_get tasks (length c.push_reserved.new.self.items))) c.deref.ensures.value
    (subst (λ (answers : List Answer). HasActs c.self.inside.geometry (slice_get c.deref.result.now (length answers))) c.deref-2.ensures.value
    (c.begin_again.ensures.acts c.self.inside.geometry _ c.self.invariant.2 c.if-begin_again.true))

begins : (c : goal.Then-begin_again)
    → c.begin_again.new.transition ≡ option_map (begun c.self.inside.geometry) (slice_get c.self.inside.tasks.items (length c.push_reserved.new.self.items))
begins c =
    subst (λ (tasks : List Task). c.begin_again.new.transition ≡ option_map (begun c.self.inside.geometry) (slice_get tasks (length c.push_reserved.new.self.items))) c.deref.ensures.value
    (subst (λ (answers : List Answer). c.begin_again.new.transition ≡ option_map (begun c.self.inside.geometry) (slice_get c.deref.result.now (length answers))) c.deref-2.ensures.value
    (c.begin_again.ensures.value c.self.inside.geometry _ c.self.invariant.2 c.if-begin_again.true))

pub invariant_of-self : goal.invariant_of-self
invariant_of-self c =
    let a = c.self.inside in (
      again_is_agent a.geometry a.tasks.items a.answers.items c.push_reserved.new.self.items c.args.answer c.begin_again.new.transition a.transition c.args.self.now c.self.view_is
          c.push_reserved.ensures.items (acts c) (begins c) c.requires c.self.invariant.0,
      subst (λ (n : ℕ). length a.tasks.items ≤ n) (sym c.push_reserved.ensures.capacity) c.self.invariant.1,
      subst (λ (tasks : List Task). IsUnderWay a.geometry (slice_get tasks (length c.push_reserved.new.self.items)) c.begin_again.new.transition) c.deref.ensures.value
          (subst (λ (answers : List Answer). IsUnderWay a.geometry (slice_get c.deref.result.now (length answers)) c.begin_again.new.transition) c.deref-2.ensures.value
          (c.begin_again.ensures.under_way a.geometry _ c.self.invariant.2 c.if-begin_again.true)),
    )

pub returns-then-begin_again : goal.returns-then-begin_again
returns-then-begin_again c =
    let a = c.self.inside in
    again_answered a.geometry a.tasks.items a.answers.items c.push_reserved.new.self.items c.args.answer c.begin_again.new.transition a.transition c.args.self.now c.self.view_is
    c.push_reserved.ensures.items (acts c) (begins c)

pub answer_idle-requires-clause-within : goal.answer_idle-requires-clause-within
answer_idle-requires-clause-within c =
    let a = c.self.inside in
    subst (λ (tasks : List Task). length c.push_reserved.new.self.items ≤ length tasks) (sym c.deref-3.ensures.value)
    (answered_within a.geometry a.tasks.items a.answers.items c.push_reserved.new.self.items c.args.answer a.transition c.args.self.now c.self.view_is c.push_reserved.ensures.items c.requires)
