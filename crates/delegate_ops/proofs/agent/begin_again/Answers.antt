use Rattle.std.proofs.Common.{Option, Some, refl, sym, subst, ap, ◌∙◌}
use Rattle.std.specs.Option.{option_map}
use Rattle.std.proofs.lemmas.Bool.{ltb-true}
use Rattle.std.proofs.lemmas.Option.{slice_get_read}
use Rattle.history.specs.declared.call.Task.{Task}
use Rattle.delegate_ops.specs.InnerAgents.{HasActs}
use Rattle.delegate_ops.specs.InnerTransition.{TransitionData, IsUnderWay, begun}
use Rattle.delegate_ops.proofs.TransitionLemmas.{is_under_way}
use Rattle.delegate_ops.proofs.agent.begin_again.Goals as goal

pub returns-clause-acts : goal.returns-clause-acts
returns-clause-acts c = λ g o under_way again.
    let looked = c.in-Some-get.ensures in
    let next = slice_get_read c.args.tasks.now _ _ c.in-Some-get.task.now refl (ltb-true _ _ (sym looked.lookup.0)) looked.lookup.1 in
    subst (HasActs g) (sym next) (c.again.ensures.acts g (is_under_way g o _ c.in-Some.transition under_way c.in-Some.is) again)

pub returns-clause-value : goal.returns-clause-value
returns-clause-value c = λ g o under_way again.
    let looked = c.in-Some-get.ensures in
    let next = slice_get_read c.args.tasks.now _ _ c.in-Some-get.task.now refl (ltb-true _ _ (sym looked.lookup.0)) looked.lookup.1 in
    ap Some (c.again.ensures.value g (is_under_way g o _ c.in-Some.transition under_way c.in-Some.is) again) ∙ ap (option_map (begun g)) (sym next)

pub returns-clause-under_way : goal.returns-clause-under_way
returns-clause-under_way c = λ g o under_way again.
    let looked = c.in-Some-get.ensures in
    let next = slice_get_read c.args.tasks.now _ _ c.in-Some-get.task.now refl (ltb-true _ _ (sym looked.lookup.0)) looked.lookup.1 in
    let was = is_under_way g o _ c.in-Some.transition under_way c.in-Some.is in
    subst (λ (t : Option Task). IsUnderWay g t (Some c.again.new.self)) (sym next)
    (ap (λ (d : TransitionData). d.task) (c.again.ensures.value g was again), c.again.ensures.transition g was again)
