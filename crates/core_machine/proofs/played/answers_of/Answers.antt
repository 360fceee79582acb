use Rattle.std.proofs.Common.{List, length, ap, ◌∙◌, arith}
use Rattle.std.specs.Prelude.{vec_capacity}
use Rattle.std.specs.Vec.Iter.{into_iter_items}
use Rattle.core_machine.specs.declared.caller.Caller.{Caller}
use Rattle.core_machine.proofs.LeaveLemmas.{answers_move, answers_fit_room}
use Rattle.core_machine.proofs.played.answers_of.Goals as goal

pub push_reserved-requires : goal.push_reserved-requires
push_reserved-requires c =
    let count = ap (λ (callers : List Caller). length callers) c.in-Some.ensures.steps.0 in
    omega (arith, c.loop-caller.answers.ok.0, count, c.loop-caller.invariant.1)

pub loop-caller-preserved : goal.loop-caller-preserved
loop-caller-preserved c = (
  answers_move c.loop-caller.answers.items c.push_reserved.new.self.items _ c.in-Some.caller (into_iter_items c.loop-caller.caller-iterator) (into_iter_items c.next.new.self) c.new.result
      c.loop-caller.invariant.0 c.in-Some.ensures.steps.0 (c.new.ensures ∙ c.into_answers.ensures) c.push_reserved.ensures.items,
  answers_fit_room c.loop-caller.answers.items c.push_reserved.new.self.items c.in-Some.caller (into_iter_items c.loop-caller.caller-iterator) (into_iter_items c.next.new.self) c.new.result
      (vec_capacity c.loop-caller.answers) (vec_capacity c.push_reserved.new.self) c.loop-caller.invariant.1 c.in-Some.ensures.steps.0 c.push_reserved.ensures.items c.push_reserved.ensures.capacity,
)
