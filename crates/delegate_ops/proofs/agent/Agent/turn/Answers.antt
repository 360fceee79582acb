use Rattle.std.proofs.Common.{Bool, refl, sym, subst, ap, ◌∙◌}
use Rattle.std.specs.Prelude.{is_some}
use Rattle.delegate_ops.specs.InnerAgents.{AgentData, IsStill, next_of}
use Rattle.delegate_ops.proofs.TransitionLemmas.{is_under_way, some_under_way, next_is, goes_is, ends_is, still_under_way}
use Rattle.delegate_ops.proofs.TurnLemmas.{goes_unanswered, still_unanswered, ends_answered, keeps_answer, is_still, may_turn, by_transition, turned_words, turned_agent}
use Rattle.delegate_ops.proofs.agent.Agent.turn.Goals as goal

pub turn-requires-clause-transition : goal.turn-requires-clause-transition
turn-requires-clause-transition g c = is_under_way c.self.inside.geometry _ c.self.inside.transition c.in-Some.transition c.self.invariant.2 c.in-Some.is

pub turn-requires-clause-place : goal.turn-requires-clause-place
turn-requires-clause-place g c =
    let a = c.self.inside in
    (may_turn _ c.args.self.now c.in-Some.transition _ c.self.view_is (next_is a.geometry a.tasks.items a.answers.items a.transition c.in-Some.transition c.self.invariant.2 c.in-Some.is)
    (rw c.in-Some.is refl) c.requires.place c.requires.readable).0

pub turn-requires-clause-readable : goal.turn-requires-clause-readable
turn-requires-clause-readable g c =
    let a = c.self.inside in
    (may_turn _ c.args.self.now c.in-Some.transition _ c.self.view_is (next_is a.geometry a.tasks.items a.answers.items a.transition c.in-Some.transition c.self.invariant.2 c.in-Some.is)
    (rw c.in-Some.is refl) c.requires.place c.requires.readable).1

pub invariant_of-self : goal.invariant_of-self
invariant_of-self g c =
    let a = c.self.inside in
    let under_way = still_under_way a.geometry _ a.transition c.in-Some.transition c.turn.new.self _ c.self.invariant.2 c.in-Some.is c.turn.ensures.after c.turn.ensures.transition in
    (by_transition a.geometry a.tasks.items a.answers.items a.transition c.turn.new.self c.self.invariant.0 under_way, c.self.invariant.1, under_way)

pub invariant_of-self-in-Goes : goal.invariant_of-self-in-Goes
invariant_of-self-in-Goes g c =
    let a = c.self.inside in
    let under_way = still_under_way a.geometry _ a.transition c.in-Some.transition c.turn.new.self _ c.self.invariant.2 c.in-Some.is c.turn.ensures.after c.turn.ensures.transition in
    (by_transition a.geometry a.tasks.items a.answers.items a.transition c.turn.new.self c.self.invariant.0 under_way, c.self.invariant.1, under_way)

pub invariant_of-self-in-Some-answer : goal.invariant_of-self-in-Some-answer
invariant_of-self-in-Some-answer g c =
    let a = c.self.inside in
    let under_way = still_under_way a.geometry _ a.transition c.in-Some.transition c.turn.new.self _ c.self.invariant.2 c.in-Some.is c.turn.ensures.after c.turn.ensures.transition in
    (by_transition a.geometry a.tasks.items a.answers.items a.transition c.turn.new.self c.self.invariant.0 under_way, c.self.invariant.1, under_way)

pub invariant_of-self-in_default : goal.invariant_of-self-in_default
invariant_of-self-in_default g c =
    let a = c.self.inside in
    let under_way = still_under_way a.geometry _ a.transition c.in-Some.transition c.turn.new.self _ c.self.invariant.2 c.in-Some.is c.turn.ensures.after c.turn.ensures.transition in
    (by_transition a.geometry a.tasks.items a.answers.items a.transition c.turn.new.self c.self.invariant.0 under_way, c.self.invariant.1, under_way)

pub end-requires : goal.end-requires
end-requires g c = some_under_way c.self.inside.geometry _ c.self.inside.transition c.in-Some.transition c.self.invariant.2 c.in-Some.is

pub returns-in-Still : goal.returns-in-Still
returns-in-Still g c =
    let a = c.self.inside in
    let next = next_is a.geometry a.tasks.items a.answers.items a.transition c.in-Some.transition c.self.invariant.2 c.in-Some.is in
    let still = sym c.turn.ensures.turned ∙ c.in-Still.is in
    record {
      words = turned_words _ _ c.in-Some.transition _ _ c.self.view_is next c.turn.ensures.words;
      after = turned_agent _ _ _ c.in-Some.transition _ c.self.view_is next
          (goes_is a.geometry a.tasks.items a.answers.items a.transition c.in-Some.transition c.turn.new.self _ c.self.invariant.2 c.in-Some.is c.turn.ensures.after (still_unanswered _ _ still).0);
      still = λ none. subst (λ (w : Bool). IsStill (next_of c.args.self.now) w c.turn.new.self.waited)
          (sym (rw c.in-Some.is refl) ∙ ap (λ (x : AgentData). x.waited) c.self.view_is)
          (is_still a.geometry c.in-Some.transition c.turn.new.self _ (next_of c.args.self.now) c.turn.ensures.after still);
    }

pub returns-in-Goes : goal.returns-in-Goes
returns-in-Goes g c =
    let a = c.self.inside in
    let next = next_is a.geometry a.tasks.items a.answers.items a.transition c.in-Some.transition c.self.invariant.2 c.in-Some.is in
    let goes = sym c.turn.ensures.turned ∙ c.in-Goes.is in
    record {
      words = turned_words _ _ c.in-Some.transition _ _ c.self.view_is next c.turn.ensures.words;
      after = turned_agent _ _ _ c.in-Some.transition _ c.self.view_is next
          (goes_is a.geometry a.tasks.items a.answers.items a.transition c.in-Some.transition c.turn.new.self _ c.self.invariant.2 c.in-Some.is c.turn.ensures.after (goes_unanswered _ _ goes));
      still = λ never. absurd cc;
    }

pub returns-in-Some-answer : goal.returns-in-Some-answer
returns-in-Some-answer g c =
    let a = c.self.inside in
    let next = next_is a.geometry a.tasks.items a.answers.items a.transition c.in-Some.transition c.self.invariant.2 c.in-Some.is in
    let ends = sym c.turn.ensures.turned ∙ c.in-Ends.is in
    let some = sym (keeps_answer a.geometry c.in-Some.transition c.turn.new.self _ c.turn.ensures.after ends) ∙ sym c.answer.ensures ∙ c.in-Some-answer.is in
    record {
      words = turned_words _ _ c.in-Some.transition _ _ c.self.view_is next c.turn.ensures.words;
      after = turned_agent _ _ _ c.in-Some.transition _ c.self.view_is next
          (c.end.ensures ∙ ends_is a.geometry a.tasks.items a.answers.items a.transition c.in-Some.transition c.turn.new.self c.in-Some-answer.answer _ c.self.invariant.2 c.in-Some.is some);
      still = λ never. absurd cc;
    }

pub returns-in_default : goal.returns-in_default
returns-in_default g c =
    let ends = sym c.turn.ensures.turned ∙ c.in-Ends.is in
    let some = ends_answered _ _ ends in
    let none = sym (keeps_answer c.self.inside.geometry c.in-Some.transition c.turn.new.self _ c.turn.ensures.after ends) ∙ sym c.answer.ensures ∙ c.in_default.is in
    absurd (let both = sym some ∙ ap is_some none in cc)
