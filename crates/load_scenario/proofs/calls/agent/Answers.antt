use Rattle.std.proofs.Common.{◌≡◌, ℕ, ap, ◌∙◌, arith}
use Rattle.load_scenario.specs.Load.{stepped_by, drawn_ask}
use Rattle.load_scenario.proofs.DrawLemmas.{next_value, one_more, agent_is}
use Rattle.load_scenario.proofs.calls.agent.Goals as goal

pub loop-preserved : goal.loop-preserved
loop-preserved c =
    let d = c.draw.ensures in
    record {
      asks = one_more (drawn_ask c.args.source) _ _ _ _ _ _ _ c.loop.invariant.asks c.loop.invariant.value d.drawn c.drawn_ask.ensures c.in_ok-push.ensures.items;
      value = next_value _ _ _ _ c.loop.invariant.value d.value;
    }

pub returns-clause-script : goal.returns-clause-script
returns-clause-script c = agent_is c.args.source _ c.loop.counter _ (c.new.ensures ∙ c.loop.invariant.asks) (omega arith)

pub returns-clause-value : goal.returns-clause-value
returns-clause-value c =
    let all : c.loop.counter ≡ 50 = omega arith in
    c.loop.invariant.value ∙ ap (λ (k : ℕ). stepped_by k c.args.generator.now.value) all
