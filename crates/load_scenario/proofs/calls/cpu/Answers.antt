use Rattle.std.proofs.Common.{◌≡◌, ℕ, ap, ◌∙◌, arith}
use Rattle.load_scenario.specs.Load.{stepped_by, drawn_look}
use Rattle.load_scenario.proofs.DrawLemmas.{next_value, one_more, cpu_is}
use Rattle.load_scenario.proofs.calls.cpu.Goals as goal

pub loop-preserved : goal.loop-preserved
loop-preserved c =
    let d = c.draw.ensures in
    record {
      looks = one_more drawn_look _ _ _ _ _ _ _ c.loop.invariant.looks c.loop.invariant.value d.drawn c.drawn_look.ensures c.in_ok-push.ensures.items;
      value = next_value _ _ _ _ c.loop.invariant.value d.value;
    }

pub returns-clause-script : goal.returns-clause-script
returns-clause-script c = cpu_is _ c.loop.counter _ (c.new.ensures ∙ c.loop.invariant.looks) (omega arith)

pub returns-clause-value : goal.returns-clause-value
returns-clause-value c =
    let all : c.loop.counter ≡ 400 = omega arith in
    c.loop.invariant.value ∙ ap (λ (k : ℕ). stepped_by k c.args.generator.now.value) all
