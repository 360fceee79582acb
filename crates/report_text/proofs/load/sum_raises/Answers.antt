use Rattle.std.proofs.Common.{ℕ, ◌≡◌, ◌+◌, ap, ◌∙◌, arith}
use Rattle.gpt_descriptors.specs.Sizes.{SetupData}
use Rattle.report_text.proofs.LoadLemmas.{raise_more}
use Rattle.report_text.proofs.load.sum_raises.Goals as goal

pub loop-block-preserved : goal.loop-block-preserved
loop-block-preserved c =
    let first : c.first-first.result ≡ c.args.geometry.now.setup.first = c.first-first.ensures.value ∙ ap (λ (s : SetupData). s.first) c.setup.ensures.value in
    record {
      summed = ap (λ (n : ℕ). c.loop-block.total + n) c.saturating_sub.ensures
          ∙ raise_more c.args.geometry.now c.args.words.now c.loop-block.block c.generations_of-start.result.0 c.first-first.result c.loop-block.total
          c.generations_of-start.ensures.start first c.loop-block.invariant.summed;
      small = omega (arith, c.loop-block.invariant.small);
    }
