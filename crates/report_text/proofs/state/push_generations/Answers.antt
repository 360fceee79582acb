use Rattle.std.proofs.Common.{ℕ, ◌≡◌, ◌*◌, List, ◌++◌, string_bytes, ap, ◌∙◌, arith}
use Rattle.gpt_descriptors.specs.Sizes.{SetupData}
use Rattle.gpt_descriptors.specs.Places.{blocks_in_region}
use Rattle.report_text.specs.RunText.{generation_line}
use Rattle.report_text.specs.RunParts.{generations_upto}
use Rattle.report_text.proofs.StateLemmas.{generations_none, generations_more, generations_are, generation_line_is, begins, pushed}
use Rattle.report_text.proofs.state.push_generations.Goals as goal

pub loop-block-init : goal.loop-block-init
loop-block-init c = begins (string_bytes c.args.out.now) (generations_upto c.args.geometry.now c.args.words.now c.args.size 0) (generations_none c.args.geometry.now c.args.words.now c.args.size)

pub loop-block-preserved : goal.loop-block-preserved
loop-block-preserved c =
    let first : c.first-first.result ≡ c.args.geometry.now.setup.first = c.first-first.ensures.value ∙ ap (λ (s : SetupData). s.first) c.setup.ensures.value in
    pushed (string_bytes c.args.out.now) (generations_upto c.args.geometry.now c.args.words.now c.args.size c.loop-block.block)
    (generation_line c.args.geometry.now c.args.words.now c.args.size c.loop-block.block) _ (string_bytes c.loop-block.out) (string_bytes c.push_generation.new.out)
    (generations_more c.args.geometry.now c.args.words.now c.args.size c.loop-block.block) c.loop-block.invariant
    (c.in_ok-push_generation.ensures ∙ ap (λ (t : List ℕ). string_bytes c.loop-block.out ++ t)
    (generation_line_is c.args.geometry.now c.args.words.now c.args.size c.loop-block.block c.generations_of-start.result.0 c.first-first.result c.generations_of-start.ensures.start first))

pub returns : goal.returns
returns c =
    let all : c.loop-block.block ≡ blocks_in_region c.args.size * c.args.geometry.now.setup.gigabytes = omega (arith, c.generations_of-start.ensures.count) in
    c.loop-block.invariant ∙ ap (λ (t : List ℕ). string_bytes c.args.out.now ++ t)
    (ap (generations_upto c.args.geometry.now c.args.words.now c.args.size) all ∙ generations_are c.args.geometry.now c.args.words.now c.args.size)
