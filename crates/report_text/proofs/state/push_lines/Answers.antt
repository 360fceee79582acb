use Rattle.std.proofs.Common.{ℕ, ◌≡◌, ◌*◌, List, ◌++◌, string_bytes, ap, ◌∙◌, arith}
use Rattle.gpt_descriptors.specs.Sizes.{SetupData, table_words}
use Rattle.report_text.specs.RunParts.{granules_text}
use Rattle.report_text.proofs.StateLemmas.{gigabytes_none, gigabyte_more, lines_are, begins, pushed}
use Rattle.report_text.proofs.state.push_lines.Goals as goal

pub loop-gigabyte-init : goal.loop-gigabyte-init
loop-gigabyte-init c =
    begins (string_bytes c.args.out.now) (granules_text c.args.geometry.now c.args.words.now 0 (16 * (0 * table_words c.args.geometry.now.setup)))
    (gigabytes_none c.args.geometry.now c.args.words.now)

pub loop-gigabyte-preserved : goal.loop-gigabyte-preserved
loop-gigabyte-preserved c =
    pushed (string_bytes c.args.out.now) (granules_text c.args.geometry.now c.args.words.now 0 (16 * (c.loop-gigabyte.gigabyte * table_words c.args.geometry.now.setup)))
    (granules_text c.args.geometry.now c.args.words.now (16 * (c.loop-gigabyte.gigabyte * table_words c.args.geometry.now.setup)) (16 * table_words c.args.geometry.now.setup))
    _ (string_bytes c.loop-gigabyte.out) (string_bytes c.push_gigabyte.new.out)
    (gigabyte_more c.args.geometry.now c.args.words.now c.loop-gigabyte.gigabyte) c.loop-gigabyte.invariant c.in_ok-push_gigabyte.ensures

pub returns : goal.returns
returns c =
    let end : c.gigabytes-gigabyte-end.result ≡ c.args.geometry.now.setup.gigabytes = c.gigabytes-gigabyte-end.ensures.value ∙ ap (λ (s : SetupData). s.gigabytes) c.setup.ensures.value in
    let all : c.loop-gigabyte.gigabyte ≡ c.args.geometry.now.setup.gigabytes = omega arith in
    c.loop-gigabyte.invariant ∙ ap (λ (t : List ℕ). string_bytes c.args.out.now ++ t)
    (ap (λ (n : ℕ). granules_text c.args.geometry.now c.args.words.now 0 (16 * (n * table_words c.args.geometry.now.setup))) all
    ∙ lines_are c.args.geometry.now c.args.words.now)
