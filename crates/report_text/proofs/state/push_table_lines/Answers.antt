use Rattle.std.proofs.Common.{ℕ, ◌≡◌, ◌+◌, ◌*◌, List, ◌++◌, slice_index, string_bytes, ap, ◌∙◌, arith}
use Rattle.gpt_descriptors.specs.Sizes.{table_words, granule_bytes}
use Rattle.gpt_descriptors.proofs.PlaceLemmas.{l1_words_high}
use Rattle.report_text.specs.RunParts.{granules_text, word_lines}
use Rattle.report_text.proofs.StateLemmas.{row_none, row_more, line_within, begins, pushed}
use Rattle.report_text.proofs.state.push_table_lines.Goals as goal

pub loop-k-init : goal.loop-k-init
loop-k-init c =
    begins (string_bytes c.args.out.now) (granules_text c.args.geometry.now c.args.words.now (16 * (c.args.gigabyte * table_words c.args.geometry.now.setup)) 0)
    (row_none c.args.geometry.now c.args.words.now (16 * (c.args.gigabyte * table_words c.args.geometry.now.setup)))

pub overflow_add-word : goal.overflow_add-word
overflow_add-word c =
    let size : c.table_words-size.result ≡ table_words c.args.geometry.now.setup = c.table_words-size.ensures.value ∙ ap table_words c.setup-setup.ensures.value in
    let within = line_within c.args.geometry.now c.args.gigabyte c.loop-k.k c.args.start c.setup-setup.ensures.geometry (omega arith) c.requires.place in
    omega (arith, within, c.requires.words)

pub offset_bounds-words-start : goal.offset_bounds-words-start
offset_bounds-words-start c =
    let size : c.table_words-size.result ≡ table_words c.args.geometry.now.setup = c.table_words-size.ensures.value ∙ ap table_words c.setup-setup.ensures.value in
    let is = c.setup-setup.ensures.geometry in
    let within = line_within c.args.geometry.now c.args.gigabyte c.loop-k.k c.args.start is (omega arith) c.requires.place in
    omega (arith, within, l1_words_high c.args.geometry.now is, is.setup.gigabytes, is.cpus)

pub bounds-words-start : goal.bounds-words-start
bounds-words-start c =
    let size : c.table_words-size.result ≡ table_words c.args.geometry.now.setup = c.table_words-size.ensures.value ∙ ap table_words c.setup-setup.ensures.value in
    let within = line_within c.args.geometry.now c.args.gigabyte c.loop-k.k c.args.start c.setup-setup.ensures.geometry (omega arith) c.requires.place in
    omega (arith, within, c.requires.words)

pub loop-k-preserved : goal.loop-k-preserved
loop-k-preserved c =
    let size : c.table_words-size.result ≡ table_words c.args.geometry.now.setup = c.table_words-size.ensures.value ∙ ap table_words c.setup-setup.ensures.value in
    let bytes : c.granule_bytes-bytes.result ≡ granule_bytes c.args.geometry.now.setup = c.granule_bytes-bytes.ensures.value ∙ ap granule_bytes c.setup-setup.ensures.value in
    let word : ℕ = slice_index c.args.words.now (c.args.start + c.loop-k.k) in
    pushed (string_bytes c.args.out.now) (granules_text c.args.geometry.now c.args.words.now (16 * (c.args.gigabyte * table_words c.args.geometry.now.setup)) (16 * c.loop-k.k))
    (word_lines (granule_bytes c.args.geometry.now.setup) word (16 * (c.args.gigabyte * table_words c.args.geometry.now.setup + c.loop-k.k)) 16) _
    (string_bytes c.loop-k.out) (string_bytes c.push_word.new.out)
    (row_more c.args.geometry.now c.args.words.now c.args.gigabyte c.loop-k.k c.args.start (omega arith) c.requires.place) c.loop-k.invariant
    (c.in_ok-push_word.ensures
    ∙ ap (λ (t : List ℕ). string_bytes c.loop-k.out ++ t)
    (ap (λ (b : ℕ). word_lines b word (16 * (c.args.gigabyte * c.table_words-size.result + c.loop-k.k)) 16) bytes
    ∙ ap (λ (n : ℕ). word_lines (granule_bytes c.args.geometry.now.setup) word (16 * (c.args.gigabyte * n + c.loop-k.k)) 16) size))
