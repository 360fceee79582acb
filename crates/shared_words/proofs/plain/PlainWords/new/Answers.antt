use Rattle.std.proofs.Common.{ℕ, ◌+◌, ◌*◌, ap, ◌∙◌, arith}
use Rattle.gpt_descriptors.specs.Sizes.{SetupData}
use Rattle.shared_words.proofs.StartLemmas.{rows_are_start}
use Rattle.shared_words.proofs.plain.PlainWords.new.Goals as goal

pub returns-clause-words : goal.returns-clause-words
returns-clause-words c =
    let setup = c.setup-setup.ensures.value in
    rows_are_start c.args.geometry.now c.args.l1.now _ _ _ _ _ _ _ _ _ _ _ _ _ _ _ c.requires
    c.in_ok-words.ensures.items c.in_ok-words.ensures.len
    c.in_ok-resize.ensures.items c.in_ok-resize.ensures.len
    (ap (λ (n : ℕ). 2 + 546 * n) (c.gigabytes.ensures.value ∙ ap (λ (s : SetupData). s.gigabytes) setup))
    (c.first.ensures.value ∙ ap (λ (s : SetupData). s.first) setup)
    c.in_ok-resize-2.ensures.items c.in_ok-resize-2.ensures.len
    (omega arith) c.in_ok-resize-3.ensures.items c.in_ok-resize-3.ensures.len
    c.in_ok-extend_from_slice.ensures.items c.in_ok-extend_from_slice.ensures.len
    c.words-2.ensures c.in_ok-resize-4.ensures.items
