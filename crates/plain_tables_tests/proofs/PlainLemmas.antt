-- The largest block around a word, by its three tests.
use Rattle.std.proofs.Common.{◌≡◌, ℕ, ◌*◌, ◌/◌, true, false, None, refl, ◌∙◌}
use Rattle.gpi_values.specs.declared.gpi.Gpi.{Gpi}
use Rattle.gpt_descriptors.specs.declared.size.Size.TheVariants as size
use Rattle.gpt_descriptors.specs.declared.entry.L1Entry.TheVariants as l1
use Rattle.gpt_descriptors.specs.Sizes.{SetupData, words_of}
use Rattle.gpt_descriptors.specs.Entries.{l1_word, packed}
use Rattle.gpt_descriptors.specs.Canonical.{is_one_block, canonical_word}
use Rattle.gpt_descriptors.proofs.CanonicalLemmas.{canonical_choice}

pub largest : (s : SetupData) (m : ℕ → Gpi) (w : ℕ) → is_one_block s m size.FiveTwelve (w / words_of s size.FiveTwelve) ≡ true
    → canonical_word s m None w ≡ l1_word (l1.Contig size.FiveTwelve (m (16 * w)))
largest s m w one = canonical_choice s m w ∙ rw one refl

pub larger : (s : SetupData) (m : ℕ → Gpi) (w : ℕ) → is_one_block s m size.FiveTwelve (w / words_of s size.FiveTwelve) ≡ false
    → is_one_block s m size.ThirtyTwo (w / words_of s size.ThirtyTwo) ≡ true → canonical_word s m None w ≡ l1_word (l1.Contig size.ThirtyTwo (m (16 * w)))
larger s m w none one = canonical_choice s m w ∙ rw (none, one) refl

pub least : (s : SetupData) (m : ℕ → Gpi) (w : ℕ) → is_one_block s m size.FiveTwelve (w / words_of s size.FiveTwelve) ≡ false
    → is_one_block s m size.ThirtyTwo (w / words_of s size.ThirtyTwo) ≡ false → is_one_block s m size.Two (w / words_of s size.Two) ≡ true
    → canonical_word s m None w ≡ l1_word (l1.Contig size.Two (m (16 * w)))
least s m w none more one = canonical_choice s m w ∙ rw (none, more, one) refl

pub without : (s : SetupData) (m : ℕ → Gpi) (w : ℕ) → is_one_block s m size.FiveTwelve (w / words_of s size.FiveTwelve) ≡ false
    → is_one_block s m size.ThirtyTwo (w / words_of s size.ThirtyTwo) ≡ false → is_one_block s m size.Two (w / words_of s size.Two) ≡ false
    → canonical_word s m None w ≡ packed m (16 * w) 16
without s m w none more last = canonical_choice s m w ∙ rw (none, more, last) refl

pub ruleset choices = (largest, larger, least, without)
