-- Canonical tables mean their map.
use Rattle.std.proofs.Common.{◌≡◌, ℕ, ◌+◌, ◌*◌, ◌/◌, ◌%◌, List, length, Option, Some, sym, ap, ◌∙◌, arith}
use Rattle.gpi_values.specs.declared.gpi.Gpi.{Gpi}
use Rattle.gpt_descriptors.specs.Sizes.{SetupData, table_words}
use Rattle.gpt_descriptors.specs.Entries.{l1_entry, word_gpi}
use Rattle.gpt_descriptors.specs.Level0.{table_count}
use Rattle.gpt_descriptors.proofs.MeaningLemmas.{canonical_meaning, canonical_covers}
use Rattle.table_meaning.specs.Meaning.{BlocksMean, AreCanonicalApart, TablesMean}

pub canonical_mean : (s : SetupData) (l0 l1 : List ℕ) (m : ℕ → Gpi) (apart : ℕ → Option ℕ) → length l1 ≡ table_count l0 * table_words s → BlocksMean s l0 m
    → AreCanonicalApart s l0 l1 m apart → TablesMean s l0 l1 m
canonical_mean s l0 l1 m apart size blocks canonical = record {
  size = size;
  words = λ granule i within at.
      let whole : 16 * (granule / 16) + granule % 16 ≡ granule = omega arith in
      ap (λ (word : ℕ). word_gpi word (granule % 16)) (canonical (granule / 16) i at)
      ∙ canonical_meaning s m (apart (granule / 16)) (granule / 16) (granule % 16) (omega arith)
      ∙ ap (λ (n : ℕ). Some (m n)) whole;
  blocks = blocks;
  covers = λ w i e at entry. canonical_covers s m (apart w) w e (ap l1_entry (sym (canonical w i at)) ∙ entry);
}
