-- What granule protection tables mean (DDI 0487, granule protection table walk): an L0 table, and
-- the L1 words of all tables that it names, give each granule of the protected space a GPI. A
-- granule is named by its number. Word w has granules 16 w to 16 w + 15.
use Rattle.std.specs.Prelude.{◌≡◌, ℕ, ◌*◌, ◌/◌, ◌%◌, ◌<◌, List, length, slice_index, Option, Some, None}
use Rattle.gpi_values.specs.declared.gpi.Gpi.{Gpi}
use Rattle.gpt_descriptors.specs.declared.entry.L1Entry.{L1Entry}
use Rattle.gpt_descriptors.specs.Sizes.{SetupData, table_words, space_granules}
use Rattle.gpt_descriptors.specs.Entries.{l0_entry, l1_entry, word_gpi}
use Rattle.gpt_descriptors.specs.Canonical.{canonical_word, CoversEqual}
use Rattle.gpt_descriptors.specs.Level0.{table_count, l1_index}
use Rattle.gpt_descriptors.specs.Places.{block_gpi_in}

-- the GPI of the L0 block around a granule; none where a table is there
abbrev pub block_gpi_at : SetupData → List ℕ → ℕ → Option Gpi
block_gpi_at s l0 granule = block_gpi_in (l0_entry (slice_index l0 (granule / 16 / table_words s)))

-- each granule below an L0 block has the block's GPI in the map
abbrev pub BlocksMean : SetupData → List ℕ → (ℕ → Gpi) → Type 0
BlocksMean s l0 m =
    (granule : ℕ) → granule < space_granules s → l1_index s l0 (granule / 16) ≡ None
    → block_gpi_at s l0 granule ≡ Some (m granule)

-- Tables mean a map: there are the words of each table, each granule has the map's GPI, by its L1
-- word or by its L0 block, and every granule of the aligned block of a contiguous entry has the
-- entry's GPI in the map.
pub record TablesMean (s : SetupData) (l0 l1 : List ℕ) (m : ℕ → Gpi) : Type 0 where
  pub size : length l1 ≡ table_count l0 * table_words s
  pub words : (granule i : ℕ) → granule < space_granules s → l1_index s l0 (granule / 16) ≡ Some i
      → word_gpi (slice_index l1 i) (granule % 16) ≡ Some (m granule)
  pub blocks : BlocksMean s l0 m
  pub covers : (w i : ℕ) (e : L1Entry) → l1_index s l0 w ≡ Some i
      → l1_entry (slice_index l1 i) ≡ Some e → CoversEqual s m w e

-- Each L1 word is the canonical word of the map, apart from a granule where `apart` names one for
-- it.
abbrev pub AreCanonicalApart : SetupData → List ℕ → List ℕ → (ℕ → Gpi) → (ℕ → Option ℕ) → Type 0
AreCanonicalApart s l0 l1 m apart =
    (w i : ℕ) → l1_index s l0 w ≡ Some i → slice_index l1 i ≡ canonical_word s m (apart w) w

-- Each L1 word is the canonical word of the map.
abbrev pub AreCanonical : SetupData → List ℕ → List ℕ → (ℕ → Gpi) → Type 0
AreCanonical s l0 l1 m = AreCanonicalApart s l0 l1 m (λ w. None)
