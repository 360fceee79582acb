-- The words before the first act.
use Rattle.std.specs.Prelude.{◌≡◌, ℕ, ◌*◌, ◌<◌, List, length, slice_index, Some, None}
use Rattle.gpi_values.specs.declared.gpi.Gpi.{Gpi}
use Rattle.gpt_descriptors.specs.declared.size.Size.{Size}
use Rattle.gpt_descriptors.specs.Sizes.{space_granules}
use Rattle.gpt_descriptors.specs.Canonical.{canonical_word}
use Rattle.gpt_descriptors.specs.Level0.{l1_index}
use Rattle.gpt_descriptors.specs.Places.{GeometryData, IsGeometry, Lock, Duty, Line, place_of, l0_words, l1_words, word_count, blocks_in_region}
use Rattle.table_meaning.specs.Meaning.{BlocksMean}
pub use Rattle.core_machine.specs.InnerCallers.{IsFresh}
use Rattle.core_machine.specs.InnerInvariant.{table_word}
use Rattle.core_machine.specs.Scenarios.{map_at}
use Rattle.core_machine.specs.Facts.{generation_word}

-- All words are there, no lock is held, the L1 words are the canonical ones of a map and each
-- granule below an L0 block has the block's GPI in it, duty words and lines are 0, and each
-- generation is the first one.
pub record AreStarting (g : GeometryData) (first : List Gpi) (words : List ℕ) : Type 0 where
  pub geometry : IsGeometry g
  pub size : length words ≡ word_count g
  pub free : (n : ℕ) → n < 2 → slice_index words (place_of g (Lock n)) ≡ 0
  pub granules : length first ≡ space_granules g.setup
  pub canonical : (w i : ℕ) → l1_index g.setup (l0_words g) w ≡ Some i
      → table_word g words i ≡ canonical_word g.setup (map_at first) None w
  pub blocks : BlocksMean g.setup (l0_words g) (map_at first)
  pub duty : (cpu : ℕ) → cpu < g.cpus → slice_index words (place_of g (Duty cpu)) ≡ 0
  pub lines : (i : ℕ) → i < l1_words g → slice_index words (place_of g (Line i)) ≡ 0
  pub generations : (y : Size) (region : ℕ) → region < blocks_in_region y * g.setup.gigabytes
      → generation_word g words y region ≡ g.setup.first
