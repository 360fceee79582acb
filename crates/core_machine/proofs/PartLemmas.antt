-- The tables among the shared words mean the map.
use Rattle.std.proofs.Common.{◌≡◌, ℕ, ◌+◌, ◌*◌, ◌<◌, List, length, drop, map, Option, ap, ◌∙◌, arith, length-drop}
use Rattle.std.specs.Prelude.{slice_index}
use Rattle.std.proofs.lemmas.List.{get_or-take, get_or-drop, length-take}
use Rattle.core_machine.proofs.Names.{Gpi, table_words, GeometryData, IsGeometry, Level1, place_of, l0_words, l1_words, word_count, apart_by, AreWords, Caller, holder_by}
use Rattle.table_meaning.specs.Meaning.{TablesMean, AreCanonicalApart}
use Rattle.table_meaning.proofs.MeaningLemmas.{canonical_mean}
use Rattle.core_machine.specs.Facts.{table_part}
use Rattle.core_machine.specs.InnerInvariant.{table_word, AreTables}
use Rattle.core_machine.proofs.AddressLemmas.{index_below}

pub part_word : (g : GeometryData) (words : List ℕ) (i : ℕ) → i < l1_words g → slice_index (table_part g words) i ≡ table_word g words i
part_word g words i within = get_or-take (l1_words g) (drop (place_of g (Level1 0)) words) i 0 within ∙ get_or-drop (place_of g (Level1 0)) words i 0 ∙ ap (slice_index words) (let place : place_of g (Level1 0) + i ≡ place_of g (Level1 i) = omega arith in place)

part_size : (g : GeometryData) (words : List ℕ) → length words ≡ word_count g → length (table_part g words) ≡ l1_words g
part_size g words size =
    let cut = length-take (l1_words g) (drop (place_of g (Level1 0)) words) in
    let rest = length-drop (place_of g (Level1 0)) words in
    omega (arith, cut, rest, size)

-- the words of the tables are canonical as those among the shared words are
pub part_apart : (g : GeometryData) (m : ℕ → Gpi) (apart : ℕ → Option ℕ) (words : List ℕ) → IsGeometry g → AreWords g m apart words
    → AreCanonicalApart g.setup (l0_words g) (table_part g words) m apart
part_apart g m apart words geometry are w i at = part_word g words i (index_below g w i geometry at) ∙ are w i at

pub part_means : (g : GeometryData) (words : List ℕ) (callers : List Caller) (m : ℕ → Gpi) → IsGeometry g → length words ≡ word_count g → AreTables g words callers m
    → TablesMean g.setup (l0_words g) (table_part g words) m
part_means g words callers m geometry size tables =
    canonical_mean g.setup (l0_words g) (table_part g words) m (apart_by g.setup (map holder_by callers))
    (part_size g words size ∙ ap (λ (n : ℕ). n * table_words g.setup) geometry.tables) tables.blocks
    (part_apart g m (apart_by g.setup (map holder_by callers)) words geometry tables.level1)
