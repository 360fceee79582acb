-- L1 words as one equation: at any moment each is a canonical word of the map, apart from a granule
-- or not by where the holders of locks are in what they do. Nothing here names a lock; that the
-- granules of two holders are in different 512 MB is asked where it is needed.
use Rattle.std.specs.Prelude.{◌≡◌, ◌≢◌, ℕ, ◌/◌, ◌⊎◌, List, [], ◌∷◌, slice_get, slice_index, Option, Some, None, ◌==◌, if◌then◌else◌}
use Rattle.gpi_values.specs.declared.gpi.Gpi.{Gpi}
use Rattle.gpt_descriptors.specs.declared.size.Size.{Size}
use Rattle.gpt_descriptors.specs.declared.size.Size.TheVariants as size
use Rattle.gpt_descriptors.specs.Sizes.{SetupData, words_of}
use Rattle.gpt_descriptors.specs.Canonical.{canonical_word}
use Rattle.gpt_descriptors.specs.Level0.{l1_index}
use Rattle.gpt_descriptors.specs.Places.{GeometryData, Level1, l0_words, place_of}
use Rattle.table_meaning.specs.Splitting.{stored_apart, others_apart}

-- where a holder is: its tables are canonical; it has made k stores of splitting a block of a size;
-- they are canonical apart from its granule; or it has made k stores of merging a block of a size
pub data Step : Type 0 where
  Whole : Step
  Splitting : Size → ℕ → Step
  Apart : Step
  Merging : Size → ℕ → Step

pub record Holder : Type 0 where
  pub granule : ℕ
  pub step : Step

-- the granule, if there is one, from which word w is canonical apart
abbrev pub apart_in : SetupData → ℕ → ℕ → Step → Option ℕ
apart_in s g w Whole = None
apart_in s g w (Splitting z k) = stored_apart s z g k w
apart_in s g w Apart = Some g
apart_in s g w (Merging z k) = others_apart s z g k w

-- the granule counts in its own 512 MB alone
abbrev pub in_block_of : SetupData → ℕ → ℕ → Option ℕ → Option ℕ
in_block_of s g w o =
    if g / 16 / words_of s size.FiveTwelve == w / words_of s size.FiveTwelve then o else None

abbrev pub apart_of : SetupData → ℕ → Holder → Option ℕ
apart_of s w h = in_block_of s h.granule w (apart_in s h.granule w h.step)

abbrev pub first_of_both : Option ℕ → Option ℕ → Option ℕ
first_of_both (Some g) o = Some g
first_of_both None o = o

-- by all holders
unfoldable pub apart_by : SetupData → List Holder → ℕ → Option ℕ
apart_by s [] w = None
apart_by s (h ∷ hs) w = first_of_both (apart_of s w h) (apart_by s hs w)

-- Each L1 word among the shared words is the canonical word of the map, apart from the granule that
-- `apart` names for it, if it names one.
abbrev pub AreWords : GeometryData → (ℕ → Gpi) → (ℕ → Option ℕ) → List ℕ → Type 0
AreWords g m apart words =
    (w i : ℕ) → l1_index g.setup (l0_words g) w ≡ Some i
    → slice_index words (place_of g (Level1 i)) ≡ canonical_word g.setup m (apart w) w

-- each other holder leaves the tables canonical, or its granule is in another 512 MB than granule g
abbrev pub IsAlone : SetupData → List Holder → ℕ → ℕ → Type 0
IsAlone s hs c g =
    (d : ℕ) (h : Holder) → d ≢ c → slice_get hs d ≡ Some h
    → (h.step ≡ Whole)
    ⊎ (h.granule / 16 / words_of s size.FiveTwelve ≢ g / 16 / words_of s size.FiveTwelve)
