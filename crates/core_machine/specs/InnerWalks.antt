-- Kept walks of the tables: what makes a hit right. A walk whose tag is the generation of its region gives each
-- granule that it covers the map's GPI, or a former one whose change hasn't raised that generation yet.
use Rattle.std.specs.Prelude.{◌≡◌, ℕ, ◌/◌, ◌≤◌, ◌<◌, ◌⊎◌, true, List, [], ◌∷◌, slice_get, Some}
use Rattle.gpi_values.specs.declared.gpi.Gpi.{Gpi}
use Rattle.gpt_descriptors.specs.declared.size.Size.{Size}
use Rattle.gpt_descriptors.specs.Sizes.{granule_bytes, granule_number, place_in_word, size_bytes, space_bytes, tag_size_of}
use Rattle.gpt_descriptors.specs.Entries.{word_gpi}
use Rattle.gpt_descriptors.specs.Places.{GeometryData}
use Rattle.walk_cache.specs.declared.walk.Walk.{Walk}
use Rattle.walk_cache.specs.Rings.{covers}
use Rattle.history.specs.declared.entry.Entry.{Entry}
use Rattle.history.specs.Counts.{region_of}
use Rattle.history.specs.Stamps.{Gave}
use Rattle.core_machine.specs.declared.caller.Caller.{Caller}
use Rattle.core_machine.specs.Facts.{generation_word}
use Rattle.core_machine.specs.InnerCallers.{unraised_by}

-- ---- lists of callers

-- it stands in the list
abbrev pub In : {A : Type 0} → A → List A → Type 0
In x [] = ⊥
In x (y ∷ ys) = (y ≡ x) ⊎ In x ys

-- some caller has it in its list
pub record SomeHas {A : Type 0} (callers : List Caller) (by : Caller → List A) (item : A)
    : Type 0 where
  pub number : ℕ
  pub caller : Caller
  pub at : slice_get callers number ≡ Some caller
  pub has : In item (by caller)

-- ---- walks

-- the region whose generation is the tag of a walk, and that generation
abbrev pub walk_size : Walk → Size
walk_size w = tag_size_of w.reach

abbrev pub walk_generation : GeometryData → List ℕ → Walk → ℕ
walk_generation g words w =
    generation_word g words (walk_size w) (w.first / size_bytes (walk_size w))

-- a walk gives the granule of this address a GPI: the map's, or one that some caller has changed
-- and not yet raised that generation
pub record GivesNow (g : GeometryData) (m : ℕ → Gpi) (callers : List Caller) (w : Walk) (pa : ℕ)
    : Type 0 where
  pub gpi : Gpi
  pub gives : word_gpi w.word (place_in_word g.setup pa) ≡ Some gpi
  pub known : (m (granule_number g.setup pa) ≡ gpi)
      ⊎ SomeHas callers (unraised_by (walk_size w)) (granule_number g.setup pa, gpi)

pub record WalkHolds (g : GeometryData) (words : List ℕ) (m : ℕ → Gpi) (callers : List Caller)
    (w : Walk) : Type 0 where
  pub inside : w.first < space_bytes g.setup
  pub home : (pa : ℕ) → covers w pa ≡ true
      → pa / size_bytes (walk_size w) ≡ w.first / size_bytes (walk_size w)
  pub low : w.tag ≤ walk_generation g words w
  pub says : w.tag ≡ walk_generation g words w
      → (pa : ℕ) → covers w pa ≡ true → GivesNow g m callers w pa

-- ---- changes whose generation isn't raised yet

-- the generation of the region of this size around a granule
abbrev pub generation_around : GeometryData → List ℕ → Size → ℕ → ℕ
generation_around g words y granule =
    generation_word g words y (region_of (granule_bytes g.setup) y granule)

-- The former GPI of such a change is what the change numbered by the generation left.
abbrev pub PairsNumbered : GeometryData → List Gpi → List ℕ → List Caller → List Entry → Type 0
PairsNumbered g first words callers h =
    (y : Size) (granule : ℕ) (former : Gpi)
    → SomeHas callers (unraised_by y) (granule, former)
    → Gave first g.setup.first (granule_bytes g.setup) granule y
    (generation_around g words y granule) former h
