-- Rings of cached walks: what a kept walk covers, which of them an access finds, and which of them
-- are kept. They are in the place of the walks of the granule protection tables that a TLB has cached
-- (DDI 0487, granule protection checks).
use Rattle.std.specs.Prelude.{◌≡◌, ℕ, ◌+◌, ◌-◌, ◌*◌, ◌/◌, ◌≤◌, Bool, true, false, ◌&&◌, List, [], ◌∷◌, ◌++◌, length, drop, reverse, Option, nat_lt, nat_le, if◌then◌else◌}
use Rattle.std.specs.List.{find, All}
use Rattle.gpt_descriptors.specs.declared.size.Size.TheVariants as size
use Rattle.gpt_descriptors.specs.declared.size.Reach.{Reach}
use Rattle.gpt_descriptors.specs.declared.size.Reach.TheVariants as reach
use Rattle.gpt_descriptors.specs.Sizes.{small_granule, size_bytes, most_walks}
use Rattle.walk_cache.specs.declared.walk.Walk.{Walk}

-- ---- one walk

-- bytes that an L1 entry of this reach covers: sixteen granules, or a contiguous block
abbrev pub reach_bytes : Reach → ℕ
reach_bytes reach.Word = 16 * small_granule
reach_bytes reach.Two = size_bytes size.Two
reach_bytes reach.ThirtyTwo = size_bytes size.ThirtyTwo
reach_bytes reach.FiveTwelve = size_bytes size.FiveTwelve

-- the first address that the entry of this reach around an address covers: it is aligned
abbrev pub first_around : Reach → ℕ → ℕ
first_around reach pa = pa / reach_bytes reach * reach_bytes reach

-- the address is one of the bytes of this reach, from this first one on
abbrev pub covers_from : Reach → ℕ → ℕ → Bool
covers_from reach first pa = nat_le first pa && nat_lt pa (first + reach_bytes reach)

abbrev pub covers : Walk → ℕ → Bool
covers walk pa = covers_from walk.reach walk.first pa

-- ---- walks, oldest first, or what else is kept of them

-- the newest that passes a test; none where none does
abbrev pub newest_by : {A : Type 0} → (A → Bool) → List A → Option A
newest_by test walks = find test (reverse walks)

-- the newest walk that covers the address
abbrev pub newest_of : List Walk → ℕ → Option Walk
newest_of walks pa = newest_by (λ walk. covers walk pa) walks

-- the walk is one of these, it covers the address, and no walk after it does
pub record IsLastCovering (walks : List Walk) (pa : ℕ) (walk : Walk) : Type 0 where
  pub earlier : List Walk
  pub later : List Walk
  pub parts : walks ≡ earlier ++ walk ∷ later
  pub here : covers walk pa ≡ true
  pub not_later : All (λ other. covers other pa ≡ false) later

-- the last n; all of them where there are fewer
abbrev pub last_of : {A : Type 0} → ℕ → List A → List A
last_of n walks = drop (length walks - n) walks

-- a walk is noted in a ring: it is appended, and the oldest is dropped where the ring is full
abbrev pub noted : ℕ → Walk → List Walk → List Walk
noted ring walk walks =
    if nat_lt (length walks) ring then walks ++ walk ∷ [] else drop 1 walks ++ walk ∷ []

-- walks are noted one after another
abbrev pub all_noted : ℕ → List Walk → List Walk → List Walk
all_noted ring [] walks = walks
all_noted ring (walk ∷ later) walks = all_noted ring later (noted ring walk walks)

-- ---- a ring as plain data: its walks, oldest first, and how many it keeps

pub record RingData : Type 0 where
  pub walks : List Walk
  pub ring : ℕ

pub record IsRing (r : RingData) : Type 0 where
  pub low : 1 ≤ r.ring
  pub high : r.ring ≤ most_walks
  pub within : length r.walks ≤ r.ring
