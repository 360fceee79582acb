-- The generations of a history: how often the granules of a region were changed.
use Rattle.std.specs.Prelude.{◌≡◌, ℕ, ◌+◌, ◌*◌, ◌/◌, Bool, true, false, ◌&&◌, List, [], ◌∷◌, ◌++◌, count_by, ◌==◌, Option, Some}
use Rattle.std.specs.List.{find}
use Rattle.gpi_values.specs.declared.gpi.Gpi.{Gpi}
use Rattle.gpt_descriptors.specs.declared.size.Size.{Size}
use Rattle.gpt_descriptors.specs.declared.size.Size.TheVariants as size
use Rattle.gpt_descriptors.specs.declared.size.Generations.{Generations}
use Rattle.gpt_descriptors.specs.Sizes.{size_bytes}
pub use Rattle.gpt_descriptors.specs.Sizes.{is_worn}
use Rattle.history.specs.declared.entry.Entry.{Entry}
use Rattle.history.specs.declared.entry.Entry.TheVariants as entry
use Rattle.history.specs.Entries.{granule_in, caller_in, call_in}

-- the region of this size around a granule, granules having this number of bytes
abbrev pub region_of : ℕ → Size → ℕ → ℕ
region_of bytes z granule = granule * bytes / size_bytes z

abbrev pub is_change : Entry → Bool
is_change (entry.Changed caller call granule from to) = true
is_change e = false

abbrev pub is_completion : Entry → Bool
is_completion (entry.Settled caller call granule) = true
is_completion e = false

-- the count of a region: the first generation and one for each change of a granule in it
abbrev pub count_of : ℕ → ℕ → Size → ℕ → List Entry → ℕ
count_of first bytes z region h =
    first + count_by (λ e. is_change e && (region_of bytes z (granule_in e) == region)) h

-- the count of the region of a size around a granule, and those of all three sizes
abbrev pub count_around : ℕ → ℕ → ℕ → List Entry → Size → ℕ
count_around first bytes granule h z = count_of first bytes z (region_of bytes z granule) h

abbrev pub counts_around : ℕ → ℕ → ℕ → List Entry → Generations
counts_around first bytes granule h = record {
  two = count_around first bytes granule h size.Two;
  thirty_two = count_around first bytes granule h size.ThirtyTwo;
  five_twelve = count_around first bytes granule h size.FiveTwelve;
}

-- the first size whose count around a granule is worn
abbrev pub first_worn_size : ℕ → ℕ → ℕ → List Entry → Option Size
first_worn_size first bytes granule h =
    find (λ z. is_worn (count_around first bytes granule h z))
    (size.Two ∷ size.ThirtyTwo ∷ size.FiveTwelve ∷ [])

abbrev pub is_by : ℕ → ℕ → Entry → Bool
is_by c k e = (caller_in e == c) && (call_in e == k)

-- A transition that is done is answered the counts around its granule up to and with its last
-- completion.
pub record AreDoneCounts (first bytes c k granule : ℕ) (given : Generations)
    (h : List Entry) : Type 0 where
  pub before : List Entry
  pub after : List Entry
  pub parts : h ≡ before ++ entry.Settled c k granule ∷ after
  pub last : count_by (λ e. is_completion e && is_by c k e) after ≡ 0
  pub counts : given ≡ counts_around first bytes granule before

-- A transition that is refused for a worn generation is answered the first such size, and its count
-- before the refusal.
pub record IsWornCount (first bytes c k granule : ℕ) (z : Size) (value : ℕ)
    (h : List Entry) : Type 0 where
  pub before : List Entry
  pub after : List Entry
  pub found : Gpi
  pub parts : h ≡ before ++ entry.Refused c k granule found ∷ after
  pub first_worn : first_worn_size first bytes granule before ≡ Some z
  pub counted : value ≡ count_around first bytes granule before z
