-- The GPIs of a granule by the changes of a region around it, and which of them an access saw.
use Rattle.std.specs.Prelude.{◌≡◌, ℕ, ◌+◌, ◌≤◌, Bool, ◌&&◌, List, [], ◌∷◌, ◌++◌, ◌==◌, slice_get, Some, if◌then◌else◌}
use Rattle.gpi_values.specs.declared.gpi.Gpi.{Gpi}
use Rattle.gpt_descriptors.specs.declared.size.Size.{Size}
use Rattle.history.specs.declared.entry.Entry.{Entry}
use Rattle.history.specs.declared.entry.Entry.TheVariants as entry
use Rattle.history.specs.Entries.{granule_in}
use Rattle.history.specs.Counts.{region_of, is_change}

-- An access with the stamps lo and hi saw a GPI that a change from number lo to number hi + 1 gave.
-- The values are the GPIs of its granule after 0, 1, 2 .. changes of the region, which are numbered
-- from `first`.
pub record SawAmong (values : List Gpi) (first lo hi : ℕ) (gpi : Gpi) : Type 0 where
  pub changes : ℕ
  pub low : lo ≤ first + changes
  pub high : first + changes ≤ hi + 1
  pub gave : slice_get values changes ≡ Some gpi

-- the entry changes a granule in the region of this size around a granule
abbrev pub is_change_around : ℕ → Size → ℕ → Entry → Bool
is_change_around bytes z granule e =
    is_change e && (region_of bytes z (granule_in e) == region_of bytes z granule)

-- the GPI of a granule after an entry, and before it
abbrev pub value_after : ℕ → Gpi → Entry → Gpi
value_after granule gpi (entry.Changed caller call other from to) =
    if other == granule then to else gpi
value_after granule gpi e = gpi

-- the GPIs of a granule after 0, 1, 2 .. changes of the region of a size around it
abbrev pub values_after : ℕ → Size → ℕ → Gpi → List Entry → List Gpi
values_after bytes z granule gpi [] = gpi ∷ []
values_after bytes z granule gpi (e ∷ h) =
    (if is_change_around bytes z granule e then gpi ∷ [] else [])
    ++ values_after bytes z granule (value_after granule gpi e) h
