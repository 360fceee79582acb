-- Resident lines: which of them a history leaves where no access and no transition is under way.
use Rattle.std.specs.Prelude.{◌≡◌, ℕ, ◌*◌, ◌<◌, Bool, true, false, ◌&&◌, ◌||◌, ◌==◌, List, [], ◌∷◌, slice_index, if◌then◌else◌}
use Rattle.gpi_values.specs.declared.gpi.Gpi.{Gpi}
use Rattle.gpi_values.specs.declared.gpi.Space.{Space}
use Rattle.gpi_values.specs.Values.{gpi_of_space, permits_of}
use Rattle.gpt_descriptors.specs.Places.{GeometryData, Duty, place_of}
use Rattle.gpt_descriptors.specs.Sizes.{granule_bytes}
use Rattle.bit_locks.specs.Locks.{lock_bit, lock_number}
use Rattle.alias_clean.specs.Lines.{has_line}
use Rattle.history.specs.declared.entry.Entry.{Entry}
use Rattle.history.specs.declared.entry.Entry.TheVariants as entry
use Rattle.history.specs.Entries.{changes_granule}

-- the entry is of an allowed access to this granule in this space
abbrev pub is_allowed_look : ℕ → Space → Entry → Bool
is_allowed_look granule s (entry.Looked c k other t gpi allowed) =
    allowed && ((other == granule) && permits_of (gpi_of_space t) s)
is_allowed_look granule s e = false

-- such an entry stands in a history with no change of the granule after it; `seen` says so of the
-- entries before
abbrev pub seen_after : ℕ → Space → Bool → Entry → Bool
seen_after granule s seen e =
    if changes_granule granule e then false else is_allowed_look granule s e || seen

abbrev pub is_seen_since : ℕ → Space → Bool → List Entry → Bool
is_seen_since granule s seen [] = seen
is_seen_since granule s seen (e ∷ h) = is_seen_since granule s (seen_after granule s seen e) h

abbrev pub seen_in : ℕ → Space → List Entry → Bool
seen_in granule s h = is_seen_since granule s false h

-- Lines at rest: a line is resident exactly where the map permits its space and an allowed access
-- to it stands in the history with no change of the granule after it.
abbrev pub AreAtRest : GeometryData → List ℕ → (ℕ → Gpi) → List Entry → Type 0
AreAtRest g words m h =
    (granule : ℕ) (s : Space)
    → has_line g words granule s ≡ (permits_of (m granule) s && seen_in granule s h)

-- While the lock of its granule's block isn't held, a resident line is one of these: nothing is left
-- of what the granule's former space had touched.
abbrev pub AreCleaned : GeometryData → List ℕ → (ℕ → Gpi) → List Entry → Type 0
AreCleaned g words m h =
    (granule : ℕ) (s : Space)
    → lock_bit words (lock_number g.setup (granule * granule_bytes g.setup)) ≡ 0
    → has_line g words granule s ≡ true → (permits_of (m granule) s && seen_in granule s h) ≡ true

-- While no access is under way, each of these is resident.
abbrev pub AreTouched : GeometryData → List ℕ → (ℕ → Gpi) → List Entry → Type 0
AreTouched g words m h =
    ((cpu : ℕ) → cpu < g.cpus → slice_index words (place_of g (Duty cpu)) ≡ 0)
    → (granule : ℕ) (s : Space) → (permits_of (m granule) s && seen_in granule s h) ≡ true
    → has_line g words granule s ≡ true
