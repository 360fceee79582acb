-- The state that a history leaves: a map from granule to GPI, and the changes that aren't complete.
use Rattle.std.specs.Prelude.{ℕ, Bool, not, List, [], ◌∷◌, ◌++◌, ◌==◌, slice_set}
use Rattle.std.specs.List.{filter, list_any}
use Rattle.gpi_values.specs.declared.gpi.Gpi.{Gpi}
use Rattle.history.specs.declared.entry.Entry.{Entry}
use Rattle.history.specs.declared.entry.Entry.TheVariants as entry

-- the GPI of each granule, and for each change that isn't complete its granule and the former GPI
pub record State : Type 0 where
  pub map : List Gpi
  pub opened : List (ℕ × Gpi)

-- nothing is open before the first entry
abbrev pub start : List Gpi → State
start map = record { map = map; opened = [] }

-- a change of this granule isn't complete
abbrev pub is_open : State → ℕ → Bool
is_open s granule = list_any (λ pair. pair.0 == granule) s.opened

-- the pairs of other granules
abbrev pub without : ℕ → List (ℕ × Gpi) → List (ℕ × Gpi)
without granule pairs = filter (λ pair. not (pair.0 == granule)) pairs

-- the state after a change, which sets its granule and opens it
abbrev pub after_change : State → ℕ → Gpi → Gpi → State
after_change s granule from to =
    record { map = slice_set s.map granule to; opened = s.opened ++ (granule, from) ∷ [] }

-- the state after an entry: that after a change, and its completion closes the granule
abbrev pub after_entry : State → Entry → State
after_entry s (entry.Refused caller call granule found) = s
after_entry s (entry.Changed caller call granule from to) = after_change s granule from to
after_entry s (entry.Settled caller call granule) =
    record { map = s.map; opened = without granule s.opened }
after_entry s (entry.Looked caller call granule space gpi allowed) = s

-- the state after a list of entries
abbrev pub state_after : State → List Entry → State
state_after s [] = s
state_after s (e ∷ h) = state_after (after_entry s e) h
