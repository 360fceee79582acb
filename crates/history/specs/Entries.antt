-- The parts of entries.
use Rattle.std.specs.Prelude.{ℕ, Bool, false, ◌==◌}
use Rattle.history.specs.declared.entry.Entry.{Entry}
use Rattle.history.specs.declared.entry.Entry.TheVariants as entry

-- the granule of an entry
abbrev pub granule_in : Entry → ℕ
granule_in (entry.Refused caller call granule found) = granule
granule_in (entry.Changed caller call granule from to) = granule
granule_in (entry.Settled caller call granule) = granule
granule_in (entry.Looked caller call granule space gpi allowed) = granule

-- the caller that made it, and the number of the call within the caller
abbrev pub caller_in : Entry → ℕ
caller_in (entry.Refused caller call granule found) = caller
caller_in (entry.Changed caller call granule from to) = caller
caller_in (entry.Settled caller call granule) = caller
caller_in (entry.Looked caller call granule space gpi allowed) = caller

abbrev pub call_in : Entry → ℕ
call_in (entry.Refused caller call granule found) = call
call_in (entry.Changed caller call granule from to) = call
call_in (entry.Settled caller call granule) = call
call_in (entry.Looked caller call granule space gpi allowed) = call

-- the entry changes this granule
abbrev pub changes_granule : ℕ → Entry → Bool
changes_granule granule (entry.Changed caller call other from to) = other == granule
changes_granule granule e = false
