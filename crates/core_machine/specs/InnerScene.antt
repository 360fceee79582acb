-- A moment of a run as plain data: the first map, the shared words, the callers, and the history so
-- far.
use Rattle.std.specs.Prelude.{ℕ, List, ◌++◌, slice_set}
use Rattle.gpi_values.specs.declared.gpi.Gpi.{Gpi}
use Rattle.history.specs.declared.entry.Entry.{Entry}
use Rattle.history.specs.States.{State, start, state_after}
use Rattle.core_machine.specs.declared.caller.Caller.{Caller}
use Rattle.core_machine.specs.Scenarios.{map_at}

pub record Scene : Type 0 where
  pub first : List Gpi
  pub words : List ℕ
  pub callers : List Caller
  pub history : List Entry

-- the state that its history leaves, and the map
abbrev pub state_in : Scene → State
state_in s = state_after (start s.first) s.history

abbrev pub map_in : Scene → ℕ → Gpi
map_in s = map_at (state_in s).map

-- caller c has become x, the words are these, and the history has these entries more
abbrev pub scene_after : Scene → ℕ → Caller → List ℕ → List Entry → Scene
scene_after s c x words made = record {
  first = s.first;
  words = words;
  callers = slice_set s.callers c x;
  history = s.history ++ made;
}
