-- The machine as plain data, and the trace of a list of turns.
use Rattle.std.specs.Prelude.{ℕ, List, [], ◌∷◌, ◌++◌, slice_get, slice_set, Option, Some, None}
use Rattle.gpi_values.specs.declared.gpi.Gpi.{Gpi}
use Rattle.gpt_descriptors.specs.Places.{GeometryData}
use Rattle.shared_words.specs.declared.act.Act.{Act}
use Rattle.shared_words.specs.Acts.{answer_of, after_act}
use Rattle.history.specs.declared.entry.Entry.{Entry}
use Rattle.core_machine.specs.declared.caller.Caller.{Caller}
use Rattle.core_machine.specs.InnerCallers.{caller_next, caller_took, made_by}
use Rattle.core_machine.specs.InnerScene.{Scene}
use Rattle.core_machine.specs.InnerInvariant.{HoldsIn}
use Rattle.core_machine.specs.Trace.{TraceEvent, history_of}

pub record MachineData : Type 0 where
  pub geometry : GeometryData
  pub callers : List Caller
  pub words : List ℕ

abbrev pub machine_of : GeometryData → List Caller → List ℕ → MachineData
machine_of g callers words = record { geometry = g; callers = callers; words = words }

-- a machine as a scene
abbrev pub scene_of : List Gpi → MachineData → List Entry → Scene
scene_of first m h =
    record { first = first; words = m.words; callers = m.callers; history = h }

-- the machine has the invariant with a history from a first map
abbrev pub InvariantFor : List Gpi → MachineData → List Entry → Type 0
InvariantFor first m h = HoldsIn m.geometry (scene_of first m h)

-- with some history
abbrev pub HasInvariant : MachineData → Type 0
HasInvariant m = (first : List Gpi) × (h : List Entry) × InvariantFor first m h

-- with each history that m has it with, and these entries more, n has it
abbrev pub KeepsInvariant : MachineData → MachineData → List Entry → Type 0
KeepsInvariant m n made =
    (first : List Gpi) (h : List Entry) → InvariantFor first m h → InvariantFor first n (h ++ made)

-- ---- one turn

-- the next act of a caller is made on the words
abbrev pub after_act_of : MachineData → ℕ → Caller → Option Act → MachineData
after_act_of m c a None = m
after_act_of m c a (Some t) = record {
  geometry = m.geometry;
  callers = slice_set m.callers c (caller_took a (answer_of t m.words));
  words = after_act t m.words;
}

abbrev pub event_of : MachineData → ℕ → Caller → Option Act → List TraceEvent
event_of m c a None = []
event_of m c a (Some t) =
    record {
      caller = c;
      event = record {
        act = t;
        old = answer_of t m.words;
        made = made_by c a (answer_of t m.words);
      };
    }
    ∷ []

-- the machine after a turn of caller c, its event, and the entries that it makes
abbrev pub after_turn_of : MachineData → ℕ → Option Caller → MachineData
after_turn_of m c None = m
after_turn_of m c (Some a) = after_act_of m c a (caller_next a)

abbrev pub after_turn : MachineData → ℕ → MachineData
after_turn m c = after_turn_of m c (slice_get m.callers c)

abbrev pub turn_event_of : MachineData → ℕ → Option Caller → List TraceEvent
turn_event_of m c None = []
turn_event_of m c (Some a) = event_of m c a (caller_next a)

abbrev pub turn_event : MachineData → ℕ → List TraceEvent
turn_event m c = turn_event_of m c (slice_get m.callers c)

abbrev pub turn_entries : MachineData → ℕ → List Entry
turn_entries m c = history_of (turn_event m c)

-- ---- a list of turns, by callers

abbrev pub after_turns : MachineData → List ℕ → MachineData
after_turns m [] = m
after_turns m (c ∷ turns) = after_turns (after_turn m c) turns

-- The trace: the events of the turns, without the turns of a caller that has no act.
abbrev pub trace_of : MachineData → List ℕ → List TraceEvent
trace_of m [] = []
trace_of m (c ∷ turns) = turn_event m c ++ trace_of (after_turn m c) turns
