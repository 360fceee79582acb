-- Reading the lines of a text from left to right, with the first fault that is met, over lists. It
-- serves the reader's inner contracts: no public contract names it, and nobody has to believe it.
use Rattle.std.specs.Prelude.{◌≡◌, ℕ, ◌+◌, ◌*◌, ◌<◌, ◌≤◌, ◌^◌, true, List, [], ◌∷◌, get_or, Option, Some, None, Result, Ok, Err, ◌==◌, ◌&&◌, nat_lt, nat_le, if◌then◌else◌}
use Rattle.gpi_values.specs.declared.gpi.Gpi.{Gpi}
use Rattle.gpi_values.specs.declared.gpi.Gpi.TheVariants as gpi
use Rattle.gpi_values.specs.declared.gpi.Space.{Space}
use Rattle.gpi_values.specs.declared.gpi.Space.TheVariants as space
use Rattle.gpi_values.specs.declared.security.Source.{Source}
use Rattle.gpi_values.specs.declared.security.Source.TheVariants as source
use Rattle.gpi_values.specs.declared.security.World.{World}
use Rattle.gpi_values.specs.declared.security.World.TheVariants as world
use Rattle.gpt_descriptors.specs.Sizes.{region_bytes}
use Rattle.line_text.specs.declared.kind.RowFault.{RowFault}
use Rattle.line_text.specs.Lines.{fields_in, lines_in}
use Rattle.line_text.specs.InnerRows.{◌>>=◌, FieldFits, ok_padded, read_row}
use Rattle.region_plan.specs.declared.region.Kind.{Kind}
use Rattle.region_plan.specs.declared.region.Kind.TheVariants as kind
use Rattle.scenario_text.specs.declared.line.Line.{Line}
use Rattle.scenario_text.specs.declared.line.Line.TheVariants as says
use Rattle.scenario_text.specs.declared.scenario.Ask.{Ask}
use Rattle.scenario_text.specs.declared.scenario.Ask.TheVariants as ask
use Rattle.scenario_text.specs.declared.scenario.Slot.TheVariants as slot
use Rattle.scenario_text.specs.declared.scenario.Fault.{Fault}
use Rattle.scenario_text.specs.declared.scenario.Fault.TheVariants as fault
use Rattle.scenario_text.specs.declared.scenario.TextError.{TextError}
use Rattle.scenario_text.specs.declared.scenario.TextError.TheVariants as error
use Rattle.scenario_text.specs.declared.context.Place.{Place}
use Rattle.scenario_text.specs.declared.context.Place.TheVariants as places
use Rattle.scenario_text.specs.declared.context.Context.{Context}
use Rattle.scenario_text.specs.declared.word.Setting.TheVariants as setting
use Rattle.scenario_text.specs.declared.word.Word.{Word}
use Rattle.scenario_text.specs.declared.word.Word.TheVariants as word
use Rattle.scenario_text.specs.Spelling.{caller_limit, turn_limit, turns_of, IsRegion, IsAsk, IsSlot}
use Rattle.scenario_text.specs.Faults.{word_of, may_come, is_caller, setting_kind, kinds_of, fault_of, head_index, head_place, is_ended, rest_fault, start}

-- ---- values of names, in the order of the names

abbrev pub all_gpis : List Gpi
all_gpis = gpi.NoAccess ∷ gpi.Secure ∷ gpi.NonSecure ∷ gpi.Root ∷ gpi.Realm ∷ gpi.Any ∷ []

abbrev pub all_spaces : List Space
all_spaces = space.Secure ∷ space.NonSecure ∷ space.Root ∷ space.Realm ∷ []

abbrev pub all_sources : List Source
all_sources = source.Realm ∷ source.Secure ∷ []

abbrev pub all_worlds : List World
all_worlds = world.Realm ∷ world.Secure ∷ world.NonSecure ∷ []

abbrev pub all_kinds : List Kind
all_kinds = kind.Block ∷ kind.Granule ∷ []

-- ---- lines, by their word

abbrev pub monitor_call : ℕ → ℕ → World → Ask
monitor_call verb pa w = if verb == 0 then ask.SmcDelegate pa w else ask.SmcUndelegate pa w

-- what a line of this word says by its values
abbrev pub line_with : Word → List ℕ → Line
line_with (word.Setting s) vs = says.OneSetting s (get_or vs 0 0)
line_with word.Region vs = says.OneRegion (record {
  base = get_or vs 0 0;
  size = get_or vs 1 0;
  kind = get_or all_kinds (get_or vs 2 0) kind.Block;
  gpi = get_or all_gpis (get_or vs 3 0) gpi.NoAccess;
})
line_with word.Agent vs = says.NewAgent
line_with word.Delegate vs =
    says.OneAsk (ask.Delegate (get_or vs 0 0) (get_or all_sources (get_or vs 1 0) source.Realm))
line_with word.Undelegate vs =
    says.OneAsk (ask.Undelegate (get_or vs 0 0) (get_or all_sources (get_or vs 1 0) source.Realm))
line_with word.Smc vs =
    says.OneAsk (monitor_call (get_or vs 0 0) (get_or vs 1 0)
    (get_or all_worlds (get_or vs 2 0) world.Realm))
line_with word.Cpu vs = says.NewCpu
line_with word.Look vs = says.OneLook (record {
  pa = get_or vs 0 0;
  space = get_or all_spaces (get_or vs 1 0) space.Secure;
})
line_with word.Turn vs = says.OneSlot (slot.Turn (get_or vs 0 0) (get_or vs 1 0))
line_with word.Round vs = says.OneSlot (slot.Round (get_or vs 0 0) (get_or vs 1 0))
line_with word.End vs = says.End

-- a line, if its turns have room
abbrev pub in_turns : Context → Line → Result Line Fault
in_turns st (says.OneSlot s) =
    if nat_lt turn_limit (st.turns + turns_of st.callers s) then Err fault.Limit
    else Ok (says.OneSlot s)
in_turns st l = Ok l

abbrev pub or_fault : {A : Type 0} → Result A RowFault → Result A Fault
or_fault (Ok x) = Ok x
or_fault (Err f) = Err (fault_of f)

abbrev pub read_values : Context → Word → List (List ℕ) → Result Line Fault
read_values st w fields =
    or_fault (ok_padded (read_row (kinds_of st w) fields)) >>= λ vs. in_turns st (line_with w vs)

-- an agent or a processor, if one more caller has room
unfoldable pub read_word : Context → Word → List (List ℕ) → Result Line Fault
read_word st w fields =
    if is_caller w && nat_le caller_limit st.callers then Err fault.Limit
    else read_values st w fields

abbrev pub read_known : Context → Option Word → List (List ℕ) → Result Line Fault
read_known st None fields = Err fault.Word
read_known st (Some w) fields =
    if may_come st.place w then read_word st w fields else Err fault.Word

abbrev pub read_fields : Context → List (List ℕ) → Result Line Fault
read_fields st [] = Err fault.Word
read_fields st (first ∷ fields) = read_known st (word_of first) fields

unfoldable pub read_line : Context → List (List ℕ) → Result Line Fault
read_line st fields = if is_ended st.place then Err fault.After else read_fields st fields

-- ---- which line may come, and what the next one is held against

pub record InLimits (st : Context) : Type 0 where
  pub gigabytes : st.gigabytes ≤ 64
  pub callers : st.callers ≤ caller_limit
  pub turns : st.turns ≤ turn_limit

-- the word of a line
abbrev pub word_for : Line → Word
word_for (says.OneSetting s n) = word.Setting s
word_for (says.OneRegion r) = word.Region
word_for says.NewAgent = word.Agent
word_for says.NewCpu = word.Cpu
word_for (says.OneAsk (ask.Delegate pa s)) = word.Delegate
word_for (says.OneAsk (ask.Undelegate pa s)) = word.Undelegate
word_for (says.OneAsk (ask.SmcDelegate pa w)) = word.Smc
word_for (says.OneAsk (ask.SmcUndelegate pa w)) = word.Smc
word_for (says.OneLook l) = word.Look
word_for (says.OneSlot (slot.Turn c n)) = word.Turn
word_for (says.OneSlot (slot.Round n t)) = word.Round
word_for says.End = word.End

-- the values that a line may have
abbrev pub InRange : Context → Line → Type 0
InRange st (says.OneSetting s n) = FieldFits (setting_kind s) n
InRange st (says.OneRegion r) = IsRegion r
InRange st says.NewAgent = st.callers < caller_limit
InRange st says.NewCpu = st.callers < caller_limit
InRange st (says.OneAsk a) = IsAsk a
InRange st (says.OneLook l) = (l.pa < st.gigabytes * region_bytes) × (l.pa < 2 ^ 64)
InRange st (says.OneSlot s) = IsSlot st.callers s × (st.turns + turns_of st.callers s ≤ turn_limit)
InRange st says.End = Unit {0}

-- a line that may come next
pub record Next (st : Context) (l : Line) : Type 0 where
  pub comes : may_come st.place (word_for l) ≡ true
  pub values : InRange st l

abbrev pub place_after : Line → Place
place_after (says.OneSetting s n) = head_place (head_index s + 1)
place_after (says.OneRegion r) = places.Regions
place_after says.NewAgent = places.InAgent
place_after says.NewCpu = places.InCpu
place_after (says.OneAsk a) = places.InAgent
place_after (says.OneLook l) = places.InCpu
place_after (says.OneSlot s) = places.Schedule
place_after says.End = places.Ended

abbrev pub gigabytes_after : Context → Line → ℕ
gigabytes_after st (says.OneSetting setting.Space n) = n
gigabytes_after st l = st.gigabytes

abbrev pub callers_after : Context → Line → ℕ
callers_after st says.NewAgent = st.callers + 1
callers_after st says.NewCpu = st.callers + 1
callers_after st l = st.callers

abbrev pub turns_after : Context → Line → ℕ
turns_after st (says.OneSlot s) = st.turns + turns_of st.callers s
turns_after st l = st.turns

-- the context of the line after this one
abbrev pub after : Context → Line → Context
after st l = record {
  place = place_after l;
  gigabytes = gigabytes_after st l;
  callers = callers_after st l;
  turns = turns_after st l;
}

-- ---- texts

-- a fault of line n
abbrev pub at_line : {A : Type 0} → ℕ → Result A Fault → Result A (ℕ × Fault)
at_line n (Ok x) = Ok x
at_line n (Err f) = Err (n, f)

abbrev pub unless : Option (ℕ × Fault) → Result (List Line) (ℕ × Fault)
unless None = Ok []
unless (Some bad) = Err bad

-- the pieces between line feeds; the first is line n
unfoldable pub read_from : ℕ → Context → List (List ℕ) → Result (List Line) (ℕ × Fault)
read_from n st [] = Err (n, fault.End)
read_from n st (rest ∷ []) = unless (rest_fault st.place n rest)
read_from n st (line ∷ next ∷ more) = do
  l ← at_line n (read_line st (fields_in line))
  ls ← read_from (n + 1) (after st l) (next ∷ more)
  Ok (l ∷ ls)

-- what a function returned, seen by view, is what reading gives, unless memory ran out
abbrev pub Fails : {Y : Type 0} → TextError → Result Y (ℕ × Fault) → Type 0
Fails error.Memory read = Unit {0}
Fails (error.Line n f) read = read ≡ Err (n, f)

abbrev pub Reads : {X Y : Type 0} → (X → Y) → Result X TextError → Result Y (ℕ × Fault) → Type 0
Reads view (Ok x) read = read ≡ Ok (view x)
Reads view (Err e) read = Fails e read

unfoldable pub read_all : List ℕ → Result (List Line) (ℕ × Fault)
read_all bytes = read_from 1 start (lines_in bytes)
