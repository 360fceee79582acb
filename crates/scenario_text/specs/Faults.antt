-- The first bad line of a text and its fault, over the list of its lines: which line may come
-- where, and what the fields of a line have to be.
use Rattle.std.specs.Prelude.{◌≡◌, ℕ, ◌+◌, ◌*◌, Bool, true, false, ◌&&◌, not, List, [], ◌∷◌, Option, Some, None, unwrap_or, ◌==◌, nat_lt, nat_le, codes, if◌then◌else◌}
use Rattle.std.specs.List.{find}
use Rattle.std.specs.Str.{bytes_eq}
use Rattle.std.specs.Option.{option_or, option_map}
use Rattle.gpt_descriptors.specs.Sizes.{generation_last, region_bytes}
use Rattle.line_text.specs.declared.kind.RowFault.{RowFault}
use Rattle.line_text.specs.declared.kind.RowFault.TheVariants as row_fails
use Rattle.line_text.specs.Lines.{fields_in, lines_in}
use Rattle.line_text.specs.Numerals.{count_in}
use Rattle.line_text.specs.Rows.{Any, Between, Below, Among, FieldKind, Count, Address, Name, row_fault}
use Rattle.scenario_text.specs.declared.scenario.Fault.{Fault}
use Rattle.scenario_text.specs.declared.scenario.Fault.TheVariants as fault
use Rattle.scenario_text.specs.declared.scenario.TextError.{TextError}
use Rattle.scenario_text.specs.declared.scenario.TextError.TheVariants as error
use Rattle.scenario_text.specs.declared.context.Place.{Place}
use Rattle.scenario_text.specs.declared.context.Place.TheVariants.{Head, Regions, InAgent, InCpu, Schedule, Ended}
use Rattle.scenario_text.specs.declared.context.Context.{Context}
use Rattle.scenario_text.specs.declared.word.Setting.{Setting}
use Rattle.scenario_text.specs.declared.word.Setting.TheVariants as setting
use Rattle.scenario_text.specs.declared.word.Word.{Word}
use Rattle.scenario_text.specs.declared.word.Word.TheVariants as word
use Rattle.scenario_text.specs.Spelling.{setting_name, caller_limit, turn_limit}

-- ---- words

abbrev pub word_text : Word → List ℕ
word_text (word.Setting s) = setting_name s
word_text word.Region = codes "region"
word_text word.Agent = codes "agent"
word_text word.Delegate = codes "delegate"
word_text word.Undelegate = codes "undelegate"
word_text word.Smc = codes "smc"
word_text word.Cpu = codes "cpu"
word_text word.Look = codes "look"
word_text word.Turn = codes "turn"
word_text word.Round = codes "round"
word_text word.End = codes "end"

abbrev pub all_words : List Word
all_words =
    word.Look ∷ word.Turn ∷ word.Round ∷ word.Delegate ∷ word.Undelegate ∷ word.Smc ∷ word.Region
    ∷ word.Agent ∷ word.Cpu ∷ word.End ∷ word.Setting setting.Gpt ∷ word.Setting setting.Space
    ∷ word.Setting setting.Max ∷ word.Setting setting.Locks ∷ word.Setting setting.First
    ∷ word.Setting setting.Ring ∷ word.Setting setting.Tables ∷ word.Setting setting.Base ∷ []

-- the word that a field is
unfoldable pub word_of : List ℕ → Option Word
word_of field = find (λ w. bytes_eq field (word_text w)) all_words

-- ---- the place of a line

-- the first line
abbrev pub start : Context
start = record { place = Head 0; gigabytes = 0; callers = 0; turns = 0 }

-- the place of a setting in the head
abbrev pub head_index : Setting → ℕ
head_index setting.Gpt = 0
head_index setting.Space = 1
head_index setting.Max = 2
head_index setting.Locks = 3
head_index setting.First = 4
head_index setting.Ring = 5
head_index setting.Tables = 6
head_index setting.Base = 7

-- a section, the schedule or the end may begin
abbrev pub may_follow : Word → Bool
may_follow word.Agent = true
may_follow word.Cpu = true
may_follow word.Turn = true
may_follow word.Round = true
may_follow word.End = true
may_follow w = false

abbrev pub may_come : Place → Word → Bool
may_come (Head k) (word.Setting s) = head_index s == k
may_come (Head k) w = false
may_come Regions word.Region = true
may_come Regions w = may_follow w
may_come InAgent word.Delegate = true
may_come InAgent word.Undelegate = true
may_come InAgent word.Smc = true
may_come InAgent w = may_follow w
may_come InCpu word.Look = true
may_come InCpu w = may_follow w
may_come Schedule word.Turn = true
may_come Schedule word.Round = true
may_come Schedule word.End = true
may_come Schedule w = false
may_come Ended w = false

-- ---- what the fields after the first one have to be

abbrev pub turn_count : FieldKind
turn_count = Count (Between 1 turn_limit)

abbrev pub setting_kind : Setting → FieldKind
setting_kind setting.Gpt = Count (Among (1 ∷ []))
setting_kind setting.Space = Count (Among (4 ∷ 64 ∷ []))
setting_kind setting.Max = Count (Among (0 ∷ 2 ∷ 32 ∷ 512 ∷ []))
setting_kind setting.Locks = Count (Among (0 ∷ 1 ∷ 2 ∷ 4 ∷ 8 ∷ []))
setting_kind setting.First = Count (Between 0 generation_last)
setting_kind setting.Ring = Count (Between 1 64)
setting_kind setting.Tables = Count (Between 0 16)
setting_kind setting.Base = Address Any

abbrev pub kinds_of : Context → Word → List FieldKind
kinds_of st (word.Setting s) = setting_kind s ∷ []
kinds_of st word.Region =
    Address Any ∷ Address Any ∷ Name (codes "block" ∷ codes "granule" ∷ [])
    ∷ Name (codes "none" ∷ codes "secure" ∷ codes "nonsecure" ∷ codes "root" ∷ codes "realm"
    ∷ codes "any" ∷ []) ∷ []
kinds_of st word.Delegate = Address Any ∷ Name (codes "realm" ∷ codes "secure" ∷ []) ∷ []
kinds_of st word.Undelegate = Address Any ∷ Name (codes "realm" ∷ codes "secure" ∷ []) ∷ []
kinds_of st word.Smc =
    Name (codes "delegate" ∷ codes "undelegate" ∷ []) ∷ Address Any
    ∷ Name (codes "realm" ∷ codes "secure" ∷ codes "nonsecure" ∷ []) ∷ []
kinds_of st word.Look =
    Address (Below (st.gigabytes * region_bytes))
    ∷ Name (codes "secure" ∷ codes "nonsecure" ∷ codes "root" ∷ codes "realm" ∷ []) ∷ []
kinds_of st word.Turn = Count (Below st.callers) ∷ turn_count ∷ []
kinds_of st word.Round = turn_count ∷ turn_count ∷ []
kinds_of st w = []

abbrev pub number_of : List ℕ → ℕ
number_of field = unwrap_or (count_in field) 0

-- the turns of a line of the schedule
abbrev pub line_turns : Context → Word → List (List ℕ) → ℕ
line_turns st word.Turn (caller ∷ turns ∷ []) = number_of turns
line_turns st word.Round (turns ∷ times ∷ []) = number_of turns * number_of times * st.callers
line_turns st w fields = 0

abbrev pub is_caller : Word → Bool
is_caller word.Agent = true
is_caller word.Cpu = true
is_caller w = false

-- ---- the fault of a line, in the order in which faults are reported

abbrev pub fault_of : RowFault → Fault
fault_of row_fails.Fields = fault.Fields
fault_of row_fails.Number = fault.Number
fault_of row_fails.Value = fault.Value

abbrev pub word_fault : Context → Word → List (List ℕ) → Option Fault
word_fault st w fields =
    if not (may_come st.place w) then Some fault.Word else
    if is_caller w && nat_le caller_limit st.callers then Some fault.Limit else
    option_or (option_map fault_of (row_fault (kinds_of st w) fields)) (
    if nat_lt turn_limit (st.turns + line_turns st w fields) then Some fault.Limit else None)

abbrev pub known_word_fault : Context → Option Word → List (List ℕ) → Option Fault
known_word_fault st None fields = Some fault.Word
known_word_fault st (Some w) fields = word_fault st w fields

unfoldable pub line_fault : Context → List (List ℕ) → Option Fault
line_fault st [] = Some fault.Word
line_fault st (first ∷ fields) = known_word_fault st (word_of first) fields

-- ---- the context of the next line

-- line k of the head; after the last one come the regions
abbrev pub head_place : ℕ → Place
head_place k = if k == 8 then Regions else Head k

abbrev pub next_place : Word → Place
next_place (word.Setting s) = head_place (head_index s + 1)
next_place word.Region = Regions
next_place word.Cpu = InCpu
next_place word.Look = InCpu
next_place word.Turn = Schedule
next_place word.Round = Schedule
next_place word.End = Ended
next_place w = InAgent

abbrev pub space_after : Context → Word → List (List ℕ) → ℕ
space_after st (word.Setting setting.Space) (gigabytes ∷ []) = number_of gigabytes
space_after st w fields = st.gigabytes

abbrev pub after_word : Context → Option Word → List (List ℕ) → Context
after_word st None fields = st
after_word st (Some w) fields = record {
  place = next_place w;
  gigabytes = space_after st w fields;
  callers = if is_caller w then st.callers + 1 else st.callers;
  turns = st.turns + line_turns st w fields;
}

unfoldable pub after_line : Context → List (List ℕ) → Context
after_line st [] = st
after_line st (first ∷ fields) = after_word st (word_of first) fields

-- ---- the first bad line

abbrev pub is_ended : Place → Bool
is_ended Ended = true
is_ended place = false

-- the rest of the input after its last line feed
abbrev pub rest_fault : Place → ℕ → List ℕ → Option (ℕ × Fault)
rest_fault Ended n [] = None
rest_fault Ended n (c ∷ cs) = Some (n, fault.After)
rest_fault place n rest = Some (n, fault.End)

-- a fault of line n, else one after it
abbrev pub next_bad : ℕ → Option Fault → Option (ℕ × Fault) → Option (ℕ × Fault)
next_bad n (Some f) later = Some (n, f)
next_bad n None later = later

-- the pieces between line feeds, of which the last is that rest; the first piece is line n
unfoldable pub first_bad_from : ℕ → Context → List (List ℕ) → Option (ℕ × Fault)
first_bad_from n st [] = None
first_bad_from n st (rest ∷ []) = rest_fault st.place n rest
first_bad_from n st (line ∷ next ∷ more) =
    if is_ended st.place then Some (n, fault.After) else
    next_bad n (line_fault st (fields_in line)) (
    first_bad_from (n + 1) (after_line st (fields_in line)) (next ∷ more))

-- the first bad line of a text, counted from 1, and its fault
unfoldable pub first_bad : List ℕ → Option (ℕ × Fault)
first_bad bytes = first_bad_from 1 start (lines_in bytes)

-- what an error of reading says of it; want of memory says nothing
abbrev pub IsFault : TextError → Option (ℕ × Fault) → Type 0
IsFault error.Memory bad = Unit {0}
IsFault (error.Line n f) bad = bad ≡ Some (n, f)
