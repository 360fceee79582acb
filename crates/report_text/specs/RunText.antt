-- The text of a run: what each call was answered, which calls are left, which locks are held, the
-- tables, the generations that have changed, and the resident lines.
use Rattle.std.specs.Prelude.{◌≡◌, ℕ, ◌+◌, ◌-◌, ◌*◌, Bool, true, false, not, ◌&&◌, List, [], ◌∷◌, ◌++◌, length, map, codes, ◌==◌, if◌then◌else◌}
use Rattle.std.specs.List.{flat_map, range_with_len}
use Rattle.std.specs.Fmt.{signed_decimal}
use Rattle.gpi_values.specs.declared.gpi.Space.{Space}
use Rattle.gpi_values.specs.declared.gpi.Space.TheVariants as space
use Rattle.gpi_values.specs.Names.{name_of, space_name_of}
use Rattle.gpt_descriptors.specs.declared.size.Size.{Size}
use Rattle.gpt_descriptors.specs.declared.size.Size.TheVariants as size
use Rattle.gpt_descriptors.specs.declared.size.Reach.{Reach}
use Rattle.gpt_descriptors.specs.declared.size.Reach.TheVariants as reach
use Rattle.gpt_descriptors.specs.Sizes.{granule_bytes, space_granules}
use Rattle.gpt_descriptors.specs.Places.{GeometryData, l0_words, blocks_in_region, word_count, table_part, generation_word}
use Rattle.bit_locks.specs.Locks.{lock_bit}
use Rattle.alias_clean.specs.Lines.{has_line}
use Rattle.history.specs.declared.call.Answer.{Answer}
use Rattle.history.specs.declared.call.Answer.TheVariants as answer
use Rattle.history.specs.declared.call.Via.{Via}
use Rattle.history.specs.declared.call.Via.TheVariants as via
use Rattle.history.specs.declared.outcome.Outcome.{Outcome}
use Rattle.history.specs.Legality.{is_seen}
use Rattle.rmm_calls.specs.Codes.{code_of}
use Rattle.scenario_text.specs.declared.scenario.Scenario.{Scenario}
use Rattle.scenario_text.specs.declared.scenario.Script.{Script}
use Rattle.scenario_text.specs.declared.scenario.Script.TheVariants as script
use Rattle.scenario_text.specs.declared.scenario.Ask.{Ask}
use Rattle.scenario_text.specs.declared.scenario.Ask.TheVariants as ask
use Rattle.line_text.specs.Lines.{count, address}
use Rattle.scenario_text.specs.Calls.{calls_of, AreAnswersOf}
use Rattle.report_text.specs.declared.run.Mode.{Mode}
use Rattle.report_text.specs.declared.run.Mode.TheVariants as mode
use Rattle.report_text.specs.TablesText.{line, words_text, report_line, end_line}

-- ---- names

abbrev pub mode_name : Mode → List ℕ
mode_name mode.Play = codes "play"
mode_name mode.Race = codes "race"

abbrev pub size_name : Size → List ℕ
size_name size.Two = codes "2m"
size_name size.ThirtyTwo = codes "32m"
size_name size.FiveTwelve = codes "512m"

abbrev pub reach_name : Reach → List ℕ
reach_name reach.Word = codes "64k"
reach_name reach.Two = codes "2m"
reach_name reach.ThirtyTwo = codes "32m"
reach_name reach.FiveTwelve = codes "512m"

abbrev pub verdict_name : Bool → List ℕ
verdict_name true = codes "granted"
verdict_name false = codes "fault"

-- ---- answers

abbrev pub via_fields : Via → List (List ℕ)
via_fields via.Still = codes "still" ∷ []
via_fields (via.Hit reach at) = codes "hit" ∷ reach_name reach ∷ count at ∷ []
via_fields (via.Cold reach lo hi) = codes "cold" ∷ reach_name reach ∷ count lo ∷ count hi ∷ []
via_fields (via.Missed reach next tag at lo hi) =
    codes "missed" ∷ reach_name reach ∷ count tag ∷ count at
    ∷ reach_name next ∷ count lo ∷ count hi ∷ []

abbrev pub answer_fields : Answer → List (List ℕ)
answer_fields answer.Inval = codes "inval" ∷ []
answer_fields answer.Unknown = codes "unknown" ∷ []
answer_fields (answer.Perm found) = codes "perm" ∷ name_of found ∷ []
answer_fields (answer.Worn size value) = codes "worn" ∷ size_name size ∷ count value ∷ []
answer_fields (answer.Done generations) =
    codes "done" ∷ count generations.two ∷ count generations.thirty_two
    ∷ count generations.five_twelve ∷ []
answer_fields (answer.Seen access) =
    verdict_name access.allowed ∷ name_of access.gpi ∷ count access.level ∷ via_fields access.via

-- the code of a monitor call, after an answer that is none of an access
abbrev pub code_fields : Bool → Answer → List (List ℕ)
code_fields smc a =
    if smc && not (is_seen a) then codes "code" ∷ signed_decimal (code_of a) ∷ [] else []

-- call k of caller c
abbrev pub call_name : ℕ → ℕ → List ℕ
call_name c k = count c ++ 46 ∷ count k

abbrev pub call_line : ℕ → ℕ → Bool → Answer → List ℕ
call_line c k smc a = line (call_name c k ∷ (answer_fields a ++ code_fields smc a))

-- ---- callers

-- the call comes through the monitor
abbrev pub is_smc : Ask → Bool
is_smc (ask.Delegate pa source) = false
is_smc (ask.Undelegate pa source) = false
is_smc (ask.SmcDelegate pa world) = true
is_smc (ask.SmcUndelegate pa world) = true

-- for each call of a script, whether it comes through the monitor
abbrev pub script_calls : Script → List Bool
script_calls (script.Agent asks) = map is_smc asks
script_calls (script.Cpu looks) = map (λ look. false) looks

-- the answered calls from call k on
abbrev pub answers_text : ℕ → ℕ → List Bool → List Answer → List ℕ
answers_text c k [] answers = []
answers_text c k (smc ∷ calls) [] = []
answers_text c k (smc ∷ calls) (a ∷ answers) =
    call_line c k smc a ++ answers_text c (k + 1) calls answers

-- the lines of one caller
abbrev pub caller_text : ℕ → Script → List Answer → List ℕ
caller_text c s answers = answers_text c 0 (script_calls s) answers

-- the lines of all callers from caller c on
abbrev pub callers_text : ℕ → List Script → List (List Answer) → List ℕ
callers_text c [] answers = []
callers_text c (s ∷ scripts) [] = []
callers_text c (s ∷ scripts) (own ∷ answers) =
    caller_text c s own ++ callers_text (c + 1) scripts answers

-- a caller with calls left
abbrev pub left_line : ℕ → ℕ → List ℕ
left_line c n = if n == 0 then [] else line (codes "left" ∷ count c ∷ count n ∷ [])

abbrev pub left_text : ℕ → List Script → List (List Answer) → List ℕ
left_text c [] answers = []
left_text c (s ∷ scripts) [] = []
left_text c (s ∷ scripts) (own ∷ answers) =
    left_line c (calls_of s - length own) ++ left_text (c + 1) scripts answers

-- ---- the shared words

-- the locks that are held, in rising order
abbrev pub held_line : List ℕ → ℕ → List ℕ
held_line words n = if lock_bit words n == 1 then line (codes "held" ∷ count n ∷ []) else []

abbrev pub held_text : List ℕ → List ℕ
held_text words = flat_map (held_line words) (range_with_len 0 128)

abbrev pub tables_part_text : GeometryData → List ℕ → List ℕ
tables_part_text g words =
    words_text (record { setup = g.setup; l0 = l0_words g; l1 = table_part g words })

-- the generations that aren't the first one, the smallest size first
abbrev pub generation_line : GeometryData → List ℕ → Size → ℕ → List ℕ
generation_line g words z block =
    if generation_word g words z block == g.setup.first then []
    else line (codes "gen" ∷ size_name z ∷ count block
    ∷ count (generation_word g words z block) ∷ [])

abbrev pub generations_text : GeometryData → List ℕ → Size → List ℕ
generations_text g words z =
    flat_map (generation_line g words z) (range_with_len 0 (blocks_in_region z * g.setup.gigabytes))

-- the resident lines, by granule and then by space
abbrev pub all_spaces : List Space
all_spaces = space.Secure ∷ space.NonSecure ∷ space.Root ∷ space.Realm ∷ []

abbrev pub resident_line : GeometryData → List ℕ → ℕ → Space → List ℕ
resident_line g words granule space =
    if has_line g words granule space
    then line (codes "line" ∷ address (granule * granule_bytes g.setup) ∷ space_name_of space ∷ [])
    else []

abbrev pub granule_lines : GeometryData → List ℕ → ℕ → List ℕ
granule_lines g words granule = flat_map (resident_line g words granule) all_spaces

abbrev pub lines_text : GeometryData → List ℕ → List ℕ
lines_text g words = flat_map (granule_lines g words) (range_with_len 0 (space_granules g.setup))

-- the state that the shared words show
abbrev pub state_text : GeometryData → List ℕ → List ℕ
state_text g words =
    held_text words ++ tables_part_text g words
    ++ flat_map (generations_text g words) (size.Two ∷ size.ThirtyTwo ∷ size.FiveTwelve ∷ [])
    ++ lines_text g words

-- ---- the whole report

-- an outcome of a scenario: a list of answers for each script, none longer than its calls, and all
-- words
pub record FitsScenario (s : Scenario) (o : Outcome) : Type 0 where
  pub answers : AreAnswersOf s.scripts o.answers
  pub words : length o.words ≡ word_count o.geometry

-- the report of a run
unfoldable pub report_of_run : Mode → Scenario → Outcome → List ℕ
report_of_run m s o =
    report_line (mode_name m) ++ callers_text 0 s.scripts o.answers
    ++ left_text 0 s.scripts o.answers ++ state_text o.geometry o.words ++ end_line
