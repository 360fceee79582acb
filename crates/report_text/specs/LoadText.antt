-- The summary of a load: what its calls were answered, and what its words show, in counts.
use Rattle.std.specs.Prelude.{ℕ, ◌+◌, ◌-◌, ◌*◌, Bool, true, false, not, List, [], ◌∷◌, ◌++◌, length, count_by, sum_by, codes, Option, Some}
use Rattle.std.specs.List.{flat_map, range_with_len}
use Rattle.gpt_descriptors.specs.declared.entry.L1Entry.{L1Entry}
use Rattle.gpt_descriptors.specs.declared.entry.L1Entry.TheVariants as l1
use Rattle.gpt_descriptors.specs.declared.size.Size.{Size}
use Rattle.gpt_descriptors.specs.declared.size.Size.TheVariants as size
use Rattle.gpt_descriptors.specs.Entries.{l1_entry}
use Rattle.gpt_descriptors.specs.Places.{GeometryData, blocks_in_region, table_part, generation_word}
use Rattle.history.specs.declared.call.Answer.{Answer}
use Rattle.history.specs.declared.call.Answer.TheVariants as answer
use Rattle.history.specs.declared.call.Via.{Via}
use Rattle.history.specs.declared.call.Via.TheVariants as via
use Rattle.history.specs.declared.outcome.Outcome.{Outcome}
use Rattle.scenario_text.specs.declared.scenario.Scenario.{Scenario}
use Rattle.scenario_text.specs.declared.scenario.Script.{Script}
use Rattle.scenario_text.specs.Calls.{calls_of}
use Rattle.line_text.specs.Lines.{count}
use Rattle.report_text.specs.TablesText.{line, end_line}
use Rattle.report_text.specs.declared.load.Counted.{Counted}
use Rattle.report_text.specs.declared.load.Counted.TheVariants as counted

-- ---- answers

abbrev pub counted_name : Counted → List ℕ
counted_name counted.Done = codes "done"
counted_name counted.Perm = codes "perm"
counted_name counted.Worn = codes "worn"
counted_name counted.Inval = codes "inval"
counted_name counted.Unknown = codes "unknown"
counted_name counted.Granted = codes "granted"
counted_name counted.Fault = codes "fault"
counted_name counted.Hit = codes "hit"
counted_name counted.Cold = codes "cold"
counted_name counted.Missed = codes "missed"

abbrev pub is_via : Counted → Via → Bool
is_via counted.Hit (via.Hit reach at) = true
is_via counted.Cold (via.Cold reach lo hi) = true
is_via counted.Missed (via.Missed reach next tag at lo hi) = true
is_via c v = false

-- the answer is counted under this name
abbrev pub is_counted : Counted → Answer → Bool
is_counted counted.Done (answer.Done generations) = true
is_counted counted.Perm (answer.Perm found) = true
is_counted counted.Worn (answer.Worn size value) = true
is_counted counted.Inval answer.Inval = true
is_counted counted.Unknown answer.Unknown = true
is_counted counted.Granted (answer.Seen access) = access.allowed
is_counted counted.Fault (answer.Seen access) = not access.allowed
is_counted c (answer.Seen access) = is_via c access.via
is_counted c a = false

-- the names, in the order of their lines
abbrev pub all_counted : List Counted
all_counted =
    counted.Done ∷ counted.Perm ∷ counted.Worn ∷ counted.Inval ∷ counted.Unknown
    ∷ counted.Granted ∷ counted.Fault ∷ counted.Hit ∷ counted.Cold ∷ counted.Missed ∷ []

-- the answers of all callers that are counted under a name
abbrev pub count_in : Counted → List (List Answer) → ℕ
count_in c answers = sum_by (count_by (is_counted c)) answers

-- the calls of all callers without an answer
abbrev pub left_in : List Script → List (List Answer) → ℕ
left_in [] answers = 0
left_in (s ∷ scripts) [] = calls_of s + left_in scripts []
left_in (s ∷ scripts) (own ∷ answers) = calls_of s - length own + left_in scripts answers

-- ---- words

-- the L1 word is the contiguous descriptor of this size
abbrev pub is_size : Size → Size → Bool
is_size size.Two size.Two = true
is_size size.ThirtyTwo size.ThirtyTwo = true
is_size size.FiveTwelve size.FiveTwelve = true
is_size z other = false

abbrev pub is_contiguous : Size → Option L1Entry → Bool
is_contiguous z (Some (l1.Contig other gpi)) = is_size z other
is_contiguous z e = false

-- the L1 words that are
abbrev pub contiguous_in : GeometryData → List ℕ → Size → ℕ
contiguous_in g words z = count_by (λ word. is_contiguous z (l1_entry word)) (table_part g words)

-- the sum over the 512 MB generations of what each is above the first one
abbrev pub raises_in : GeometryData → List ℕ → ℕ
raises_in g words =
    sum_by (λ block. generation_word g words size.FiveTwelve block - g.setup.first)
    (range_with_len 0 (blocks_in_region size.FiveTwelve * g.setup.gigabytes))

-- ---- the whole summary

abbrev pub count_line : List ℕ → ℕ → List ℕ
count_line name n = line (name ∷ count n ∷ [])

abbrev pub answer_counts : List (List Answer) → List ℕ
answer_counts answers = flat_map (λ c. count_line (counted_name c) (count_in c answers)) all_counted

abbrev pub word_counts : GeometryData → List ℕ → List ℕ
word_counts g words =
    count_line (codes "contig2m") (contiguous_in g words size.Two)
    ++ count_line (codes "contig32m") (contiguous_in g words size.ThirtyTwo)
    ++ count_line (codes "contig512m") (contiguous_in g words size.FiveTwelve)
    ++ count_line (codes "gens") (raises_in g words)

unfoldable pub report_of_load : ℕ → Scenario → Outcome → List ℕ
report_of_load number s o =
    line (codes "report" ∷ codes "1" ∷ codes "load" ∷ count number ∷ [])
    ++ answer_counts o.answers ++ count_line (codes "left") (left_in s.scripts o.answers)
    ++ word_counts o.geometry o.words ++ end_line
