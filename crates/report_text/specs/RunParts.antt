-- Parts of the text of a run, as the functions append them.
use Rattle.std.specs.Prelude.{ℕ, ◌+◌, ◌*◌, Bool, not, ◌&&◌, List, [], ◌∷◌, ◌++◌, codes, ◌==◌, if◌then◌else◌}
use Rattle.std.specs.List.{flat_map, range_with_len}
use Rattle.std.specs.Fmt.{signed_decimal}
use Rattle.gpi_values.specs.declared.gpi.Space.{Space}
use Rattle.gpi_values.specs.Names.{space_name_of}
use Rattle.gpt_descriptors.specs.declared.size.Size.{Size}
use Rattle.gpt_descriptors.specs.Sizes.{table_words}
use Rattle.gpt_descriptors.specs.Places.{GeometryData}
use Rattle.alias_clean.specs.Lines.{is_resident}
use Rattle.history.specs.declared.call.Answer.{Answer}
use Rattle.history.specs.Legality.{is_seen}
use Rattle.rmm_calls.specs.Codes.{code_of}
use Rattle.line_text.specs.Lines.{count, address}
use Rattle.report_text.specs.TablesText.{line}
use Rattle.report_text.specs.RunText.{size_name, all_spaces, held_line, generation_line, granule_lines}

-- the code of a monitor call and its word, each after a space
abbrev pub code_text : Bool → Answer → List ℕ
code_text smc a =
    if smc && not (is_seen a) then codes " code " ++ signed_decimal (code_of a) else []

-- the line of a generation of this value
abbrev pub changed_line : Size → ℕ → ℕ → ℕ → List ℕ
changed_line z block value first =
    if value == first then [] else line (codes "gen" ∷ size_name z ∷ count block ∷ count value ∷ [])

-- the line of granule k of the sixteen of a line word, in a space
abbrev pub set_line : ℕ → ℕ → ℕ → Space → List ℕ
set_line pa word k space =
    if is_resident word k space
    then line (codes "line" ∷ address pa ∷ space_name_of space ∷ [])
    else []

-- the lines of that granule
unfoldable pub set_lines : ℕ → ℕ → ℕ → List ℕ
set_lines pa word k = flat_map (set_line pa word k) all_spaces

-- the lines of n granules of a line word, the first of which has this number
unfoldable pub word_lines : ℕ → ℕ → ℕ → ℕ → List ℕ
word_lines bytes word first n =
    flat_map (λ k. set_lines ((first + k) * bytes) word k) (range_with_len 0 n)

-- the lines of n granules from one on
unfoldable pub granules_text : GeometryData → List ℕ → ℕ → ℕ → List ℕ
granules_text g words first n = flat_map (granule_lines g words) (range_with_len first n)

-- the lines of gigabyte q
abbrev pub gigabyte_text : GeometryData → List ℕ → ℕ → List ℕ
gigabyte_text g words q =
    granules_text g words (16 * (q * table_words g.setup)) (16 * table_words g.setup)

-- the first locks that are held
unfoldable pub held_upto : List ℕ → ℕ → List ℕ
held_upto words n = flat_map (held_line words) (range_with_len 0 n)

-- the first generations of a size that have changed
unfoldable pub generations_upto : GeometryData → List ℕ → Size → ℕ → List ℕ
generations_upto g words z n = flat_map (generation_line g words z) (range_with_len 0 n)
