-- Parts of a scenario's text, as the functions append them. It serves their contracts: nobody has
-- to believe it.
use Rattle.std.specs.Prelude.{◌≡◌, ℕ, List, [], ◌∷◌, ◌++◌, String, string_bytes}
use Rattle.std.specs.List.{flat_map}
use Rattle.gpt_descriptors.specs.Sizes.{SetupData}
use Rattle.scenario_text.specs.declared.word.Setting.TheVariants as setting
use Rattle.scenario_text.specs.Spelling.{Line, OneSetting, line_text, max_count}

-- a text was appended
abbrev pub Adds : {Z : Type 0} → String Z → List ℕ → String Z → Type 0
Adds old text new = string_bytes new ≡ string_bytes old ++ text

-- the text of some lines was appended
abbrev pub AddsLines : {Z : Type 0} → String Z → List Line → String Z → Type 0
AddsLines old lines new = Adds old (flat_map line_text lines) new

-- the format and the sizes of the space
abbrev pub space_lines : SetupData → List Line
space_lines s =
    OneSetting setting.Gpt 1 ∷ OneSetting setting.Space s.gigabytes
    ∷ OneSetting setting.Max (max_count s.max) ∷ OneSetting setting.Locks s.lock_blocks ∷ []

-- the generations, the walks that are kept and the tables
abbrev pub table_lines : SetupData → List Line
table_lines s =
    OneSetting setting.First s.first ∷ OneSetting setting.Ring s.ring
    ∷ OneSetting setting.Tables s.tables ∷ OneSetting setting.Base s.base ∷ []
