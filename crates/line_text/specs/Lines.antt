-- Lines of text: fields between single spaces, each line ended by a line feed.
use Rattle.std.specs.Prelude.{ℕ, List, [], ◌∷◌, ◌++◌, codes, false, ◌==◌}
use Rattle.std.specs.List.{join_with_byte, slice_split}
use Rattle.std.specs.Fmt.{decimal, digits}

-- a count: decimal digits without a leading zero
abbrev pub count : ℕ → List ℕ
count n = decimal n

-- an address: 0x and hexadecimal digits without a leading zero
abbrev pub address : ℕ → List ℕ
address n = codes "0x" ++ digits 16 false n

-- the line of some fields
abbrev pub line : List (List ℕ) → List ℕ
line fields = join_with_byte 32 fields ++ 10 ∷ []

-- the fields of a line, which is given without its line feed
abbrev pub fields_in : List ℕ → List (List ℕ)
fields_in text = slice_split (λ c. c == 32) text

-- the pieces of a text between its line feeds
abbrev pub lines_in : List ℕ → List (List ℕ)
lines_in text = slice_split (λ c. c == 10) text
